-- What a layout keeps besides its definition, which determines each of its tables.
use Rattle.std.specs.Prelude.{◌≡◌, length, map, codes, None}
use Rattle.std.specs.List.{range_with_len}
use Rattle.field_layout.specs.declared.layout.Layout.TheInside.{Inside}
use Rattle.field_layout.specs.Definition.{all_fields, base_len_of, full_len_of}
use Rattle.field_layout.specs.WireOrder.{place_of, wire_order, offset_of}
use Rattle.field_layout.specs.CrcExtra.{crc_extra_of}
use Rattle.field_layout.specs.Faults.{first_fault}
use Rattle.field_layout.specs.Target.{target_offset}

-- the definition has no fault, and each table is what it represents
pub record IsLaidOut (layout : Inside) : Type 0 where
  pub faultless : first_fault layout.def ≡ None
  pub order : layout.order.items ≡ map place_of (wire_order layout.def)
  pub offsets : layout.offsets.items ≡ map (offset_of layout.def) (range_with_len 0 (length (all_fields layout.def)))
  pub base_len : layout.base_len ≡ base_len_of layout.def
  pub full_len : layout.full_len ≡ full_len_of layout.def
  pub crc_extra : layout.crc_extra ≡ crc_extra_of layout.def
  pub target_system : layout.target_system ≡ target_offset (codes "target_system") layout.def
  pub target_component : layout.target_component ≡ target_offset (codes "target_component") layout.def
