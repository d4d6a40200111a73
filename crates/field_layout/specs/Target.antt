-- The node that a message is for (MAVLink guide, Routing: target_system and target_component).
use Rattle.std.specs.Prelude.{ℕ, Bool, true, false, ◌==◌, ◌&&◌, List, codes, slice_index, position, Option, Some, None}
use Rattle.std.specs.Prelude.{option_map}
use Rattle.std.specs.Str.{bytes_eq}
use Rattle.field_layout.specs.declared.ty.Ty.{Ty}
use Rattle.field_layout.specs.declared.ty.Ty.TheVariants.{U8}
use Rattle.field_layout.specs.declared.fields.Field.{Field}
use Rattle.field_layout.specs.Definition.{Definition, all_fields}
use Rattle.field_layout.specs.WireOrder.{offset_of}
use Rattle.mav_names.specs.declared.names.Name.{Name}

abbrev pub is_uint8 : Ty → Bool
is_uint8 U8 = true
is_uint8 _ = false

-- a single uint8_t of that name
abbrev pub is_target : List ℕ → Field → Bool
is_target name field = is_uint8 field.ty && field.len == 0 && bytes_eq field.name name

-- the offset of that target field, base or extension, if there is one
abbrev pub target_offset : List ℕ → Definition → Option ℕ
target_offset name def = option_map (offset_of def) (position (is_target name) (all_fields def))

-- the payload's byte there, 0 if there is no such field or the payload ends before it
abbrev pub target_byte : Option ℕ → List ℕ → ℕ
target_byte None payload = 0
target_byte (Some offset) payload = slice_index payload offset

abbrev pub target_of : Definition → List ℕ → Name
target_of def payload = record {
  sys = target_byte (target_offset (codes "target_system") def) payload;
  comp = target_byte (target_offset (codes "target_component") def) payload;
}
