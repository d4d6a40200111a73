-- The byte that seeds a message's checksum (MAVLink guide, Packet Serialization: CRC_EXTRA calculation).
use Rattle.std.specs.Prelude.{ℕ, ◌/◌, ◌%◌, ◌==◌, if◌then◌else◌, List, [], ◌∷◌, ◌++◌, flat_map, bit_xor}
use Rattle.x25_check.specs.Check.{check}
use Rattle.field_layout.specs.declared.fields.Field.{Field}
use Rattle.field_layout.specs.Types.{type_name}
use Rattle.field_layout.specs.Definition.{Definition}
use Rattle.field_layout.specs.WireOrder.{Placed, base_order}

-- a name and the space after it
abbrev pub spaced : List ℕ → List ℕ
spaced name = name ++ 32 ∷ []

-- a base field's part: its type's name, its name, and for an array one byte with its length
abbrev pub field_text : Field → List ℕ
field_text field = spaced (type_name field.ty) ++ spaced field.name ++ (if field.len == 0 then [] else field.len ∷ [])

-- the message's name and its base fields in wire order
abbrev pub definition_text : Definition → List ℕ
definition_text def = spaced def.name ++ flat_map (λ (field : Placed). field_text field.1) (base_order def)

-- the low byte xor the high byte of the check of that text
abbrev pub crc_extra_of : Definition → ℕ
crc_extra_of def = bit_xor (check (definition_text def) % 256) (check (definition_text def) / 256)
