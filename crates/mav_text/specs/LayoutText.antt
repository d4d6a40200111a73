-- The texts of a message's layout and of a dialect.
use Rattle.std.specs.Prelude.{ℕ, ◌==◌, if◌then◌else◌, List, [], ◌∷◌, ◌++◌, length, codes, flat_map}
use Rattle.std.specs.Fmt.{decimal}
use Rattle.field_layout.specs.declared.fields.Field.{Field}
use Rattle.field_layout.specs.Definition.{Definition, base_len_of, full_len_of}
use Rattle.field_layout.specs.WireOrder.{Placed, wire_order, offset_of}
use Rattle.field_layout.specs.CrcExtra.{crc_extra_of}
use Rattle.dialect.specs.Types.{type_word}

-- a text and the line end after it
abbrev pub line : List ℕ → List ℕ
line text = text ++ 10 ∷ []

-- a field's type, with `[N]` after an array's
abbrev pub type_text : Field → List ℕ
type_text field =
    type_word field.ty ++ (if field.len == 0 then [] else codes "[" ++ decimal field.len ++ codes "]")

-- ` OFFSET TYPE name`
abbrev pub field_line : Definition → Placed → List ℕ
field_line def field =
    line (codes " " ++ decimal (offset_of def field.0) ++ codes " " ++ type_text field.1 ++ codes " " ++ field.1.name)

-- `ID NAME len BASE full FULL extra EXTRA`
abbrev pub message_line : Definition → List ℕ
message_line def =
    line (decimal def.id ++ codes " " ++ def.name ++ codes " len " ++ decimal (base_len_of def) ++ codes " full "
    ++ decimal (full_len_of def)
    ++ codes " extra " ++ decimal (crc_extra_of def))

-- the line of a message and those of its fields in wire order
abbrev pub layout_text : Definition → List ℕ
layout_text def = message_line def ++ flat_map (field_line def) (wire_order def)

-- the texts of all messages, and `messages N`
abbrev pub dialect_text : List Definition → List ℕ
dialect_text defs = flat_map layout_text defs ++ line (codes "messages " ++ decimal (length defs))
