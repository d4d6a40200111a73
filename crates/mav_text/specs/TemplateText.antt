-- The lines of frames, by what is kept of each message.
use Rattle.std.specs.Prelude.{ℕ, ◌≡◌, ◌+◌, ◌*◌, ◌<◌, ◌≤◌, Bool, true, ◌&&◌, nat_le, List, [], ◌∷◌, ◌++◌, ◌==◌, length}
use Rattle.std.specs.Prelude.{slice_get, if◌then◌else◌, Option, Some, None, option_map}
use Rattle.std.specs.Fmt.{decimal}
use Rattle.field_layout.specs.declared.ty.Ty.{Ty}
use Rattle.field_layout.specs.declared.fields.Field.{Field}
use Rattle.field_layout.specs.Types.{element_size}
use Rattle.field_layout.specs.Definition.{Definition, all_fields, base_len_of, full_len_of}
use Rattle.field_layout.specs.WireOrder.{offset_of}
use Rattle.field_layout.specs.Reading.{words_from}
use Rattle.mav_frame.specs.Packet.{Packet}
use Rattle.mav_profile.specs.Messages.{definition_with}
use Rattle.mav_text.specs.FrameText.{frame_text, shown_text, sender_text, version_text, value_bytes, block_text}

-- a field: ` name=`, its type, its length, and where its value begins in the payload
pub record FieldTemplate : Type 0 where
  pub prefix : List ℕ
  pub ty : Ty
  pub len : ℕ
  pub at : ℕ

-- a field that begins at an offset of the payload
abbrev pub field_template_at : ℕ → Field → FieldTemplate
field_template_at at field = record { prefix = 32 ∷ field.name ++ 61 ∷ []; ty = field.ty; len = field.len; at = at }

abbrev pub field_template_of : Definition → ℕ → Field → FieldTemplate
field_template_of def number field = field_template_at (offset_of def number) field

-- the fields from an index on
abbrev pub field_templates_from : Definition → ℕ → List Field → List FieldTemplate
field_templates_from def number [] = []
field_templates_from def number (field ∷ fields) =
    field_template_of def number field ∷ field_templates_from def (number + 1) fields

-- a message: its name, its fields in definition order, and the bytes of its base fields and of its whole payload
pub record LineTemplate : Type 0 where
  pub name : List ℕ
  pub field_templates : List FieldTemplate
  pub base_len : ℕ
  pub full_len : ℕ

abbrev pub line_template_of : Definition → LineTemplate
line_template_of def = record {
  name = def.name;
  field_templates = field_templates_from def 0 (all_fields def);
  base_len = base_len_of def;
  full_len = full_len_of def;
}

-- a name or ` name=` of at most 72 bytes
abbrev pub is_short : List ℕ → Bool
is_short text = nat_le (length text) 72

abbrev pub prefix_of : List ℕ → Option (List ℕ)
prefix_of text = if is_short text then Some text else None

abbrev pub if_short : FieldTemplate → Option FieldTemplate
if_short field_template = if is_short field_template.prefix then Some field_template else None

-- whether those of all fields are short, and a message's name too
abbrev pub are_short : List FieldTemplate → Bool
are_short [] = true
are_short (field_template ∷ field_templates) = is_short field_template.prefix && are_short field_templates

abbrev pub has_short_names : Definition → Bool
has_short_names def = is_short def.name && are_short (line_template_of def).field_templates

-- a value ends within so many bytes of a payload, and each of some values does
abbrev pub IsWithin : ℕ → FieldTemplate → Type 0
IsWithin len field_template = field_template.at
    + element_size field_template.ty * (if field_template.len == 0 then 1 else field_template.len) ≤ len

abbrev pub AreWithin : ℕ → List FieldTemplate → Type 0
AreWithin len field_templates = (k : ℕ) (field_template : FieldTemplate)
    → slice_get field_templates k ≡ Some field_template → IsWithin len field_template

-- a field with its value, and all fields; a payload's bytes past its end are 0
abbrev pub field_template_text : List ℕ → FieldTemplate → List ℕ
field_template_text payload field_template =
    field_template.prefix ++ shown_text field_template.ty field_template.len
    (words_from payload field_template.at (element_size field_template.ty)
    (if field_template.len == 0 then 1 else field_template.len))

abbrev pub field_templates_text : List ℕ → List FieldTemplate → List ℕ
field_templates_text payload [] = []
field_templates_text payload (field_template ∷ field_templates) =
    field_template_text payload field_template ++ field_templates_text payload field_templates

-- `OFFSET ` and the text of a frame, if its message is known, and then an ending
abbrev pub line_of : Option Definition → ℕ → Packet → List ℕ → List ℕ
line_of None offset packet ending = []
line_of (Some def) offset packet ending = decimal offset ++ 32 ∷ frame_text def packet ++ ending

-- the line of a frame by what is kept of its message
abbrev pub template_line : LineTemplate → ℕ → Packet → List ℕ → List ℕ
template_line line_template offset packet ending =
    decimal offset ++ 32 ∷ (line_template.name ++ sender_text packet ++ version_text packet.old
    ++ field_templates_text (value_bytes line_template.base_len packet) line_template.field_templates
    ++ block_text packet.block) ++ ending

-- at that index stands the template of an id's message
pub record IsIndexed (defs : List Definition) (line_templates : List LineTemplate) (id index : ℕ) : Type 0 where
  pub within : index < length line_templates
  pub there : slice_get line_templates index ≡ option_map line_template_of (definition_with id defs)

-- an id's entry, if it has one, is the index of its message's template
abbrev pub HasIndices : List Definition → List LineTemplate → List (Option ℕ) → Type 0
HasIndices defs line_templates low = (id index : ℕ) → slice_get low id ≡ Some (Some index)
    → IsIndexed defs line_templates id index
