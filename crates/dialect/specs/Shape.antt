-- The members that definitions have as JSON (RFC 8259). Other members are ignored.
use Rattle.std.specs.Prelude.{ℕ, ◌^◌, nat_lt, if◌then◌else◌, List, [], ◌∷◌, ◌++◌, codes, Option, Some, None}
use Rattle.std.specs.Prelude.{option_map, option_and_then}
use Rattle.serde_json.specs.Data.{Data, Items, no_items, item}
use Rattle.serde_json.specs.Find.{get, as_str, as_array, as_number, as_u64}

-- a field as it is written
pub record FieldText : Type 0 where
  pub ty : List ℕ
  pub name : List ℕ

-- a message as it is written
pub record MessageText : Type 0 where
  pub id : ℕ
  pub name : List ℕ
  pub fields : List FieldText
  pub extensions : List FieldText

-- all its fields, extensions last
abbrev pub all_texts : MessageText → List FieldText
all_texts text = text.fields ++ text.extensions

abbrev pub elements : Items → List Data
elements no_items = []
elements (item d ds) = d ∷ elements ds

-- a member that is a string, and one that is an array
abbrev pub text_at : List ℕ → Data → Option (List ℕ)
text_at key d = option_and_then as_str (get key d)

abbrev pub elements_of : Data → Option (List Data)
elements_of d = option_map elements (as_array d)

-- `id`: a whole number of three bytes
abbrev pub if_id : ℕ → Option ℕ
if_id n = if nat_lt n (2 ^ 24) then Some n else None

abbrev pub id_in : Data → Option ℕ
id_in d = option_and_then if_id (option_and_then as_u64 (option_and_then as_number (get (codes "id") d)))

-- a field: strings `type` and `name`
abbrev pub field_text_of : Option (List ℕ) → Option (List ℕ) → Option FieldText
field_text_of (Some ty) (Some name) = Some (record { ty = ty; name = name })
field_text_of _ _ = None

abbrev pub field_in : Data → Option FieldText
field_in d = field_text_of (text_at (codes "type") d) (text_at (codes "name") d)

-- a field before others, if each is one
abbrev pub before_others : Option FieldText → Option (List FieldText) → Option (List FieldText)
before_others (Some field) (Some fields) = Some (field ∷ fields)
before_others _ _ = None

abbrev pub each_field : List Data → Option (List FieldText)
each_field [] = Some []
each_field (d ∷ ds) = before_others (field_in d) (each_field ds)

abbrev pub fields_of : Data → Option (List FieldText)
fields_of d = option_and_then each_field (elements_of d)

-- `fields`
abbrev pub fields_in : Data → Option (List FieldText)
fields_in d = option_and_then fields_of (get (codes "fields") d)

-- `extensions`, which may be absent
abbrev pub optional_fields : Option Data → Option (List FieldText)
optional_fields None = Some []
optional_fields (Some d) = fields_of d

abbrev pub extensions_in : Data → Option (List FieldText)
extensions_in d = optional_fields (get (codes "extensions") d)

abbrev pub message_text_of : Option ℕ → Option (List ℕ) → Option (List FieldText) → Option (List FieldText)
    → Option MessageText
message_text_of (Some id) (Some name) (Some fields) (Some extensions) =
    Some (record { id = id; name = name; fields = fields; extensions = extensions })
message_text_of _ _ _ _ = None

-- a message: `id`, a string `name`, `fields` and, optionally, `extensions`
abbrev pub message_in : Data → Option MessageText
message_in d = message_text_of (id_in d) (text_at (codes "name") d) (fields_in d) (extensions_in d)

-- the top level: an array `messages`
abbrev pub messages_in : Data → Option (List Data)
messages_in d = option_and_then elements_of (get (codes "messages") d)
