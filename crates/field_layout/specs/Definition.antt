-- A message's definition, and the sizes of its fields.
use Rattle.std.specs.Prelude.{ℕ, ◌*◌, ◌==◌, if◌then◌else◌, List, ◌++◌, sum_by}
use Rattle.field_layout.specs.declared.fields.Field.{Field}
use Rattle.field_layout.specs.Types.{element_size}

-- a message's id, name, base fields and extension fields, both in definition order
pub record Definition : Type 0 where
  pub id : ℕ
  pub name : List ℕ
  pub fields : List Field
  pub extensions : List Field

-- all fields in definition order, extensions last
abbrev pub all_fields : Definition → List Field
all_fields def = def.fields ++ def.extensions

-- how many elements a field has: a length of 0 is a single value
abbrev pub element_count : Field → ℕ
element_count field = if field.len == 0 then 1 else field.len

-- the bytes of all its elements
abbrev pub size_of : Field → ℕ
size_of field = element_size field.ty * element_count field

-- the bytes of the payload without the extensions, and of the whole payload
abbrev pub base_len_of : Definition → ℕ
base_len_of def = sum_by size_of def.fields

abbrev pub full_len_of : Definition → ℕ
full_len_of def = sum_by size_of (all_fields def)
