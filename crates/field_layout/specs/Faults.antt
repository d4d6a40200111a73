-- Why a definition has no layout.
use Rattle.std.specs.Prelude.{ℕ, Bool, ◌==◌, nat_lt, if◌then◌else◌, List, length, map, take, slice_index_or, find}
use Rattle.std.specs.Prelude.{Option, Some, None, []}
use Rattle.std.specs.List.{list_any, range_with_len}
use Rattle.std.specs.Str.{bytes_eq}
use Rattle.field_layout.specs.declared.fields.Field.{Field}
use Rattle.field_layout.specs.declared.faults.LayoutFault.{LayoutFault}
use Rattle.field_layout.specs.declared.faults.LayoutFault.TheVariants.{NoFields, TwiceNamed, TooLong}
use Rattle.field_layout.specs.Definition.{Definition, all_fields, full_len_of}

-- the names of all fields in definition order, extensions last
abbrev pub names_of : Definition → List (List ℕ)
names_of def = map (λ (field : Field). field.name) (all_fields def)

abbrev pub name_at : List (List ℕ) → ℕ → List ℕ
name_at names place = slice_index_or names place []

-- whether an earlier index has the name at this one
abbrev pub repeats_at : List (List ℕ) → ℕ → Bool
repeats_at names place = list_any (bytes_eq (name_at names place)) (take place names)

-- the first index whose name an earlier index has
abbrev pub first_repeat : List (List ℕ) → Option ℕ
first_repeat names = find (repeats_at names) (range_with_len 0 (length names))

-- a payload is at most 255 bytes long
abbrev pub length_fault : ℕ → Option LayoutFault
length_fault len = if nat_lt 255 len then Some (TooLong len) else None

-- a repeated name comes before the length
abbrev pub name_fault : List (List ℕ) → ℕ → Option ℕ → Option LayoutFault
name_fault names len (Some place) = Some (TwiceNamed (name_at names place))
name_fault names len None = length_fault len

-- the first fault, or none: no base field, a repeated name, more than 255 bytes
abbrev pub first_fault : Definition → Option LayoutFault
first_fault def =
    if length def.fields == 0 then Some NoFields
    else name_fault (names_of def) (full_len_of def) (first_repeat (names_of def))
