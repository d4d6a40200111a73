-- How definitions write the types of fields (MAVLink guide, XML Schema: field).
use Rattle.std.specs.Prelude.{ℕ, ◌+◌, ◌*◌, ◌-◌, ◌==◌, ◌&&◌, not, nat_le, Bool, if◌then◌else◌, List, [], ◌∷◌, codes}
use Rattle.std.specs.Prelude.{fold, find, slice_index, Option, Some, None, option_map, option_and_then}
use Rattle.std.specs.List.{list_all, before_first, after_first}
use Rattle.std.specs.Option.{option_or}
use Rattle.std.specs.Str.{bytes_eq}
use Rattle.field_layout.specs.declared.ty.Ty.{Ty}
use Rattle.field_layout.specs.declared.ty.Ty.TheVariants.{I8, U8, Char, I16, U16, I32, U32, I64, U64, F32, F64}
use Rattle.field_layout.specs.declared.ty.Ty.TheVariants.{Version}

-- the word of a type: its name, and for `uint8_t_mavlink_version` that word in full
abbrev pub type_word : Ty → List ℕ
type_word I8 = codes "int8_t"
type_word U8 = codes "uint8_t"
type_word Char = codes "char"
type_word I16 = codes "int16_t"
type_word U16 = codes "uint16_t"
type_word I32 = codes "int32_t"
type_word U32 = codes "uint32_t"
type_word I64 = codes "int64_t"
type_word U64 = codes "uint64_t"
type_word F32 = codes "float"
type_word F64 = codes "double"
type_word Version = codes "uint8_t_mavlink_version"

-- the types that an array may have, and all types
abbrev pub element_types : List Ty
element_types = I8 ∷ U8 ∷ Char ∷ I16 ∷ U16 ∷ I32 ∷ U32 ∷ I64 ∷ U64 ∷ F32 ∷ F64 ∷ []

abbrev pub all_types : List Ty
all_types = Version ∷ element_types

-- the type of that word among some
abbrev pub type_among : List Ty → List ℕ → Option Ty
type_among types word = find (λ ty. bytes_eq word (type_word ty)) types

-- a type and the length of an array, 0 for a single value
abbrev pub FieldType : Type 0
FieldType = Ty × ℕ

abbrev pub is_digit : ℕ → Bool
is_digit byte = nat_le 48 byte && nat_le byte 57

-- digits without a leading zero, and their number
abbrev pub is_numeral : List ℕ → Bool
is_numeral digits = list_all is_digit digits && not (slice_index digits 0 == 48)

abbrev pub number_of : List ℕ → ℕ
number_of digits = fold (λ number digit. number * 10 + (digit - 48)) 0 digits

-- an array's length: the numeral of a number from 1 to 255
abbrev pub length_of : List ℕ → Option ℕ
length_of digits = if is_numeral digits && nat_le (number_of digits) 255 then Some (number_of digits) else None

-- one, two or three digits before a `]`
abbrev pub closed : ℕ → List ℕ → Option ℕ
closed byte digits = if byte == 93 then length_of digits else None

abbrev pub length_before_bracket : List ℕ → Option ℕ
length_before_bracket [] = None
length_before_bracket (a ∷ []) = None
length_before_bracket (a ∷ e ∷ []) = closed e (a ∷ [])
length_before_bracket (a ∷ b ∷ e ∷ []) = closed e (a ∷ b ∷ [])
length_before_bracket (a ∷ b ∷ c ∷ e ∷ []) = closed e (a ∷ b ∷ c ∷ [])
length_before_bracket (a ∷ b ∷ c ∷ d ∷ e ∷ more) = None

abbrev pub is_open : ℕ → Bool
is_open byte = byte == 91

-- the name of an element's type, `[`, a length and `]`
abbrev pub array_type_of : List ℕ → Option FieldType
array_type_of word =
    option_and_then (λ ty. option_map (λ len. (ty, len)) (length_before_bracket (after_first is_open word)))
    (type_among element_types (before_first is_open word))

-- the name of a type, or an array's type
abbrev pub field_type_of : List ℕ → Option FieldType
field_type_of word = option_or (option_map (λ ty. (ty, 0)) (type_among all_types word)) (array_type_of word)
