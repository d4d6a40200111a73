-- The payload of a message (MAVLink guide, Packet Serialization: Field Reordering, Empty-Byte Payload Truncation).
use Rattle.std.specs.Prelude.{◌≡◌, ℕ, zero, suc, ◌/◌, ◌%◌, ◌^◌, ◌<◌, ◌==◌, if◌then◌else◌, List, [], ◌∷◌, length, All}
use Rattle.std.specs.Prelude.{flat_map, slice_index, slice_index_or}
use Rattle.std.specs.List.{AllZip}
use Rattle.field_layout.specs.declared.fields.Field.{Field}
use Rattle.field_layout.specs.Types.{element_size}
use Rattle.field_layout.specs.Definition.{Definition, all_fields, element_count, full_len_of}
use Rattle.field_layout.specs.WireOrder.{Placed, wire_order}

-- the `size` low bytes of a word, lowest first
abbrev pub le_bytes : ℕ → ℕ → List ℕ
le_bytes zero word = []
le_bytes (suc size) word = word % 256 ∷ le_bytes size (word / 256)

-- the bytes of a field's words, one after another
abbrev pub field_bytes : Field → List ℕ → List ℕ
field_bytes field words = flat_map (le_bytes (element_size field.ty)) words

-- the words of the field at an index, in definition order
abbrev pub words_at : List (List ℕ) → ℕ → List ℕ
words_at values place = slice_index_or values place []

-- the serialised payload: the bytes of each field's words, in wire order
abbrev pub serialised : Definition → List (List ℕ) → List ℕ
serialised def values = flat_map (λ (field : Placed). field_bytes field.1 (words_at values field.0)) (wire_order def)

-- a field's words are as many as its elements, and each fits the element's size
abbrev pub FieldFits : Field → List ℕ → Type 0
FieldFits field words = (length words ≡ element_count field) × All (λ word. word < 256 ^ element_size field.ty) words

-- each field, in definition order, has words that fit
abbrev pub FitsLayout : Definition → List (List ℕ) → Type 0
FitsLayout def values = AllZip FieldFits (all_fields def) values

-- a payload represents values that fit: each of its bytes, or 0 past its end, is that of the serialised payload
pub record Represents (def : Definition) (payload : List ℕ) (values : List (List ℕ)) : Type 0 where
  pub fits : FitsLayout def values
  pub bytes : (k : ℕ) → k < full_len_of def → slice_index payload k ≡ slice_index (serialised def values) k

-- a byte before what is kept after it: a zero at the end isn't kept
abbrev pub kept : ℕ → List ℕ → List ℕ
kept byte [] = if byte == 0 then [] else byte ∷ []
kept byte (next ∷ rest) = byte ∷ next ∷ rest

-- without the zeros at the end
abbrev pub without_trailing_zeros : List ℕ → List ℕ
without_trailing_zeros [] = []
without_trailing_zeros (byte ∷ rest) = kept byte (without_trailing_zeros rest)

-- the truncated payload: without its trailing zeros, and never without its first byte
abbrev pub truncated : List ℕ → List ℕ
truncated [] = []
truncated (byte ∷ rest) = byte ∷ without_trailing_zeros rest
