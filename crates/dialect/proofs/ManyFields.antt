-- Messages with many fields: repeated names, and payloads that are too long.
use Rattle.std.proofs.Common.{◌≡◌, ◌≢◌, ℕ, ◌+◌, ◌<◌, ◌≤◌, ◌==◌, ltb, Bool, true, false, if◌then◌else◌, List, [], ◌∷◌, ◌++◌, length, take, slice_get, Some, None, sym, ap, ◌∙◌, arith}
use Rattle.std.proofs.lemmas.Bool.Decides.{nat_tests}
use Rattle.std.proofs.lemmas.List.{take_more}
use Rattle.std.proofs.lemmas.List.Sums.{sum_by-cons, sum_by_more}
use Rattle.std.proofs.lemmas.Option.{get_or_from_slice_get, slice_get_within}
use Rattle.std.specs.List.{list_any, sum_by}
use Rattle.std.specs.Str.{bytes_eq}
use Rattle.field_layout.specs.declared.fields.Field.{Field}
use Rattle.field_layout.specs.declared.faults.LayoutFault.TheVariants.{NoFields, TwiceNamed, TooLong}
use Rattle.field_layout.specs.Definition.{Definition, all_fields, size_of, full_len_of}
use Rattle.field_layout.specs.Faults.{names_of, repeats_at, first_repeat, name_fault, length_fault, first_fault}
use Rattle.field_layout.proofs.Faultless.{size_positive}
use Rattle.field_layout.proofs.Names.{name_of_field, length-names}

module _ (def : Definition) (index : ℕ) (field : Field) (there : slice_get (all_fields def) index ≡ Some field) where
  -- the names up to an index, and that of the field there
  pub take-names : index < length (all_fields def) → take (index + 1) (names_of def) ≡ take index (names_of def) ++ field.name ∷ []
  take-names within =
      let inside : index < length (names_of def) = omega (arith, length-names def) in
      take_more (names_of def) index [] inside ∙ ap (λ name. take index (names_of def) ++ name ∷ []) (name_of_field def index field there)

  -- the test of a name against those before it
  pub repeats_at-tested : (name : List ℕ) (known : List (List ℕ)) (answer : Bool) → name ≡ field.name → known ≡ take index (names_of def)
      → answer ≡ list_any (bytes_eq name) known → repeats_at (names_of def) index ≡ answer
  repeats_at-tested name known answer same before tested =
      ap (λ text. list_any (bytes_eq text) (take index (names_of def))) (name_of_field def index field there ∙ sym same)
      ∙ ap (list_any (bytes_eq name)) (sym before) ∙ sym tested

-- each field has a byte
length-le-sum_by : (fields : List Field) → length fields ≤ sum_by size_of fields
length-le-sum_by [] = omega arith
length-le-sum_by (field ∷ fields) = omega (arith, sum_by-cons size_of field fields, size_positive field, length-le-sum_by fields)

-- more fields than a payload has bytes are too long
pub first_fault-too_long : (def : Definition) (len : ℕ) → length def.fields ≢ 0 → first_repeat (names_of def) ≡ None → len ≡ full_len_of def
    → 255 < length (all_fields def) → first_fault def ≡ Some (TooLong len)
first_fault-too_long def len some single is many =
    let based : (length def.fields == 0) ≡ false = grind (arith, nat_tests) in
    let bytes = length-le-sum_by (all_fields def) in
    let long : ltb 255 len ≡ true = grind (arith, nat_tests) in
    ap (λ test. if test then Some NoFields else name_fault (names_of def) (full_len_of def) (first_repeat (names_of def))) based
    ∙ ap (name_fault (names_of def) (full_len_of def)) single
    ∙ ap length_fault (sym is)
    ∙ ap (λ test. if test then Some (TooLong len) else None) long

-- a repeated name
pub first_fault-twice_named : (def : Definition) (index : ℕ) (field : Field) (name : List ℕ) → length def.fields ≢ 0 → first_repeat (names_of def) ≡ Some index
    → slice_get (all_fields def) index ≡ Some field → name ≡ field.name → first_fault def ≡ Some (TwiceNamed name)
first_fault-twice_named def index field name some repeated there same =
    let based : (length def.fields == 0) ≡ false = grind (arith, nat_tests) in
    ap (λ test. if test then Some NoFields else name_fault (names_of def) (full_len_of def) (first_repeat (names_of def))) based
    ∙ ap (name_fault (names_of def) (full_len_of def)) repeated
    ∙ ap (λ text. Some (TwiceNamed text)) (name_of_field def index field there ∙ sym same)

-- the bytes of one more field
pub sum_by-take : (fields : List Field) (index : ℕ) (field : Field) → slice_get fields index ≡ Some field
    → sum_by size_of (take (index + 1) fields) ≡ sum_by size_of (take index fields) + size_of field
sum_by-take fields index field there =
    sum_by_more size_of fields index field (slice_get_within fields index field there)
    ∙ ap (λ (here : Field). sum_by size_of (take index fields) + size_of here) (get_or_from_slice_get fields index field field there)
