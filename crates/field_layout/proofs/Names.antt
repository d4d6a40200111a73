-- The names of fields, and the first that repeats an earlier one.
use Rattle.std.proofs.Common.{◌≡◌, ℕ, zero, suc, ◌+◌, ◌<◌, Bool, true, false, List, [], length, get_or, take, Some, None, ap, ◌∙◌, refl, subst, arith}
use Rattle.std.specs.Prelude.{slice_get, find}
use Rattle.std.specs.List.{list_any, range_with_len}
use Rattle.std.specs.Str.{bytes_eq}
use Rattle.std.proofs.lemmas.Option.{get_or_from_slice_get, slice_get_within}
use Rattle.std.proofs.lemmas.List.{get_or-map, length-map, length-take, get_or-take}
use Rattle.std.proofs.lemmas.List.Folds.{list_any_more, list_any_at}
use Rattle.field_layout.specs.declared.fields.Field.{Field}
use Rattle.field_layout.specs.Definition.{Definition, all_fields}
use Rattle.field_layout.specs.Faults.{names_of, name_at, repeats_at, first_repeat}

-- the name at an index is that of the field there
pub name_of_field : (def : Definition) (place : ℕ) (field : Field) → slice_get (all_fields def) place ≡ Some field → name_at (names_of def) place ≡ field.name
name_of_field def place field there =
    get_or-map (λ (f : Field). f.name) (all_fields def) place field [] (slice_get_within (all_fields def) place field there) ∙ ap (λ (f : Field). f.name) (get_or_from_slice_get (all_fields def) place field field there)

pub length-names : (def : Definition) → length (names_of def) ≡ length (all_fields def)
length-names def = length-map (all_fields def) (λ (f : Field). f.name)

-- a test that fails below i and passes at i finds i
find_from : (test : ℕ → Bool) (n a i : ℕ) → i < n → ((k : ℕ) → k < i → test (a + k) ≡ false) → test (a + i) ≡ true → find test (range_with_len a n) ≡ Some (a + i)
find_from test zero a i inside below here = absurd (omega arith)
find_from test (suc n) a zero inside below here =
    let e : test a ≡ true = subst (λ (m : ℕ). test m ≡ true) (omega arith) here in
    rw e (ap Some (omega arith))
find_from test (suc n) a (suc i) inside below here =
    let e : test a ≡ false = subst (λ (m : ℕ). test m ≡ false) (omega arith) (below 0 (omega arith)) in
    let next : find test (range_with_len (a + 1) n) ≡ Some ((a + 1) + i) =
    find_from test n (a + 1) i (omega arith) (λ k h. subst (λ (m : ℕ). test m ≡ false) (omega arith) (below (suc k) (omega arith))) (subst (λ (m : ℕ). test m ≡ true) (omega arith) here) in
    rw e (next ∙ ap Some (omega arith))

-- a test that fails everywhere finds nothing
find_none : (test : ℕ → Bool) (n a : ℕ) → ((k : ℕ) → k < n → test (a + k) ≡ false) → find test (range_with_len a n) ≡ None
find_none test zero a below = refl
find_none test (suc n) a below =
    let e : test a ≡ false = subst (λ (m : ℕ). test m ≡ false) (omega arith) (below 0 (omega arith)) in
    rw e (find_none test n (a + 1) (λ k h. subst (λ (m : ℕ). test m ≡ false) (omega arith) (below (suc k) (omega arith))))

pub first_repeat_here : (names : List (List ℕ)) (place : ℕ) → place < length names → ((k : ℕ) → k < place → repeats_at names k ≡ false) → repeats_at names place ≡ true → first_repeat names ≡ Some place
first_repeat_here names place inside below here =
    find_from (repeats_at names) (length names) 0 place inside (λ k h. subst (λ (m : ℕ). repeats_at names m ≡ false) (omega arith) (below k h)) (subst (λ (m : ℕ). repeats_at names m ≡ true) (omega arith) here) ∙ ap Some (omega arith)

pub first_repeat_nowhere : (names : List (List ℕ)) → ((k : ℕ) → k < length names → repeats_at names k ≡ false) → first_repeat names ≡ None
first_repeat_nowhere names below = find_none (repeats_at names) (length names) 0 (λ k h. subst (λ (m : ℕ). repeats_at names m ≡ false) (omega arith) (below k h))

-- one more earlier name that differs
pub differs_more : (names : List (List ℕ)) (name : List ℕ) (k : ℕ) → k < length names → list_any (bytes_eq name) (take k names) ≡ false → bytes_eq name (name_at names k) ≡ false → list_any (bytes_eq name) (take (k + 1) names) ≡ false
differs_more names name k inside before here = list_any_more (bytes_eq name) names k [] inside ∙ (rw before here)

-- an earlier name that is the same
pub repeats_here : (names : List (List ℕ)) (place k : ℕ) → place < length names → k < place → bytes_eq (name_at names place) (name_at names k) ≡ true → repeats_at names place ≡ true
repeats_here names place k inside earlier same =
    let within : k < length (take place names) = omega (arith, length-take place names) in
    list_any_at (bytes_eq (name_at names place)) (take place names) k [] within (let at : get_or (take place names) k [] ≡ get_or names k [] = get_or-take place names k [] earlier in rw at same)
