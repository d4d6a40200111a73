-- The elements of an array, and the fields that they are.
use Rattle.std.proofs.Common.{◌≡◌, ◌∙◌, ℕ, suc, ◌+◌, ◌<◌, ◌≤◌, List, [], ◌∷◌, ◌++◌, length, map, drop, get_or, Option, Some, None, option_map, refl, sym, ap, add-one, append_assoc, append-nil, drop-cons, drop_of_length-le}
use Rattle.serde_json.specs.declared.value.Value.{Value}
use Rattle.serde_json.specs.Data.{Data}
use Rattle.serde_json.specs.View.{view, items_of}
use Rattle.dialect.specs.Shape.{FieldText, elements, field_in, before_others, each_field}

-- an array made of a list has the list's elements
pub elements-items_of : (ds : List Data) → elements (items_of ds) ≡ ds
elements-items_of [] = refl
elements-items_of (d ∷ ds) = ap (λ rest. d ∷ rest) (elements-items_of ds)

-- fields after those that were read
abbrev pub behind : List FieldText → Option (List FieldText) → Option (List FieldText)
behind done rest = option_map (λ fields. done ++ fields) rest

-- no fields before others
pub behind-none : (done : List FieldText) (rest : Option (List FieldText)) → done ≡ [] → behind done rest ≡ rest
behind-none done None none = refl
behind-none done (Some fields) none = ap (λ done. Some (done ++ fields)) none

-- one more field, before those of the rest
behind-one : (done : List FieldText) (field : FieldText) (rest : Option (List FieldText))
    → behind done (before_others (Some field) rest) ≡ behind (done ++ field ∷ []) rest
behind-one done field None = refl
behind-one done field (Some fields) = ap Some (sym (append_assoc done (field ∷ []) fields))

-- the values from an index on
module _ (values : List Value) (i : ℕ) (value : Value) (within : i < length values) (here : value ≡ get_or values i value) where
  pub values-from : map view (drop i values) ≡ view value ∷ map view (drop (i + 1) values)
  values-from =
      ap (map view) (drop-cons values i value within)
      ∙ ap (λ first. view first ∷ map view (drop (suc i) values)) (sym here)
      ∙ ap (λ k. view value ∷ map view (drop k values)) (sym (add-one i))

  -- the next one is a field, or none
  module _ (done : List FieldText) (all : Option (List FieldText)) (together : behind done (each_field (map view (drop i values))) ≡ all) where
    pub with-field : (field : FieldText) (more : List FieldText) → field_in (view value) ≡ Some field → more ≡ done ++ field ∷ []
        → behind more (each_field (map view (drop (i + 1) values))) ≡ all
    with-field field more is appended =
        let rest = each_field (map view (drop (i + 1) values)) in
        ap (λ more. behind more rest) appended
        ∙ sym (behind-one done field rest)
        ∙ ap (λ first. behind done (before_others first rest)) (sym is)
        ∙ ap (λ ds. behind done (each_field ds)) (sym values-from)
        ∙ together

    pub without-field : field_in (view value) ≡ None → None ≡ all
    without-field none =
        ap (λ first. behind done (before_others first (each_field (map view (drop (i + 1) values))))) (sym none)
        ∙ ap (λ ds. behind done (each_field ds)) (sym values-from)
        ∙ together

-- no value is left
pub each_field-done : (values : List Value) (i : ℕ) (done : List FieldText) (all : Option (List FieldText)) → length values ≤ i
    → behind done (each_field (map view (drop i values))) ≡ all → Some done ≡ all
each_field-done values i done all beyond together =
    ap Some (sym (append-nil done)) ∙ ap (λ rest. behind done (each_field (map view rest))) (sym (drop_of_length-le values beyond)) ∙ together
