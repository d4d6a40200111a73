-- The indices of templates.
use Rattle.std.proofs.Common.{◌≡◌, ℕ, zero, suc, ◌<◌, List, [], ◌∷◌, ◌++◌, Option, Some, None, length, get_or, set, refl, sym, ap, ◌∙◌, subst, inl, inr, arith, length-append}
use Rattle.std.specs.Prelude.{slice_get, option_map}
use Rattle.std.proofs.lemmas.Bool.{cases_eq}
use Rattle.std.proofs.lemmas.Option.{none-some, same_Some, slice_get_within, get_or_from_slice_get}
use Rattle.field_layout.specs.Definition.{Definition}
use Rattle.mav_profile.specs.Messages.{definition_with}
use Rattle.mav_text.specs.TemplateText.{LineTemplate, line_template_of, IsIndexed, HasIndices}

in_prefix : {A : Type 0} (xs ys : List A) (i : ℕ) → i < length xs → slice_get (xs ++ ys) i ≡ slice_get xs i
in_prefix [] ys i inside = absurd (omega arith)
in_prefix (x ∷ xs) ys zero inside = refl
in_prefix (x ∷ xs) ys (suc i) inside = in_prefix xs ys i (omega arith)

at_end : {A : Type 0} (xs : List A) (x : A) → slice_get (xs ++ x ∷ []) (length xs) ≡ Some x
at_end [] x = refl
at_end (y ∷ xs) x = at_end xs x

set_here : {A : Type 0} (xs : List A) (i : ℕ) (x : A) → i < length xs → slice_get (set xs i x) i ≡ Some x
set_here [] i x inside = absurd (omega arith)
set_here (y ∷ xs) zero x inside = refl
set_here (y ∷ xs) (suc i) x inside = set_here xs i x (omega arith)

set_there : {A : Type 0} (xs : List A) (i j : ℕ) (x : A) → (j ≡ i → ⊥) → slice_get (set xs i x) j ≡ slice_get xs j
set_there [] i j x other = refl
set_there (y ∷ xs) zero zero x other = absurd (other refl)
set_there (y ∷ xs) zero (suc j) x other = refl
set_there (y ∷ xs) (suc i) zero x other = refl
set_there (y ∷ xs) (suc i) (suc j) x other = set_there xs i j x (λ e. other (ap suc e))

-- no entry has an index
pub none_indexed : (defs : List Definition) (line_templates : List LineTemplate) (low : List (Option ℕ)) → ((id : ℕ) → id < length low → get_or low id None ≡ None) → HasIndices defs line_templates low
none_indexed defs line_templates low none id index got =
    let here : get_or low id None ≡ Some index = get_or_from_slice_get low id (Some index) None got in
    absurd (none-some index (sym (none id (slice_get_within low id (Some index) got)) ∙ here))

-- one more template is added
pub index_added : (defs : List Definition) (line_templates : List LineTemplate) (low : List (Option ℕ)) (id : ℕ) (line_template : LineTemplate) → HasIndices defs line_templates low → Some line_template ≡ option_map line_template_of (definition_with id defs) → id < length low → HasIndices defs (line_templates ++ line_template ∷ []) (set low id (Some (length line_templates)))
index_added defs line_templates low id line_template indices known inside other index got =
    let after : List LineTemplate = line_templates ++ line_template ∷ [] in
    elim (cases_eq other id) [
      | inl same ↦
          let there : Some (Some (length line_templates)) ≡ Some (Some index) = sym (set_here low id (Some (length line_templates)) inside) ∙ (ap (slice_get (set low id (Some (length line_templates)))) (sym same) ∙ got) in
          let here : length line_templates ≡ index = same_Some (length line_templates) index (same_Some (Some (length line_templates)) (Some index) there) in
          let P : ℕ → Type 0 = λ n. IsIndexed defs after other n in
          let placed : P (length line_templates) = record {
            within = omega (arith, length-append line_templates (line_template ∷ []));
            there = at_end line_templates line_template ∙ (known ∙ ap (λ (n : ℕ). option_map line_template_of (definition_with n defs)) (sym same));
          } in
          subst P here placed
      | inr different ↦
          let before : IsIndexed defs line_templates other index = indices other index (sym (set_there low id other (Some (length line_templates)) different) ∙ got) in
          record {
            within = omega (arith, before.within, length-append line_templates (line_template ∷ []));
            there = in_prefix line_templates (line_template ∷ []) index before.within ∙ before.there;
          }
    ]
