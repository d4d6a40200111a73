-- Rows that have layouts.
use Rattle.std.proofs.Common.{◌≡◌, ℕ, ◌+◌, ◌<◌, Bool, true, false, not, ◌&&◌, List, [], ◌∷◌, ◌++◌, length, map, take, drop, get_or, Option, Some, None, is_none, refl, sym, ap, ◌∙◌, add-one, append_assoc, drop-cons}
use Rattle.std.proofs.lemmas.List.{map-append, take_more}
use Rattle.field_layout.specs.Definition.{Definition}
use Rattle.field_layout.specs.Faults.{first_fault}
use Rattle.field_layout.specs.declared.faults.LayoutFault.{LayoutFault}
use Rattle.dialect.specs.declared.profile.MessageRow.{MessageRow}
use Rattle.dialect.specs.Grammar.{has_id}
use Rattle.dialect.specs.ProfileTable.{definition_of_row, are_laid_out_behind}

three_tests : (fault : Option LayoutFault) (known rest : Bool) → (is_none fault && not known && rest) ≡ true
    → (fault ≡ None) × (known ≡ false) × (rest ≡ true)
three_tests (Some fault) known rest h = absurd (cc)
three_tests None true rest h = absurd (cc)
three_tests None false false h = absurd (cc)
three_tests None false true h = (refl, refl, refl)

module _ (defs : List Definition) (rows : List MessageRow) (i : ℕ) (d : MessageRow) (within : i < length rows) (good : are_laid_out_behind defs (map definition_of_row (drop i rows)) ≡ true) where
  -- what is known of the row at an index, and of the rest after it
  pub row_laid_out : (first_fault (definition_of_row (get_or rows i d)) ≡ None) × (has_id defs (get_or rows i d).id ≡ false)
      × (are_laid_out_behind (defs ++ definition_of_row (get_or rows i d) ∷ []) (map definition_of_row (drop (i + 1) rows)) ≡ true)
  row_laid_out =
      let split : drop i rows ≡ get_or rows i d ∷ drop (i + 1) rows =
      drop-cons rows i d within ∙ ap (λ k. get_or rows i d ∷ drop k rows) (sym (add-one i)) in
      three_tests (first_fault (definition_of_row (get_or rows i d))) (has_id defs (get_or rows i d).id) _
      (sym (ap (λ (rest : List MessageRow). are_laid_out_behind defs (map definition_of_row rest)) split) ∙ good)

  -- the definitions with that of the row
  pub definitions-more : (first new : List Definition) (def : Definition) → def ≡ definition_of_row (get_or rows i d) → new ≡ defs ++ def ∷ []
      → defs ≡ first ++ map definition_of_row (take i rows) → new ≡ first ++ map definition_of_row (take (i + 1) rows)
  definitions-more first new def is one done =
      one ∙ ap (λ (last : Definition). defs ++ last ∷ []) is ∙ ap (λ (all : List Definition). all ++ definition_of_row (get_or rows i d) ∷ []) done
      ∙ append_assoc first (map definition_of_row (take i rows)) (definition_of_row (get_or rows i d) ∷ [])
      ∙ ap (λ (all : List Definition). first ++ all) (sym (map-append definition_of_row (take i rows) (get_or rows i d ∷ []))
      ∙ ap (map definition_of_row) (sym (take_more rows i d within)))

  pub laid_out-more : (def : Definition) (new : List Definition) → def ≡ definition_of_row (get_or rows i d) → new ≡ defs ++ def ∷ []
      → are_laid_out_behind new (map definition_of_row (drop (i + 1) rows)) ≡ true
  laid_out-more def new is one =
      ap (λ (all : List Definition). are_laid_out_behind all (map definition_of_row (drop (i + 1) rows))) (one ∙ ap (λ (last : Definition). defs ++ last ∷ []) is) ∙ row_laid_out.2
