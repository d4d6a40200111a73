-- The names of nodes, by the index of their point.
use Rattle.std.proofs.Common.{◌≡◌, ℕ, ◌+◌, ◌-◌, Bool, true, false, cond, List, length, take, drop, refl, sym, ◌∙◌, ap, Option, Some, None}
use Rattle.std.specs.List.{position}
use Rattle.std.proofs.lemmas.List.{take_rest}
use Rattle.scenario_lines.proofs.Indices.{list_any-inside}
use Rattle.scenario_lines.specs.Words.{is_point, number_in, name_from, name_of_word}

no_place : (b : Bool) (n : ℕ) → cond b (Some n) None ≡ (let none : Option ℕ = None in none) → b ≡ false
no_place true n h = cc
no_place false n h = refl

a_place : (b : Bool) (n k : ℕ) → cond b (Some n) None ≡ Some k → (b ≡ true) × (k ≡ n)
a_place true n k h = (refl, cc)
a_place false n k h = cc

-- a word without a point is no name
pub no_point : (word : List ℕ) → position is_point word ≡ None → name_of_word word ≡ None
no_point word h = rw (list_any-inside is_point word ∙ no_place _ _ h) refl

-- a word with a point has one name or none by the bytes before and after the first
at_point : (word : List ℕ) (k : ℕ) → position is_point word ≡ Some k
    → name_of_word word ≡ name_from (number_in 0 255 (take k word)) (number_in 0 255 (drop (k + 1) word))
at_point word k h = let found = a_place _ _ k h in rw (found.1, list_any-inside is_point word ∙ found.0) refl

pub no_system : (word : List ℕ) (k : ℕ) → position is_point word ≡ Some k → number_in 0 255 (take k word) ≡ None → name_of_word word ≡ None
no_system word k h sys = at_point word k h ∙ ap (λ s. name_from s (number_in 0 255 (drop (k + 1) word))) sys

-- what a slice from after the point to the end holds
behind : (word : List ℕ) (k : ℕ) (r : Option ℕ) → number_in 0 255 (take (length word - (k + 1)) (drop (k + 1) word)) ≡ r
    → number_in 0 255 (drop (k + 1) word) ≡ r
behind word k r h = ap (number_in 0 255) (sym (take_rest word (k + 1))) ∙ h

pub no_component : (word : List ℕ) (k sys : ℕ) → position is_point word ≡ Some k → number_in 0 255 (take k word) ≡ Some sys
    → number_in 0 255 (take (length word - (k + 1)) (drop (k + 1) word)) ≡ None → name_of_word word ≡ None
no_component word k sys h is_sys none =
    at_point word k h ∙ ap (λ s. name_from s (number_in 0 255 (drop (k + 1) word))) is_sys
    ∙ ap (name_from (Some sys)) (behind word k None none)

pub a_name : (word : List ℕ) (k sys comp : ℕ) → position is_point word ≡ Some k → number_in 0 255 (take k word) ≡ Some sys
    → number_in 0 255 (take (length word - (k + 1)) (drop (k + 1) word)) ≡ Some comp
    → name_of_word word ≡ Some (record { sys = sys; comp = comp })
a_name word k sys comp h is_sys is_comp =
    at_point word k h ∙ ap (λ s. name_from s (number_in 0 255 (drop (k + 1) word))) is_sys
    ∙ ap (name_from (Some sys)) (behind word k (Some comp) is_comp)
