-- A history of several participants, where each entry tells who added it.
use Rattle.std.specs.Prelude.{◌≡◌, ℕ, zero, suc, ◌+◌, ◌<◌, ◌==◌, List, [], ◌∷◌, length, filter, Bool, true}
use Rattle.turnstile.specs.Journals.{StandAt}

-- the sum of the first n
abbrev pub summed : ℕ → (ℕ → ℕ) → ℕ
summed zero f = 0
summed (suc n) f = summed n f + f n

module _ {E : Type 0} where
  -- the test holds of each entry
  abbrev pub EachPasses : (E → Bool) → List E → Type 0
  EachPasses p [] = Unit {0}
  EachPasses p (e ∷ es) = (p e ≡ true) × EachPasses p es

-- if each of n participants added the entries with its own label, and the history has no others, then the history's
-- entries with a label are those of that participant, in its order
abbrev pub EachLabelHasItsOwn : Type 0 → Type 0
EachLabelHasItsOwn E = (history : List E) (label : E → ℕ) (n : ℕ) (own : ℕ → List E) (positions : ℕ → List ℕ)
    → ((i : ℕ) → i < n → StandAt history 0 (positions i) (own i) × EachPasses (λ e. label e == i) (own i))
    → length history ≡ summed n (λ i. length (own i))
    → (i : ℕ) → i < n → filter (λ e. label e == i) history ≡ own i
