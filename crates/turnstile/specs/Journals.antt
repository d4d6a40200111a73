-- Histories and the entries that one participant added.
use Rattle.std.specs.Prelude.{◌≡◌, ℕ, suc, ◌≤◌, List, [], ◌∷◌, slice_get, Some}

module _ {E : Type 0} where
  -- the entries stand in the history at these positions, which rise from `low` on
  abbrev pub StandAt : List E → ℕ → List ℕ → List E → Type 0
  StandAt history low [] [] = Unit {0}
  StandAt history low [] (e ∷ es) = ⊥
  StandAt history low (k ∷ ks) [] = ⊥
  StandAt history low (k ∷ ks) (e ∷ es) = (low ≤ k) × (slice_get history k ≡ Some e) × StandAt history (suc k) ks es

  -- the positions of entries of which the first stands at `first`, one after another
  abbrev pub positions_from : ℕ → List E → List ℕ
  positions_from first [] = []
  positions_from first (e ∷ es) = first ∷ positions_from (suc first) es
