-- A list of four.
use Rattle.std.proofs.Common.{◌≡◌, ℕ, List, [], ◌∷◌, length, refl}
use Rattle.std.specs.Prelude.{slice_index}

-- a list of four is its four elements
pub four_are : (xs : List ℕ) → length xs ≡ 4 → slice_index xs 0 ∷ slice_index xs 1 ∷ slice_index xs 2 ∷ slice_index xs 3 ∷ [] ≡ xs
four_are [] e = absurd (cc)
four_are (a ∷ []) e = absurd (cc)
four_are (a ∷ b ∷ []) e = absurd (cc)
four_are (a ∷ b ∷ c ∷ []) e = absurd (cc)
four_are (a ∷ b ∷ c ∷ d ∷ []) e = refl
four_are (a ∷ b ∷ c ∷ d ∷ x ∷ xs) e = absurd (cc)
