-- What a line of `make` asks for.
use Rattle.std.specs.Prelude.{◌≡◌, ◌≤◌, ℕ, List, [], ◌∷◌}
use Rattle.std.specs.Fmt.{decimal}

-- the number that its word is, and the run by it
abbrev pub Makes : List (List ℕ) → (ℕ → Type 0) → Type 0
Makes plain runs = (number : ℕ) × (plain ≡ decimal number ∷ []) × (number ≤ 1000000) × runs number
