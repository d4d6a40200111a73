-- Several bytes at a time.
use Rattle.std.specs.Prelude.{ℕ, zero, suc, ◌+◌, List, [], ◌∷◌, slice_index, fold, replicate}
use Rattle.x25_check.specs.Check.{after_bit}

-- the register after eight zero bits
unfoldable pub zero_byte : ℕ → ℕ
zero_byte register = fold after_bit register (replicate 8 0)

-- the register after so many zero bytes
abbrev pub zeros : ℕ → ℕ → ℕ
zeros zero register = register
zeros (suc count) register = zeros count (zero_byte register)

-- the eight bytes from an index on
abbrev pub eight_at : ℕ → List ℕ → List ℕ
eight_at at bytes =
    slice_index bytes at ∷ slice_index bytes (at + 1) ∷ slice_index bytes (at + 2) ∷ slice_index bytes (at + 3) ∷
    slice_index bytes (at + 4) ∷ slice_index bytes (at + 5) ∷ slice_index bytes (at + 6) ∷ slice_index bytes (at + 7)
    ∷ []

-- the four bytes from an index on
abbrev pub four_at : ℕ → List ℕ → List ℕ
four_at at bytes =
    slice_index bytes at ∷ slice_index bytes (at + 1) ∷ slice_index bytes (at + 2) ∷ slice_index bytes (at + 3) ∷ []
