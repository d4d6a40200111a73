-- The ports of a byte with a bit for each.
use Rattle.std.specs.Prelude.{ℕ, ◌==◌, ◌+◌, ◌-◌, ◌*◌, Bool, List, [], ◌∷◌, if◌then◌else◌}
use Rattle.std.specs.Int.{bit_at}

-- the bit of a port is set, of which port 1 has the lowest
abbrev pub has_bit : ℕ → ℕ → Bool
has_bit mask port = bit_at mask (port - 1) == 1

-- for each of the ports 1 to 8 whether its bit is set
abbrev pub flags_of : ℕ → List Bool
flags_of mask =
    has_bit mask 1 ∷ has_bit mask 2 ∷ has_bit mask 3 ∷ has_bit mask 4 ∷ has_bit mask 5 ∷ has_bit mask 6
    ∷ has_bit mask 7 ∷ has_bit mask 8 ∷ []

-- the byte whose bits are these, from the lowest up
abbrev pub mask_of : List Bool → ℕ
mask_of [] = 0
mask_of (flag ∷ flags) = (if flag then 1 else 0) + 2 * mask_of flags
