-- Numbers as bytes, lowest byte first (MAVLink guide, Packet Serialization).
use Rattle.std.specs.Prelude.{ℕ, zero, suc, ◌+◌, ◌*◌, ◌/◌, ◌%◌, List, [], ◌∷◌, slice_index}

-- the `count` lowest bytes of a number
abbrev pub little_endian : ℕ → ℕ → List ℕ
little_endian zero number = []
little_endian (suc count) number = number % 256 ∷ little_endian count (number / 256)

-- the number of `count` bytes from an index on
abbrev pub number_at : ℕ → ℕ → List ℕ → ℕ
number_at zero place bytes = 0
number_at (suc count) place bytes = slice_index bytes place + 256 * number_at count (place + 1) bytes
