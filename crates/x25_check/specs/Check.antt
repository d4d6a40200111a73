-- The checksum CRC-16/MCRF4XX: reflected polynomial 0x8408, start 0xFFFF, no final change
-- (MAVLink guide, Packet Serialization: Checksum).
use Rattle.std.specs.Prelude.{ℕ, zero, suc, ◌/◌, ◌%◌, List, [], ◌∷◌, ◌==◌, bit_xor, fold, if◌then◌else◌}

-- the register after one more bit: it is halved, and takes the polynomial if its lowest bit and that bit differ
abbrev pub after_bit : ℕ → ℕ → ℕ
after_bit register bit =
    if bit_xor register bit % 2 == 1 then bit_xor (register / 2) 0x8408 else register / 2

-- the `count` lowest bits of a number, from the lowest up
abbrev pub bits_of : ℕ → ℕ → List ℕ
bits_of zero number = []
bits_of (suc count) number = number % 2 ∷ bits_of count (number / 2)

-- the register after the eight bits of one more byte
unfoldable pub after_byte : ℕ → ℕ → ℕ
after_byte register byte = fold after_bit register (bits_of 8 byte)

-- the register after more bytes
abbrev pub check_from : ℕ → List ℕ → ℕ
check_from register bytes = fold after_byte register bytes

-- the check of a list of bytes
abbrev pub check : List ℕ → ℕ
check bytes = check_from 0xFFFF bytes
