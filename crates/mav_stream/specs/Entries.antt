-- The table of the CRC_EXTRA bytes, an entry for each id.
use Rattle.std.specs.Prelude.{ℕ, Option, Some, None, nat_lt, if◌then◌else◌}

-- the byte that an entry represents: itself, or none at 256 and above
abbrev pub byte_of : ℕ → Option ℕ
byte_of entry = if nat_lt entry 256 then Some entry else None
