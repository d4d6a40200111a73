-- How many bytes that begin no frame are skipped one by one for one reason (MAVLink guide, MAVLink 2 Packet Format and
-- MAVLink 1 Packet Format: STX begins a frame; Incompatibility Flags).
use Rattle.std.specs.Prelude.{ℕ, zero, suc, ◌+◌, ◌-◌, ◌==◌, ◌&&◌, ◌||◌, Bool, false, not, nat_lt, nat_le, is_none}
use Rattle.std.specs.Prelude.{List, length, slice_index, drop, min, if◌then◌else◌}
use Rattle.x25_check.specs.Extras.{extra_of}
use Rattle.mav_frame.specs.declared.looks.Why.{Why}
use Rattle.mav_frame.specs.declared.looks.Why.TheVariants.{NotStx, UnknownFlag, UnknownId, BadCheck, Short}

-- how many numbers from 0 on pass a test one after another, of so many
abbrev pub count_while : (ℕ → Bool) → ℕ → ℕ
count_while test zero = 0
count_while test (suc count) = if test 0 then suc (count_while (λ k. test (suc k)) count) else 0

-- the first byte of a frame
abbrev pub is_stx : Bool → ℕ → Bool
is_stx reads_old byte = byte == 0xFD || (reads_old && (byte == 0xFE))

-- whether a byte has this value, and one so many bytes after it a higher one than that
abbrev pub is_marked : ℕ → ℕ → ℕ → List ℕ → ℕ → Bool
is_marked byte gap high b at = slice_index b at == byte && nat_lt high (slice_index b (at + gap))

-- whether the bytes at an offset show that a byte is skipped for this reason: it is no STX; an unknown flag is two
-- bytes after an STX of MAVLink 2, or an unknown id five bytes after one of MAVLink 1
abbrev pub skips_at : Why → List (ℕ × ℕ) → Bool → List ℕ → ℕ → Bool
skips_at NotStx extras reads_old b at = not (is_stx reads_old (slice_index b at))
skips_at UnknownFlag extras reads_old b at = is_marked 0xFD 2 1 b at
skips_at UnknownId extras reads_old b at =
    reads_old && (slice_index b at == 0xFE && (nat_le (at + 6) (length b)
    && is_none (extra_of (slice_index b (at + 5)) extras)))
skips_at BadCheck extras reads_old b at = false
skips_at Short extras reads_old b at = false

-- the most bytes of one result
abbrev pub most_skipped : ℕ
most_skipped = 1024

-- the first byte, which is skipped for this reason, and the bytes after it of which that shows
abbrev pub skipped_length : Why → List (ℕ × ℕ) → Bool → List ℕ → ℕ
skipped_length why extras reads_old b =
    suc (count_while (skips_at why extras reads_old (drop 1 b)) (min most_skipped (length b) - 1))
