-- Bounds on counts become less with each event.
use Rattle.std.proofs.Common.{◌≡◌, ◌≤◌, ◌<◌, ◌+◌, ◌*◌, ℕ, List, ap, arith, length, drop, length-drop}
use Rattle.mav_log.specs.Tellers.{Showing, shown_load}

-- those of `log show` and of `log make`
pub shown_less : (old new : Showing) (size : ℕ) → new.reader.bytes ≡ drop size old.reader.bytes → 0 < size → size ≤ length old.reader.bytes
    → new.offset ≡ old.offset + size → new.rows + new.skipped ≡ old.rows + old.skipped + 1 → shown_load new ≤ shown_load old
shown_less old new size gone some within offset counts = omega (arith, length-drop size old.reader.bytes, ap length gone, some, within, offset, counts)

pub made_less : (old new : ℕ) (bytes left : List ℕ) (size : ℕ) → left ≡ drop size bytes → 0 < size → size ≤ length bytes → new ≤ old + 1 → new + 3 * length left ≤ old + 3 * length bytes
made_less old new bytes left size gone some within counts = omega (arith, length-drop size bytes, ap length gone, some, within, counts)
