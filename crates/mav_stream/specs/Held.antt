-- What a reader holds.
use Rattle.std.specs.Prelude.{ℕ, List, [], Bool, false}

-- the CRC_EXTRA table, whether frames of MAVLink 1 are read, the bytes taken that are in no event yet, and whether the
-- input has ended
pub record Held : Type 0 where
  pub extras : List (ℕ × ℕ)
  pub reads_old : Bool
  pub bytes : List ℕ
  pub ended : Bool

-- before the first byte
abbrev pub nothing_held : List (ℕ × ℕ) → Bool → Held
nothing_held extras reads_old = record { extras = extras; reads_old = reads_old; bytes = []; ended = false }
