-- How far a reader is in the parse of a log.
use Rattle.std.specs.Prelude.{ℕ, ◌≡◌, Bool, false, List, []}
use Rattle.log_rows.specs.LogParse.{LogEvent, LogParse, BeginsLog}

-- the CRC_EXTRA table, the bytes taken that are in no event yet, and whether the input has ended
pub record LogHeld : Type 0 where
  pub extras : List (ℕ × ℕ)
  pub bytes : List ℕ
  pub ended : Bool

-- before the first byte
abbrev pub no_bytes_held : List (ℕ × ℕ) → LogHeld
no_bytes_held extras = record { extras = extras; bytes = []; ended = false }

-- the events given are a prefix of the parse of the bytes taken, and what is left of these is held
pub record LogProgress (extras : List (ℕ × ℕ)) (taken : List ℕ) (given : List LogEvent) (held : LogHeld) : Type 0 where
  pub same : held.extras ≡ extras
  pub begins : BeginsLog extras held.ended given held.bytes taken

-- they are the whole parse
abbrev pub IsWholeLog : List (ℕ × ℕ) → List ℕ → List LogEvent → LogHeld → Type 0
IsWholeLog extras taken given held = LogParse extras held.ended given held.bytes taken
