-- The bytes of the frames of a log.
use Rattle.std.specs.Prelude.{ℕ, ◌≡◌, ◌<◌, ◌+◌, ◌==◌, ◌&&◌, Bool, true, false, List, [], ◌++◌, length, flat_map}
use Rattle.mav_ports.specs.Gets.{given, GivesWithin}
use Rattle.mav_ports.specs.declared.sources.Got.{Got}
use Rattle.mav_ports.specs.declared.sources.Got.TheVariants.{Idle, End}
use Rattle.mav_frame.specs.Encoding.{encoding}
use Rattle.log_rows.specs.LogEvents.{log_events}
use Rattle.log_rows.specs.LogParse.{LogEvent, RowEvent, SkipEvent}

-- the bytes of the frame of a row; a skipped byte has none
abbrev pub frame_bytes : LogEvent → List ℕ
frame_bytes (RowEvent row) = encoding row.frame
frame_bytes (SkipEvent byte why) = []

-- the frames of the rows of a whole log, one after another
abbrev pub log_frames : List (ℕ × ℕ) → List ℕ → List ℕ
log_frames extras log = flat_map frame_bytes (log_events extras true log)

-- what was read of a log: the rest of a frame that is handed out in parts, the bytes after it that are in no event
-- yet, and whether the log has ended
pub record RowsHeld : Type 0 where
  pub extras : List (ℕ × ℕ)
  pub frame : List ℕ
  pub bytes : List ℕ
  pub ended : Bool

-- before the first byte
abbrev pub nothing_read : List (ℕ × ℕ) → RowsHeld
nothing_read extras = record { extras = extras; frame = []; bytes = []; ended = false }

-- the frames that are left, if the rest of the log is this
abbrev pub frames_left : RowsHeld → List ℕ → List ℕ
frames_left held rest = held.frame ++ log_frames held.extras (held.bytes ++ rest)

-- the log has ended, and all its frames were given
abbrev pub is_over : RowsHeld → Bool
is_over held = held.ended && length held.frame + length held.bytes == 0

-- no row is held, and only the start of one, if the log goes on
pub record NoRowHeld (held : RowsHeld) : Type 0 where
  pub frame : held.frame ≡ []
  pub short : length held.bytes < 288
  pub over : held.ended ≡ true → held.bytes ≡ []

-- what is handed out after this part of the log was taken, where `closed` says that no more comes: the frames that are
-- left lose it; Idle where only the start of a row is held, and End exactly where nothing is left of a log that has
-- ended
pub record Gives (closed : Type 0) (part : List ℕ) (old new : RowsHeld) (got : Got) (buf : List ℕ) : Type 0 where
  pub within : GivesWithin got buf
  pub left : (rest : List ℕ) → (closed → rest ≡ [])
      → frames_left old (part ++ rest) ≡ given got buf ++ frames_left new rest
  pub waits : got ≡ Idle → NoRowHeld new × (new.ended ≡ false)
  pub over : got ≡ End → is_over new ≡ true
