-- What the commands have told of an input.
use Rattle.std.specs.Prelude.{ℕ, ◌≡◌, ◌<◌, ◌≤◌, ◌+◌, ◌*◌, Bool, true, List, [], ◌∷◌, ◌++◌, length, take, drop}
use Rattle.std.specs.Prelude.{slice_index, ⊤}
use Rattle.field_layout.specs.Definition.{Definition}
use Rattle.mav_profile.specs.Messages.{extras_of}
use Rattle.mav_frame.specs.declared.events.Event.{Event}
use Rattle.mav_frame.specs.declared.looks.Why.{Why}
use Rattle.mav_frame.specs.Looks.{frame_size_at, is_old_at}
use Rattle.mav_stream.specs.Held.{Held}
use Rattle.mav_stream.specs.Progress.{Progress}
use Rattle.mav_stream.specs.Spans.{IfNeed}
use Rattle.mav_stream.specs.declared.spans.NextSpan.{NextSpan}
use Rattle.mav_stream.specs.declared.spans.NextSpan.TheVariants.{Frame, Skipped, Need}
use Rattle.log_rows.specs.LogEvents.{log_events}
use Rattle.log_rows.specs.LogParse.{LogEvent, RowEvent, SkipEvent}
use Rattle.log_rows.specs.Progress.{LogHeld, LogProgress, IsWholeLog}
use Rattle.log_rows.specs.Rows.{row_encoding, first_row}
use Rattle.mav_log.specs.LogText.{lines_from, bytes_in, rows_in, skips_in}
use Rattle.mav_log.specs.RowsMade.{rows_of_system, rows_from, micros_after}

-- a row is at the start of some bytes, and has so many
abbrev pub IsRowOf : List ℕ → ℕ → Type 0
IsRowOf b size =
    (8 ≤ length b) × (size ≡ length (row_encoding (first_row b))) × (take size b ≡ row_encoding (first_row b))
    × (frame_size_at (is_old_at true (drop 8 b)) (drop 8 b) ≤ length (drop 8 b))

-- a reader gave an event, and holds the rest
abbrev pub GaveEvent : LogEvent → LogHeld → LogHeld → Type 0
GaveEvent event old new = (table : List (ℕ × ℕ)) (taken : List ℕ) (given : List LogEvent)
    → LogProgress table taken given old → LogProgress table taken (given ++ event ∷ []) new

-- a row of so many bytes comes next, or a byte that is in none
pub record IsRowNext (held : LogHeld) (size : ℕ) : Type 0 where
  pub row : IsRowOf held.bytes size
  pub some : 0 < size
  pub within : size ≤ length held.bytes
  pub gave : GaveEvent (RowEvent (first_row held.bytes)) held (record held { bytes = drop size held.bytes })

pub record IsByteNext (held : LogHeld) (why : Why) : Type 0 where
  pub some : 1 ≤ length held.bytes
  pub gave : GaveEvent (SkipEvent (slice_index held.bytes 0) why) held (record held { bytes = drop 1 held.bytes })

abbrev pub IsEventNext : LogHeld → NextSpan → Type 0
IsEventNext held (Frame size) = IsRowNext held size
IsEventNext held (Skipped why count) = IsByteNext held why
IsEventNext held Need = ⊤

-- what comes next, and what follows of it: at Need all events were given, and there is room for a piece
pub record IsNextOfLog (held : LogHeld) (span : NextSpan) : Type 0 where
  pub event : IsEventNext held span
  pub whole : (table : List (ℕ × ℕ)) (taken : List ℕ) (given : List LogEvent) → LogProgress table taken given held
      → IfNeed span (IsWholeLog table taken given held)
  pub room : IfNeed span (length held.bytes < 288)

-- `log show`: the messages that are known, what is held of the log, the offset of the next event, and the counts so
-- far
pub record Showing : Type 0 where
  pub known : List Definition
  pub reader : LogHeld
  pub offset : ℕ
  pub rows : ℕ
  pub skipped : ℕ

-- the lines of these events were told, and they are a prefix of the parse
pub record HasShown (s : Showing) (ended : Bool) (taken told : List ℕ) : Type 0 where
  pub given : List LogEvent
  pub is_ended : s.reader.ended ≡ ended
  pub progress : LogProgress (extras_of s.known) taken given s.reader
  pub offset : s.offset ≡ bytes_in given
  pub rows : s.rows ≡ rows_in given
  pub skipped : s.skipped ≡ skips_in given
  pub lines : told ≡ lines_from s.known 0 given

-- and they are all of it
pub record HasShownAll (s : Showing) (ended : Bool) (taken told : List ℕ) : Type 0 where
  pub has : HasShown s ended taken told
  pub all : has.given ≡ log_events (extras_of s.known) ended taken

-- bounds its counts
abbrev pub shown_load : Showing → ℕ
shown_load s = s.offset + s.rows + s.skipped + 3 * length s.reader.bytes

-- `log filter`: the messages that are known, the system whose rows are kept, and what is held of the log
pub record Filtering : Type 0 where
  pub known : List Definition
  pub sys : ℕ
  pub reader : LogHeld

pub record HasKept (f : Filtering) (ended : Bool) (taken told : List ℕ) : Type 0 where
  pub given : List LogEvent
  pub is_ended : f.reader.ended ≡ ended
  pub progress : LogProgress (extras_of f.known) taken given f.reader
  pub kept : told ≡ rows_of_system f.sys given

-- `log make`: the messages that are known, the time of the first frame, what is held of the stream, and how many
-- frames were made to rows
pub record Making : Type 0 where
  pub known : List Definition
  pub start : ℕ
  pub reader : Held
  pub rows : ℕ

pub record HasMade (m : Making) (ended : Bool) (taken told : List ℕ) : Type 0 where
  pub given : List Event
  pub is_ended : m.reader.ended ≡ ended
  pub progress : Progress (extras_of m.known) true taken given m.reader
  pub rows : m.start + 1000 * m.rows ≡ micros_after m.start given
  pub made : told ≡ rows_from m.start given
