-- What `next` returns, and what is held then.
use Rattle.std.specs.Prelude.{ℕ, ◌<◌, List, [], ◌∷◌, length, slice_index}
use Rattle.log_rows.specs.LogParse.{LogEvent, RowEvent, SkipEvent}
use Rattle.log_rows.specs.Progress.{LogHeld, IsWholeLog}
use Rattle.log_rows.specs.Rows.{first_row}
use Rattle.log_rows.specs.Spans.{log_span, held_behind}
use Rattle.log_rows.specs.declared.spans.RowSpan.{RowSpan}
use Rattle.log_rows.specs.declared.spans.RowSpan.TheVariants.{Row as RowOf, Skipped as SkippedFor, Need as NeedOf}
use Rattle.log_rows.specs.declared.reader.LogNext.{LogNext}
use Rattle.log_rows.specs.declared.reader.LogNext.TheVariants.{Row, Skipped, Need}

abbrev pub next_by : RowSpan → List ℕ → LogNext
next_by (RowOf size) b = Row (first_row b)
next_by (SkippedFor why) b = Skipped (slice_index b 0) why
next_by NeedOf b = Need

abbrev pub next_row : LogHeld → LogNext
next_row held = next_by (log_span held) held.bytes

abbrev pub held_after : LogHeld → LogHeld
held_after held = held_behind held (log_span held)

-- the event that a result gives, if it gives one
abbrev pub given_by : LogNext → List LogEvent
given_by (Row row) = RowEvent row ∷ []
given_by (Skipped byte why) = SkipEvent byte why ∷ []
given_by Need = []

-- fewer bytes are held after an event, and at Need there is room for one more
abbrev pub HasRoomAfter : LogHeld → LogNext → LogHeld → Type 0
HasRoomAfter old (Row row) new = length new.bytes < length old.bytes
HasRoomAfter old (Skipped byte why) new = length new.bytes < length old.bytes
HasRoomAfter old Need new = length new.bytes < 288

-- at Need the events given are the whole parse
abbrev pub WholeAtNeed : List (ℕ × ℕ) → List ℕ → List LogEvent → LogNext → LogHeld → Type 0
WholeAtNeed extras taken given (Row row) held = Unit {0}
WholeAtNeed extras taken given (Skipped byte why) held = Unit {0}
WholeAtNeed extras taken given Need held = IsWholeLog extras taken given held
