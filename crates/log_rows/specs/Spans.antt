-- What is at the start of the bytes of a log.
use Rattle.std.specs.Prelude.{ℕ, ◌+◌, ◌&&◌, Bool, true, nat_lt, if◌then◌else◌, List, [], ◌∷◌, length, drop}
use Rattle.std.specs.Prelude.{slice_index}
use Rattle.mav_frame.specs.Looks.{look_of}
use Rattle.mav_frame.specs.declared.looks.Look.{Look}
use Rattle.mav_frame.specs.declared.looks.Look.TheVariants.{Frame as Found, NotHere, More}
use Rattle.mav_frame.specs.declared.looks.Why.TheVariants.{Short}
use Rattle.log_rows.specs.LogParse.{LogEvent, RowEvent, SkipEvent}
use Rattle.log_rows.specs.Progress.{LogHeld}
use Rattle.log_rows.specs.Rows.{first_row}
use Rattle.log_rows.specs.declared.spans.RowSpan.{RowSpan}
use Rattle.log_rows.specs.declared.spans.RowSpan.TheVariants.{Row, Skipped, Need}

-- an incomplete row is skipped once the input has ended
abbrev pub short_span : Bool → List ℕ → RowSpan
short_span ended b = if ended && nat_lt 0 (length b) then Skipped Short else Need

-- by what is behind the time
abbrev pub span_by : Look → Bool → List ℕ → RowSpan
span_by (Found packet size) ended b = Row (size + 8)
span_by (NotHere why) ended b = Skipped why
span_by (More lacking) ended b = short_span ended b

abbrev pub log_span : LogHeld → RowSpan
log_span held = span_by (look_of held.extras true (drop 8 held.bytes)) held.ended held.bytes

-- the event at the start, and what is held after it
abbrev pub span_events : List ℕ → RowSpan → List LogEvent
span_events b (Row size) = RowEvent (first_row b) ∷ []
span_events b (Skipped why) = SkipEvent (slice_index b 0) why ∷ []
span_events b Need = []

abbrev pub span_size : RowSpan → ℕ
span_size (Row size) = size
span_size (Skipped why) = 1
span_size Need = 0

abbrev pub held_behind : LogHeld → RowSpan → LogHeld
held_behind held span = record held { bytes = drop (span_size span) held.bytes }

-- a fact at Need
abbrev pub IfNeed : RowSpan → Type 0 → Type 0
IfNeed (Row size) P = Unit {0}
IfNeed (Skipped why) P = Unit {0}
IfNeed Need P = P

-- a fact if an event is at the start
abbrev pub IfSome : RowSpan → Type 0 → Type 0
IfSome (Row size) P = P
IfSome (Skipped why) P = P
IfSome Need P = Unit {0}

-- a fact of a row at the start, and of its length
abbrev pub IfRow : RowSpan → (ℕ → Type 0) → Type 0
IfRow (Row size) P = P size
IfRow (Skipped why) P = Unit {0}
IfRow Need P = Unit {0}
