-- The rows that `log filter` and `log make` write.
use Rattle.std.specs.Prelude.{ℕ, ◌+◌, ◌==◌, if◌then◌else◌, List, [], ◌∷◌, ◌++◌, flat_map}
use Rattle.mav_frame.specs.declared.events.Event.{Event}
use Rattle.mav_frame.specs.declared.events.Event.TheVariants.{Frame, Skipped}
use Rattle.log_rows.specs.LogParse.{LogEvent, RowEvent, SkipEvent}
use Rattle.log_rows.specs.Rows.{row_encoding}

-- the bytes of a row whose frame is of that system
abbrev pub row_of : ℕ → LogEvent → List ℕ
row_of sys (RowEvent row) = if row.frame.from.sys == sys then row_encoding row else []
row_of sys (SkipEvent byte why) = []

abbrev pub rows_of_system : ℕ → List LogEvent → List ℕ
rows_of_system sys events = flat_map (row_of sys) events

-- the row of a frame at a time, and the time of the next one
abbrev pub made_of : ℕ → Event → List ℕ
made_of micros (Frame packet) = row_encoding (record { micros = micros; frame = packet })
made_of micros (Skipped byte why) = []

abbrev pub time_after : ℕ → Event → ℕ
time_after micros (Frame packet) = micros + 1000
time_after micros (Skipped byte why) = micros

-- the frames of a stream as rows, the first at a time and each 1,000 microseconds after the one before
abbrev pub rows_from : ℕ → List Event → List ℕ
rows_from micros [] = []
rows_from micros (event ∷ events) = made_of micros event ++ rows_from (time_after micros event) events

-- the time of the next frame after these events
abbrev pub micros_after : ℕ → List Event → ℕ
micros_after micros [] = micros
micros_after micros (event ∷ events) = micros_after (time_after micros event) events
