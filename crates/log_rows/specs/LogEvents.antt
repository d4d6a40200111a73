-- The parse of a log as a function, by what is 8 bytes behind each place of it.
use Rattle.std.specs.Prelude.{ℕ, zero, suc, ◌+◌, Bool, true, false, List, [], ◌∷◌, drop}
use Rattle.mav_frame.specs.Looks.{look_of}
use Rattle.mav_frame.specs.declared.looks.Look.{Look}
use Rattle.mav_frame.specs.declared.looks.Look.TheVariants.{Frame as Found, NotHere, More}
use Rattle.mav_frame.specs.declared.looks.Why.TheVariants.{Short}
use Rattle.log_rows.specs.LogParse.{LogEvent, RowEvent, SkipEvent}
use Rattle.log_rows.specs.Rows.{micros_at}

-- the events from a byte on, by what is 8 bytes further, with those after it if so many bytes more belong to a row
abbrev pub events_at : Look → Bool → ℕ → ℕ → (ℕ → List LogEvent) → List LogEvent
events_at (Found packet size) ended byte micros after =
    RowEvent (record { micros = micros; frame = packet }) ∷ after (size + 7)
events_at (NotHere why) ended byte micros after = SkipEvent byte why ∷ after 0
events_at (More lacking) true byte micros after = SkipEvent byte Short ∷ after 0
events_at (More lacking) false byte micros after = []

-- the events after the first bytes, which belong to a row
abbrev pub events_after : List (ℕ × ℕ) → Bool → ℕ → List ℕ → List LogEvent
events_after extras ended inside [] = []
events_after extras ended (suc inside) (byte ∷ rest) = events_after extras ended inside rest
events_after extras ended zero (byte ∷ rest) =
    events_at (look_of extras true (drop 8 (byte ∷ rest))) ended byte (micros_at (byte ∷ rest))
    (λ inside. events_after extras ended inside rest)

-- the events of the parse. The Bool says that the input has ended
abbrev pub log_events : List (ℕ × ℕ) → Bool → List ℕ → List LogEvent
log_events extras ended b = events_after extras ended 0 b
