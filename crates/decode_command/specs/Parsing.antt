-- The parse of a stream as a function, by what is at each offset of it. Frames of MAVLink 1 are read too.
use Rattle.std.specs.Prelude.{ℕ, zero, suc, ◌-◌, Bool, true, false, List, [], ◌∷◌}
use Rattle.mav_frame.specs.Looks.{look_of}
use Rattle.mav_frame.specs.declared.looks.Look.{Look}
use Rattle.mav_frame.specs.declared.looks.Look.TheVariants.{Frame as Found, NotHere, More}
use Rattle.mav_frame.specs.declared.looks.Why.TheVariants.{Short}
use Rattle.mav_frame.specs.declared.events.Event.{Event}
use Rattle.mav_frame.specs.declared.events.Event.TheVariants.{Frame, Skipped}

-- the events from a byte on, by what is there, with those after it if so many bytes more belong to a frame. The Bool
-- says that the input has ended: bytes that lack more are then skipped, and are else the end of the events
abbrev pub events_at : Look → Bool → ℕ → (ℕ → List Event) → List Event
events_at (Found packet size) ended byte after = Frame packet ∷ after (size - 1)
events_at (NotHere why) ended byte after = Skipped byte why ∷ after 0
events_at (More lacking) true byte after = Skipped byte Short ∷ after 0
events_at (More lacking) false byte after = []

-- the events after the first bytes, which belong to a frame
abbrev pub events_after : List (ℕ × ℕ) → Bool → ℕ → List ℕ → List Event
events_after extras ended inside [] = []
events_after extras ended (suc inside) (byte ∷ rest) = events_after extras ended inside rest
events_after extras ended zero (byte ∷ rest) = events_at (look_of extras true (byte ∷ rest)) ended byte
    (λ inside. events_after extras ended inside rest)

-- the events of the parse: of the final one if the input has ended, else of the incremental one
abbrev pub parse_events : List (ℕ × ℕ) → Bool → List ℕ → List Event
parse_events extras ended bytes = events_after extras ended 0 bytes

abbrev pub final_events : List (ℕ × ℕ) → List ℕ → List Event
final_events extras bytes = parse_events extras true bytes

abbrev pub incremental_events : List (ℕ × ℕ) → List ℕ → List Event
incremental_events extras bytes = parse_events extras false bytes
