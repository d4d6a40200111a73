-- The parse as a function is the parse by its definition.
use Rattle.std.specs.Prelude.{ℕ, ◌≡◌, true, List}
use Rattle.mav_frame.specs.Parse.{Final, Incremental}
use Rattle.mav_frame.specs.declared.events.Event.{Event}
use Rattle.decode_command.specs.Parsing.{final_events, incremental_events}

-- whatever events are the final parse of the bytes, the function gives them
abbrev pub FinalEvents : Type 0
FinalEvents = (extras : List (ℕ × ℕ)) (bytes : List ℕ) (events : List Event) → Final extras true events bytes
    → final_events extras bytes ≡ events

-- and so for the incremental parse
abbrev pub IncrementalEvents : Type 0
IncrementalEvents = (extras : List (ℕ × ℕ)) (bytes left : List ℕ) (events : List Event)
    → Incremental extras true events left bytes → incremental_events extras bytes ≡ events
