-- The final parse as a function of the bytes.
use Rattle.std.specs.Prelude.{ℕ, zero, suc, Bool, List, [], ◌∷◌, length, drop, slice_index}
use Rattle.mav_frame.specs.Looks.{look_of}
use Rattle.mav_frame.specs.declared.looks.Look.{Look}
use Rattle.mav_frame.specs.declared.looks.Look.TheVariants.{Frame as Found, NotHere, More}
use Rattle.mav_frame.specs.declared.looks.Why.TheVariants.{Short}
use Rattle.mav_frame.specs.declared.events.Event.{Event}
use Rattle.mav_frame.specs.declared.events.Event.TheVariants.{Frame, Skipped}

-- the event at the start, and then those of the rest
abbrev pub events_by : Look → List ℕ → (List ℕ → List Event) → List Event
events_by (Found packet size) b rest = Frame packet ∷ rest (drop size b)
events_by (NotHere why) b rest = Skipped (slice_index b 0) why ∷ rest (drop 1 b)
events_by (More lacking) b rest = Skipped (slice_index b 0) Short ∷ rest (drop 1 b)

-- the first events, at most that many
abbrev pub first_events : List (ℕ × ℕ) → Bool → ℕ → List ℕ → List Event
first_events extras old zero b = []
first_events extras old (suc most) [] = []
first_events extras old (suc most) (byte ∷ bytes) =
    events_by (look_of extras old (byte ∷ bytes)) (byte ∷ bytes) (first_events extras old most)

-- all of them: each takes a byte at least
abbrev pub final_parse : List (ℕ × ℕ) → Bool → List ℕ → List Event
final_parse extras old b = first_events extras old (length b) b
