-- What is told of a relay, and what its history has in common with it.
use Rattle.std.specs.Prelude.{ℕ, List, [], ◌∷◌}
use Rattle.std.specs.List.{flat_map}
use Rattle.mav_frame.specs.Packet.{Packet}
use Rattle.mav_sign.specs.declared.admission.Admit.{Admit}
use Rattle.relay_rules.specs.Steps.{Event, opens, closes, hears, refuses, forgets}
use Rattle.relay_core.specs.declared.notes.Note.{Note}
use Rattle.relay_core.specs.declared.notes.Note.TheVariants.{Opened, Closed, Refused, Waits, Gave, Took, Asked}
use Rattle.relay_core.specs.Flows.{Told}
use Rattle.relay_core.specs.Said.{Said}
use Rattle.relay_core.specs.Said.Said.{Framed, Noted}

-- a link opens, with its number, at a port; one closes; a frame comes in with its verdict, at a link or, with the
-- number 0, of somebody who has no link
pub data Mark : Type 0 where
  Opens : (number port : ℕ) → Mark
  Closes : (number : ℕ) → Mark
  Frames : (number : ℕ) → Packet → Admit → Mark

abbrev pub marks_by : Event → List Mark
marks_by (opens number port) = Opens number port ∷ []
marks_by (closes number) = Closes number ∷ []
marks_by (hears number packet answer) = Frames number packet answer ∷ []
marks_by (refuses port packet answer) = Frames 0 packet answer ∷ []
marks_by forgets = []

-- those of a history
abbrev pub marks_of : List Event → List Mark
marks_of events = flat_map marks_by events

abbrev pub mark_of_told : Told → Mark
mark_of_told told = Frames told.number told.packet told.answer

abbrev pub marks_noted : Note → List Mark
marks_noted (Opened number port) = Opens number port ∷ []
marks_noted (Closed number port why dropped) = Closes number ∷ []
marks_noted (Refused port) = []
marks_noted (Waits port) = []
marks_noted (Gave number port count) = []
marks_noted (Took number port count) = []
marks_noted (Asked port count) = []

abbrev pub marks_said_by : Said → List Mark
marks_said_by (Framed told) = mark_of_told told ∷ []
marks_said_by (Noted note) = marks_noted note

-- those of what was told
abbrev pub marks_said : List Said → List Mark
marks_said said = flat_map marks_said_by said

abbrev pub framed_by : Said → List Told
framed_by (Framed told) = told ∷ []
framed_by (Noted note) = []

-- the frames that were told, with the links that they go to
abbrev pub framed_in : List Said → List Told
framed_in said = flat_map framed_by said
