-- How far a thread is with its port.
use Rattle.std.specs.Prelude.{ℕ, ◌≡◌, ◌==◌, ◌≤◌, length, take}
use Rattle.mav_links.specs.Links.{LinkState}
use Rattle.turnstile.specs.Labels.{EachPasses}
use Rattle.turnstile.specs.Participants.{Lock, Participant, CanEnter, HasItsOwn}
use Rattle.mav_router.specs.declared.history.SwitchEvent.{SwitchEvent}
use Rattle.mav_router.specs.declared.parts.Halt.{Halt}
use Rattle.mav_router.specs.declared.parts.Halt.TheVariants.{Done, Stopped, Fault}
use Rattle.mav_router.specs.declared.parts.Part.{Part}
use Rattle.mav_router.specs.Journal.{Rules, frames_to}
use Rattle.mav_router.specs.History.{history_of, entries_in, label_of}
use Rattle.mav_router.specs.Runs.{Input, Output, HadTurns}
use Rattle.mav_router.specs.Faults.{IsSwitchFault, StopsInput}

-- a port's seat, outside its turn: what it has seen is a history by these rules, and it added entries of its port
-- alone
pub record IsSeated (lock : Lock SwitchEvent) (rules : Rules) (port : ℕ)
    (seat : Participant SwitchEvent) : Type 0 where
  pub enters : CanEnter lock seat
  pub own : HasItsOwn seat
  pub history : seat.seen ≡ history_of rules (entries_in seat.seen)
  pub labels : EachPasses (λ e. label_of e == port) seat.own

-- a part that may take turns
pub record IsReady {A : Type 0} (lock : Lock SwitchEvent) (rules : Rules) (part : Part A) : Type 0 where
  pub seated : IsSeated lock rules part.port part.seat
  pub from : 1 ≤ part.port
  pub to : part.port ≤ rules.ports
  pub few : rules.ports ≤ 8
  pub taken : part.side.taken ≤ length (entries_in part.seat.seen)

-- so far with the port: its entries are the frames of what was read, and it was given the frames that go out there, of
-- the entries that were looked through
pub record PartSoFar {A : Type 0} (state : A → LinkState) (rules : Rules) (first : LinkState)
    (part : Part A) : Type 0 where
  pub input : Input rules (entries_in part.seat.own) part.port first (state part.side.link) part.side.lane
  pub output : Output (frames_to part.port (take part.side.taken (entries_in part.seat.seen))) first
      (state part.side.link) part.side.lane

-- the same of a port at which the switch didn't take a frame
pub record PartStopped {A : Type 0} (state : A → LinkState) (rules : Rules) (first : LinkState)
    (part : Part A) : Type 0 where
  pub input : StopsInput rules (entries_in part.seat.own) part.side.lane.turns part.side.lane.failed part.port first
      (state part.side.link)
  pub output : Output (frames_to part.port (take part.side.taken (entries_in part.seat.seen))) first
      (state part.side.link) part.side.lane

-- what holds of a thread's part still holds after what the thread does between two reads of its port
pub record KeepsOn {A : Type 0} (state : A → LinkState) (lock : Lock SwitchEvent) (rules : Rules)
    (old new : Part A) : Type 0 where
  pub ready : IsReady lock rules new
  pub port : new.port ≡ old.port
  pub so_far : (first : LinkState) → PartSoFar state rules first old → PartSoFar state rules first new
  pub turned : (turns : ℕ) → HadTurns old.side.lane turns → HadTurns new.side.lane turns

-- what a thread has done, by how it ended
abbrev pub PartEnds : {A : Type 0} → Halt → (A → LinkState) → Rules → ℕ → LinkState → Part A → Type 0
PartEnds Done state rules turns first part = PartSoFar state rules first part × HadTurns part.side.lane turns
PartEnds Stopped state rules turns first part = PartSoFar state rules first part × part.side.lane.turns ≤ turns
PartEnds (Fault why) state rules turns first part =
    PartStopped state rules first part × (IsSwitchFault why (entries_in part.seat.seen) × part.side.lane.turns ≤ turns)
