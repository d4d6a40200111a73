-- What threads start with, and what they leave.
use Rattle.std.specs.Prelude.{ℕ, ◌≡◌, ◌≤◌, ◌+◌, List, map, length, take, vec_len, vec_capacity, slice_get, Some, false}
use Rattle.std.specs.Prelude.{All, sum_by}
use Rattle.mav_links.specs.Links.{LinkState}
use Rattle.turnstile.specs.Merging.{Continues}
use Rattle.turnstile.specs.Participants.{Lock, Participant}
use Rattle.mav_router.specs.declared.entries.Entry.{Entry}
use Rattle.mav_router.specs.declared.history.SwitchEvent.{SwitchEvent}
use Rattle.mav_router.specs.declared.joining.Stock.{Stock}
use Rattle.mav_router.specs.declared.parts.Part.{Part}
use Rattle.mav_router.specs.declared.parts.Side.{Side}
use Rattle.mav_router.specs.History.{history_of}
use Rattle.mav_router.specs.Journal.{Rules, frames_to}
use Rattle.mav_router.specs.Parts.{IsReady, PartEnds}
use Rattle.mav_router.specs.Runs.{Input, Output, HadTurns, AllFresh, AllTurned}

-- new lanes and room for all ports, and room for all that is left of them
pub record IsStocked {A : Type 0} (rules : Rules) (stock : Stock A) : Type 0 where
  pub lanes : vec_len stock.lanes ≡ rules.ports
  pub fresh : AllFresh rules stock.lanes.items
  pub turned : AllTurned stock.lanes.items 0
  pub rooms : vec_len stock.rooms ≡ rules.ports
  pub sides : vec_len stock.sides ≡ 0
  pub room : rules.ports ≤ vec_capacity stock.sides

-- the part of the port at this index, before its thread
pub record IsPlaced {A : Type 0} (k : ℕ) (part : Part A) : Type 0 where
  pub port : part.port ≡ k + 1
  pub taken : part.side.taken ≡ 0

-- what the threads of all ports left, by parts that are no longer there
pub record HasServed {A : Type 0} (state : A → LinkState) (lock : Lock SwitchEvent) (rules : Rules) (turns : ℕ)
    (before : List A) (sides : List (Side A)) (seats : List (Participant SwitchEvent)) : Type 0 where
  pub parts : List (Part A)
  pub count : length parts ≡ length before
  pub of_sides : map (λ (p : Part A). p.side) parts ≡ sides
  pub of_seats : map (λ (p : Part A). p.seat) parts ≡ seats
  pub ready : (k : ℕ) (p : Part A) → slice_get parts k ≡ Some p → (p.port ≡ k + 1) × IsReady lock rules p
  pub ends : (k : ℕ) (b : A) (p : Part A) → slice_get before k ≡ Some b → slice_get parts k ≡ Some p
      → PartEnds p.side.halt state rules turns (state b) p

-- and the history of their switch is whole
pub record HasClosed {A : Type 0} (state : A → LinkState) (rules : Rules) (turns : ℕ) (journal : List Entry)
    (before : List A) (sides : List (Side A)) : Type 0 where
  pub lock : Lock SwitchEvent
  pub seats : List (Participant SwitchEvent)
  pub served : HasServed state lock rules turns before sides seats
  pub begins : All (Continues (history_of rules journal)) seats
  pub whole : length (history_of rules journal) ≡ 1 + sum_by (λ (s : Participant SwitchEvent). length s.own) seats

-- a port for which all was written that was left
pub record HasWrittenLeft {A : Type 0} (state : A → LinkState) (journal : List Entry) (port : ℕ)
    (old new : Side A) : Type 0 where
  pub input : (rules : Rules) (entries : List Entry) (first : LinkState)
      → Input rules entries port first (state old.link) old.lane
      → Input rules entries port first (state new.link) new.lane
  pub output : (first : LinkState) → Output (frames_to port (take old.taken journal)) first (state old.link) old.lane
      → Output (frames_to port (take new.taken journal)) first (state new.link) new.lane
  pub turned : (turns : ℕ) → HadTurns old.lane turns → HadTurns new.lane turns
  pub drained : new.lane.failed ≡ false → frames_to port (take new.taken journal) ≡ frames_to port journal
