-- What each call of a relay does, in any run.
use Rattle.std.specs.Prelude.{ℕ, ◌≡◌, ◌++◌, List, [], length, take, slice_get, Some}
use Rattle.mav_sign.specs.Kept.{Kept, Represents as OfHistory}
use Rattle.relay_queue.specs.Queues.{next_bytes}
use Rattle.mav_router.specs.Journal.{Rules}
use Rattle.relay_rules.specs.States.{LinkState}
use Rattle.relay_rules.specs.Steps.{Event}
use Rattle.relay_core.specs.Flows.{Flow, Told, nothing_yet}
use Rattle.relay_core.specs.RelayRuns.{Holds, IsOpenAt, IsRun, RelayKept, RelayRun, Tape, WasSent}
use Rattle.relay_core.specs.Moves.{AreHeard, Stopped, closed_run, gave_run, opened_run, took_run}
use Rattle.relay_core.specs.Waitings.{WaitingState, counted}
use Rattle.relay_core.specs.Said.{Said, Tells}

-- before any event
abbrev pub no_run : Kept → RelayRun
no_run kept = record { events = []; course = nothing_yet kept; tapes = [] }

-- it holds of the run without an event, by any rules, from a verifier without a history
pub record IsNew (view : RelayKept) : Type 0 where
  pub kept : OfHistory view.links.kept []
  pub is_run : (rules : Rules) → IsRun rules view.links.kept (no_run view.links.kept)
  pub holds : (rules : Rules) → Holds rules (no_run view.links.kept) view

-- each open link has its stream, and what waits for it
abbrev pub IsWhole : RelayKept → Type 0
IsWhole view = (length view.scanners ≡ length view.links.links) × (length view.queues ≡ length view.links.links)

-- this run is one by the rules, and it holds of the relay
pub record RunIs (rules : Rules) (start : Kept) (run : RelayRun) (view : RelayKept) : Type 0 where
  pub is_run : IsRun rules start run
  pub holds : Holds rules run view

abbrev pub Opens : Rules → ℕ → RelayKept → RelayKept → Type 0
Opens rules port old new =
    (start : Kept) (run : RelayRun) → IsRun rules start run → Holds rules run old
    → RunIs rules start (opened_run port run) new

-- and of the link that closes so many frames were dropped
pub record HasClosedWith (rules : Rules) (start : Kept) (index dropped : ℕ) (run : RelayRun)
    (new : RelayKept) : Type 0 where
  pub goes_on : RunIs rules start (closed_run index run) new
  pub lost : (link : LinkState) (flow : Flow) (tape : Tape) → IsOpenAt run index link flow tape → (all : ℕ)
      × WasSent all flow tape × (dropped ≡ counted all)

abbrev pub Closes : ℕ → ℕ → RelayKept → RelayKept → Type 0
Closes index dropped old new =
    (rules : Rules) (start : Kept) (run : RelayRun) → IsRun rules start run → Holds rules run old
    → HasClosedWith rules start index dropped run new

-- these bytes are on the link's tape, and more frames have come in, of which the watcher was told
pub record HasHeard {Watcher : Type 0} (rules : Rules) (start : Kept) (index : ℕ) (bytes : List ℕ) (run : RelayRun)
    (new : RelayKept) (told : Watcher → List Said → Type 0) (watcher telling : Watcher) : Type 0 where
  pub now : RelayRun
  pub goes_on : RunIs rules start now new
  pub tapes : now.tapes ≡ (gave_run index bytes run).tapes
  pub since : List Event
  pub events : now.events ≡ run.events ++ since
  pub frames : AreHeard since
  pub more : List Told
  pub course : now.course.told ≡ run.course.told ++ more
  pub tells_it : Tells told watcher telling more

abbrev pub Hears : {Watcher : Type 0} → Rules → ℕ → List ℕ → RelayKept → RelayKept → (Watcher → List Said → Type 0)
    → (watcher telling : Watcher) → Type 0
Hears rules index bytes old new told watcher telling =
    (start : Kept) (run : RelayRun) → IsRun rules start run → Holds rules run old
    → HasHeard rules start index bytes run new told watcher telling

-- there was no memory for it all: what holds in part, and what was told so far
abbrev pub HearsInPart : {Watcher : Type 0} → Rules → ℕ → List ℕ → RelayKept → (Watcher → List Said → Type 0)
    → (watcher telling : Watcher) → Type 0
HearsInPart rules index bytes old told watcher telling =
    (start : Kept) (run : RelayRun) → IsRun rules start run → Holds rules run old
    → Stopped rules start (gave_run index bytes run) told watcher telling

-- so many of the bytes that are next are on its tape
abbrev pub Takes : ℕ → ℕ → RelayKept → RelayKept → Type 0
Takes index count old new =
    (rules : Rules) (start : Kept) (run : RelayRun) (waiting : WaitingState) → IsRun rules start run
    → Holds rules run old → slice_get old.queues index ≡ Some waiting
    → RunIs rules start (took_run index (take count (next_bytes waiting.queue)) run) new
