-- How a run of a router ended.
use Rattle.std.specs.Prelude.{ℕ, ◌≡◌, ◌≤◌, ◌+◌, Bool, List, [], length, slice_get, Some, IfOk, IfErr}
use Rattle.std.specs.declared.result.Result.{Result}
use Rattle.std.specs.Global.{Vec}
use Rattle.mav_links.specs.Links.{LinkState}
use Rattle.mav_router.specs.declared.ends.PortEnd.{PortEnd}
use Rattle.mav_router.specs.declared.ends.RouteEnd.{RouteEnd}
use Rattle.mav_router.specs.declared.ends.RouteFault.{RouteFault}
use Rattle.mav_router.specs.declared.entries.Entry.{Entry}
use Rattle.mav_router.specs.declared.entries.SwitchFault.{SwitchFault}
use Rattle.mav_router.specs.Ends.{PortRun}
use Rattle.mav_router.specs.Faults.{RouteStopped, StopsBy}
use Rattle.mav_router.specs.Journal.{Rules, IsJournal}

-- a router may be run over so many ports, of which at most so many reads each may give bytes or return Idle
pub record CanRoute (ports most : ℕ) : Type 0 where
  pub from : 1 ≤ ports
  pub to : ports ≤ 8
  pub turns : most ≤ 1000000000

-- what became of each port
abbrev pub EachRan : {A : Type 0} → (A → LinkState) → Rules → (most : ℕ) → (before after : List A) → List Entry
    → List PortEnd → Type 0
EachRan {A} state rules most before after journal ends =
    (k : ℕ) (b c : A) (e : PortEnd) → slice_get before k ≡ Some b → slice_get after k ≡ Some c
    → slice_get ends k ≡ Some e → PortRun rules journal most (k + 1) (state b) (state c) e

-- the run came to its end at each port, with this journal: what came in at each is the parse of the bytes read there,
-- and what was written to each is what the journal sends there
pub record HasRouted {A : Type 0} (state : A → LinkState) (rules : Rules) (most : ℕ) (before after : List A)
    (journal : List Entry) (ends : List PortEnd) : Type 0 where
  pub legal : IsJournal rules [] journal
  pub few : length journal ≤ 1000000
  pub count : length ends ≡ length before
  pub each : EachRan state rules most before after journal ends

-- it stopped before that, on one thread or with one for each port: the journal was full, or memory was out; there may
-- be a frame more than those of the entries, with threads one at each port
pub record HasStopped {A : Type 0} (one : Bool) (state : A → LinkState) (rules : Rules) (most : ℕ)
    (before after : List A) (why : SwitchFault) (journal : List Entry) : Type 0 where
  pub legal : IsJournal rules [] journal
  pub stopped : StopsBy one state rules most why journal before after

-- what a run of one thread has done at its ports, by its switch's journal
pub record PortsEnded {A : Type 0} (result : Result (Vec PortEnd) SwitchFault) (state : A → LinkState) (rules : Rules)
    (most : ℕ) (before after : List A) (journal : List Entry) : Type 0 where
  pub count : IfOk result (λ (ends : Vec PortEnd). length ends.items ≡ length before)
  pub each : IfOk result (λ (ends : Vec PortEnd). EachRan state rules most before after journal ends.items)
  pub stopped : IfErr result (λ (why : SwitchFault). RouteStopped state rules most why journal before after)

-- the run ended with this result, on one thread or with one for each port, and the links are where they were
pub record HasEnded {A : Type 0} (result : Result RouteEnd RouteFault) (one : Bool) (state : A → LinkState)
    (rules : Rules) (most : ℕ) (before after : List A) : Type 0 where
  pub links : length after ≡ length before
  pub routed : IfOk result (λ (end : RouteEnd). HasRouted state rules most before after end.journal end.ports.items)
  pub stopped : IfErr result (λ (fault : RouteFault).
      HasStopped one state rules most before after fault.why fault.journal)
