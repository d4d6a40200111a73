-- The drone that a line of `drone` asks for, and what its run does at its port and with its store.
use Rattle.std.specs.Prelude.{◌≡◌, ◌≤◌, ℕ, Bool, true, false, List, [], ◌∷◌, Option, IfSome}
use Rattle.std.specs.Fmt.{decimal}
use Rattle.mav_links.specs.Links.{LinkState}
use Rattle.run_status.specs.declared.run_ends.RunEnd.{RunEnd}
use Rattle.command_line.specs.declared.commands.OptionName.TheVariants.{Store}
use Rattle.command_line.specs.Forms.{has_given}
use Rattle.command_line.specs.Grammar.{Asked}
use Rattle.command_line.specs.Names.{turns_asked}
use Rattle.live_node.specs.declared.drones.DronePlan.{DronePlan}
use Rattle.live_node.specs.Ports.{FaultsBy}
use Rattle.live_node.specs.Runs.{Outside, outside, Stores}
use Rattle.live_node.specs.Drones.{IsDroneEnd, DroneRuns, NewDroneRuns}
use Rattle.run_status.specs.Seen.{Output}

-- SYS PORT, and how often the port may be read
pub record DroneOf (asked : Asked) (plan : DronePlan) : Type 0 where
  pub port : List ℕ
  pub plain : asked.plain ≡ decimal plan.sys ∷ port ∷ []
  pub least : 1 ≤ plan.sys
  pub turns : plan.turns ≡ turns_asked asked.settings

-- the only thing of its kind, before a run and after it
pub record Alone {A : Type 0} (before after : List A) (first last : A) : Type 0 where
  pub was : before ≡ first ∷ []
  pub now : after ≡ last ∷ []

-- a drone ran over the only store
pub record StoredRun {B : Type 0} (stores : Stores B) (key : List ℕ) (plan : DronePlan) (before after : List B)
    (end : Option RunEnd) (port_before port_after : Outside) : Type 0 where
  pub first : B
  pub last : B
  pub alone : Alone before after first last
  pub run : DroneRuns stores key plan first last end port_before port_after

-- over the store that is named, or over an empty one in memory
abbrev pub RunsOver : {B : Type 0} → Stores B → (named : Bool) → List ℕ → DronePlan → (before after : List B)
    → Option RunEnd → (first last : Outside) → Type 0
RunsOver stores true key plan before after end first last = StoredRun stores key plan before after end first last
RunsOver stores false key plan before after end first last = NewDroneRuns key plan end first last × (after ≡ before)

-- the ports, the stores and the clock of a run, before it and after it
pub record Devices (A B : Type 0) : Type 1 where
  pub state : A → LinkState
  pub stores : Stores B
  pub ports_before : List A
  pub ports_after : List A
  pub keepers_before : List B
  pub keepers_after : List B
  pub time_before : Option ℕ
  pub time_after : Option ℕ

abbrev pub devices : {A B C : Type 0} → (A → LinkState) → Stores B → (C → Option ℕ)
    → (ports_before ports_after : List A) → (keepers_before keepers_after : List B) → (clock_before clock_after : C)
    → Devices A B
devices state stores always ports_before ports_after keepers_before keepers_after clock_before clock_after = record {
  state = state;
  stores = stores;
  ports_before = ports_before;
  ports_after = ports_after;
  keepers_before = keepers_before;
  keepers_after = keepers_after;
  time_before = always clock_before;
  time_after = always clock_after;
}

-- it ran under a key, at the only port, and ended so
pub record Flown {A B : Type 0} (d : Devices A B) (asked : Asked) (out : Output) (end : Option RunEnd)
    (key : List ℕ) : Type 0 where
  pub plan : DronePlan
  pub is : DroneOf asked plan
  pub first : A
  pub last : A
  pub alone : Alone d.ports_before d.ports_after first last
  pub run : RunsOver d.stores (has_given Store asked.settings) key plan d.keepers_before d.keepers_after end
      (outside (d.state first) out.sent_before d.time_before) (outside (d.state last) out.sent_after d.time_after)
  pub why : IfSome end (IsDroneEnd plan.turns)
  pub faults : FaultsBy end (d.state first).faults (d.state last).faults out.refusals_before out.refusals_after
