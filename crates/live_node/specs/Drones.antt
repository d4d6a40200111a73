-- The run of a drone on a port.
use Rattle.std.specs.Prelude.{ℕ, pos, ◌≡◌, ◌<◌, ◌≤◌, ◌⊎◌, List, [], ◌∷◌, length, Option, Some, None, true}
use Rattle.mav_ports.specs.Gets.{IsSpent}
use Rattle.plan_store.specs.MemStores.{MemStore, store_from_start}
use Rattle.plan_image.specs.Image.{IsImageOf}
use Rattle.plan_image.specs.Plans.{Plans}
use Rattle.drone_sim.specs.declared.points.Point.{Point}
use Rattle.mav_nodes.specs.declared.faults.StartFault.{StartFault}
use Rattle.mav_nodes.specs.declared.faults.StartFault.TheVariants.{Store, BadKept, NoMemory as NoStartMemory}
use Rattle.mav_nodes.specs.Stores.{HasFailed}
use Rattle.mav_nodes.specs.Nodes.{DroneSide, new_drone}
use Rattle.mav_nodes.specs.Restarts.{stored_drone}
use Rattle.mav_nodes.specs.Starts.{StartFails}
use Rattle.node_reports.specs.Nodes.{Drone}
use Rattle.run_status.specs.declared.input_errors.Place.TheVariants.{Store as StorePlace}
use Rattle.run_status.specs.declared.input_errors.Reason.TheVariants.{Kept as KeptReason}
use Rattle.run_status.specs.declared.input_errors.InputError.TheVariants.{Bad}
use Rattle.run_status.specs.declared.input_errors.InputError.TheVariants.{StampsSpent}
use Rattle.run_status.specs.declared.live_ends.LiveEnd.TheVariants.{StoreFault, PortTurns, PortFault}
use Rattle.run_status.specs.declared.run_ends.RunEnd.{RunEnd}
use Rattle.run_status.specs.declared.run_ends.RunEnd.TheVariants.{Stopped, WriteFault, NoMemory, Live}
use Rattle.live_node.specs.declared.drones.DronePlan.{DronePlan}
use Rattle.live_node.specs.Calls.{LiveCall, Beats}
use Rattle.live_node.specs.Turns.{Turn}
use Rattle.live_node.specs.Runs.{Outside, Stores, stores_of, LiveRun}

-- where a drone starts
abbrev pub origin : Point
origin = record { x = pos 0; y = pos 0 }

-- with what these bytes are the image of
pub record RestoredFrom (key : List ℕ) (sys : ℕ) (bytes : List ℕ) (node : DroneSide) : Type 0 where
  pub low : ℕ
  pub plans : Plans
  pub is_image : IsImageOf sys low plans bytes
  pub is : node ≡ stored_drone key sys origin low plans

-- with what some image is of
abbrev pub IsRestored : List ℕ → ℕ → DroneSide → Type 0
IsRestored key sys node = (bytes : List ℕ) × RestoredFrom key sys bytes node

-- the drone that starts from these contents of a store: anew from empty ones, and else with the low bound and the
-- plans of the image
abbrev pub StartsFrom : List ℕ → ℕ → Option (List ℕ) → DroneSide → Type 0
StartsFrom key sys None node = (node ≡ new_drone key sys origin) ⊎ IsRestored key sys node
StartsFrom key sys (Some []) node = node ≡ new_drone key sys origin
StartsFrom key sys (Some (byte ∷ bytes)) node = RestoredFrom key sys (byte ∷ bytes) node

-- how a run ends whose drone doesn't start
abbrev pub start_end : StartFault → RunEnd
start_end Store = Live StoreFault
start_end BadKept = Stopped (Bad StorePlace KeptReason)
start_end NoStartMemory = NoMemory

-- why a run ends that may make so many reads
abbrev pub IsDroneEnd : ℕ → RunEnd → Type 0
IsDroneEnd most (Stopped StampsSpent) = Unit {0}
IsDroneEnd most (Stopped (Bad StorePlace KeptReason)) = Unit {0}
IsDroneEnd most WriteFault = Unit {0}
IsDroneEnd most NoMemory = Unit {0}
IsDroneEnd most (Live StoreFault) = Unit {0}
IsDroneEnd most (Live (PortTurns turns)) = turns ≡ most
IsDroneEnd most (Live PortFault) = Unit {0}
IsDroneEnd most other = ⊥

-- a drone's opening is a heartbeat
abbrev pub IsHeartbeat : List LiveCall → Type 0
IsHeartbeat calls = (at : ℕ) × (calls ≡ Beats at ∷ [])

-- how a drone ends that may make so many reads. 0: at one of them the port has ended, and nothing is left of it; 11:
-- so many gave bytes or returned Idle; never 3, since what its store had was the drone's
abbrev pub DroneEnds : ℕ → Option RunEnd → List Turn → Outside → Type 0
DroneEnds most None turns last = (length turns < most) × (last.link.ended ≡ true) × IsSpent last.link.left
DroneEnds most (Some (Stopped (Bad place reason))) turns last = ⊥
DroneEnds most (Some (Live (PortTurns taken))) turns last = (taken ≡ most) × (length turns ≡ most)
DroneEnds most other turns last = length turns ≤ most

-- the run of a drone that has started
pub record DroneLived {S : Type 0} (stores : Stores S) (before after : S) (most : ℕ) (start : DroneSide)
    (end : Option RunEnd) (first last : Outside) : Type 0 where
  pub run : LiveRun stores before after IsHeartbeat (λ link. ⊥) (Drone start) end first last
  pub ends : DroneEnds most end run.turns last

-- a drone started, and ran
pub record DroneRan {S : Type 0} (stores : Stores S) (key : List ℕ) (plan : DronePlan) (before after : S)
    (end : Option RunEnd) (first last : Outside) : Type 0 where
  pub start : DroneSide
  pub starts : StartsFrom key plan.sys (stores.contents before) start
  pub lived : DroneLived stores before after plan.turns start end first last

-- it didn't start: nothing was read or written, and its store has what it had
pub record DroneUnstarted {S : Type 0} (stores : Stores S) (plan : DronePlan) (before after : S) (end : Option RunEnd)
    (first last : Outside) : Type 0 where
  pub fault : StartFault
  pub end_is : end ≡ Some (start_end fault)
  pub fails : StartFails fault plan.sys (stores.contents before)
      (HasFailed stores.faults stores.is_infallible before after)
  pub stays : stores.contents after ≡ stores.contents before
  pub same : last ≡ first

abbrev pub DroneRuns : {S : Type 0} → Stores S → List ℕ → DronePlan → (before after : S) → Option RunEnd
    → (first last : Outside) → Type 0
DroneRuns stores key plan before after end first last = DroneRan stores key plan before after end first last
    ⊎ DroneUnstarted stores plan before after end first last

-- what is known of a store in memory
abbrev pub mem_stores : Stores MemStore
mem_stores = stores_of (λ (s : MemStore). s.faults) (λ (s : MemStore). s.fails ≡ [])
    (λ (s : MemStore). Some s.contents)

-- the run of a drone over an empty store in memory, of which no call fails
abbrev pub NewDroneRuns : List ℕ → DronePlan → Option RunEnd → (first last : Outside) → Type 0
NewDroneRuns key plan end first last = (after : MemStore)
    × DroneRuns mem_stores key plan (store_from_start [] []) after end first last
