-- Drones of a scenario: each keeps its plans in a store in memory that never fails.
use Rattle.std.specs.Prelude.{◌≡◌, [], Some, None}
use Rattle.mav_names.specs.Addresses.{drone_stream}
use Rattle.plan_store.specs.MemStores.{MemStore}
use Rattle.mav_nodes.specs.declared.faults.NodeFault.{NodeFault}
use Rattle.mav_nodes.specs.declared.faults.NodeFault.TheVariants.{StampsSpent, Store, NoMemory}
use Rattle.mav_nodes.specs.Links.{Outcome}
use Rattle.mav_nodes.specs.Nodes.{DroneSide, DroneView, IsDrone}
use Rattle.mav_nodes.specs.Images.{StoreHolds}

-- what contracts see of a drone and its store
pub record StoredView : Type 0 where
  pub node : DroneView
  pub store : MemStore

-- it is this drone, on the stream of its system, the store has what the drone has stored, and no call of it fails
pub record IsStoredDrone (node : DroneSide) (view : StoredView) : Type 0 where
  pub drone : IsDrone node view.node
  pub me : node.link.me ≡ drone_stream node.core.sys
  pub holds : StoreHolds (Some view.store.contents) view.node
  pub infallible : view.store.fails ≡ []

-- a call of a node of a scenario fails: it has no timestamp left, or there is no memory
abbrev pub FailsBy : {A : Type 0} → NodeFault → Outcome A → Type 0
FailsBy StampsSpent outcome = outcome ≡ None
FailsBy Store outcome = ⊥
FailsBy NoMemory outcome = Unit {0}
