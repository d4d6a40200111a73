-- The main theorem over scenarios: the actions of a scenario are an execution of the world of messages, and so one of
-- the abstract mission store.
use Rattle.std.specs.Prelude.{ℕ, ◌≡◌, ◌<◌, ◌+◌, ◌==◌, ◌&&◌, ◌↔◌, if◌then◌else◌, List, [], ◌∷◌, ◌++◌, Some, slice_get}
use Rattle.mav_nodes.specs.Nodes.{DroneSide}
use Rattle.mav_names.specs.declared.names.Stream.{Stream}
use Rattle.plan_items.specs.declared.items.Item.{Item}
use Rattle.plan_upload.specs.Addresses.{node_of, same_stream}
use Rattle.plan_upload.specs.Plans.{plan_at}
use Rattle.plan_safety.specs.World as world
use Rattle.plan_safety.specs.World.{Nodes, Start, World, first_world}
use Rattle.plan_safety.specs.Store.{StoreEvent, first_store, Upload_begun, Installed, Clear_begun, Cleared, Get_begun}
use Rattle.plan_safety.specs.Store.{Shown, Cancelled, Ended, Restarted}
use Rattle.plan_safety.specs.Safety.{IsExecution}
use Rattle.plan_safety.specs.History.{Step, store_of, IsHistory, IsHeld, Uploaded, final, history}
use Rattle.scenario_lines.specs.LineContext.{has_drone, has_station}
use Rattle.fleet_report.specs.Events.{Event}
use Rattle.node_reports.specs.Nodes.{Node, Drone}
use Rattle.fleet_world.specs.WorldState.{WorldState, empty_state, names_of}
use Rattle.fleet_world.specs.Scenario.{Played, at_start, lines_played}
use Rattle.scenario_lines.specs.FileLines.{whole_lines}
use Rattle.fleet_safety.specs.Reporting.{seen, reported}
use Rattle.fleet_safety.specs.Actions.{Action, lines_actions, Order, Accepts_upload, Accepts_clear, Accepts_get}
use Rattle.fleet_safety.specs.Actions.{Accepts_cancel}

-- the nodes that were named, each with its stream: all sign on link 0
abbrev pub nodes_of : List Node → Nodes
nodes_of nodes = record {
  is_drone = λ s. has_drone (names_of nodes) (node_of s) && (s.link == 0);
  is_station = λ s. has_station (names_of nodes) (node_of s) && (s.link == 0);
}

-- stations of a scenario start with boot 0, and no PING number used
abbrev pub start : Start
start = record { boot = λ s. 0; pings = λ s. 0 }

-- ---- actions, one after another

-- their events, what the report says of them, the orders that they are, and the state after them
abbrev pub events_of : List Action → List world.Event
events_of [] = []
events_of (a ∷ actions) = a.events ++ events_of actions

abbrev pub report_of : List Action → List Event
report_of [] = []
report_of (a ∷ actions) = a.report ++ report_of actions

abbrev pub orders_of : List Action → List Order
orders_of [] = []
orders_of (a ∷ actions) = a.orders ++ orders_of actions

abbrev pub state_after : WorldState → List Action → WorldState
state_after s [] = s
state_after s (a ∷ actions) = state_after a.state actions

-- what these actions lead to in the world of messages, and what the abstract mission store goes through in them, the
-- newest first
abbrev pub world_after : Nodes → List Action → World
world_after n actions = final n (first_world start) (events_of actions)

abbrev pub history_of : Nodes → List Action → List Step
history_of n actions = history n (first_world start) [] (events_of actions)

-- what it goes through in one action after others
abbrev pub steps_in : Nodes → List Action → Action → List Step
steps_in n before a = history n (world_after n before) [] a.events

-- ---- orders in the history of the store

-- the accepted order that an event of the store is, if it is one
abbrev pub order_of : StoreEvent → List Order
order_of (Upload_begun station drone kind plan since drone_since) = Accepts_upload station drone kind plan ∷ []
order_of (Installed drone kind plan station) = []
order_of (Clear_begun station drone kind drone_since) = Accepts_clear station drone kind ∷ []
order_of (Cleared drone kind station) = []
order_of (Get_begun station drone kind drone_since) = Accepts_get station drone kind ∷ []
order_of (Shown drone kind plan station) = []
order_of (Cancelled station) = Accepts_cancel station ∷ []
order_of (Ended station told) = []
order_of (Restarted drone) = []

-- those of a history, the first first
abbrev pub orders_in : List Step → List Order
orders_in [] = []
orders_in (x ∷ h) = orders_in h ++ order_of x.event

-- an upload of a station: to this drone, of this kind, with this plan
pub record Upload : Type 0 where
  pub drone : Stream
  pub kind : ℕ
  pub plan : List Item

abbrev pub upload : Stream → ℕ → List Item → Upload
upload drone kind plan = record { drone = drone; kind = kind; plan = plan }

-- the uploads among accepted orders that are a station's, in their order
abbrev pub uploads_by : Stream → List Order → List Upload
uploads_by s [] = []
uploads_by s (Accepts_upload station drone kind plan ∷ os) =
    if same_stream station s then upload drone kind plan ∷ uploads_by s os else uploads_by s os
uploads_by s (Accepts_clear station drone kind ∷ os) = uploads_by s os
uploads_by s (Accepts_get station drone kind ∷ os) = uploads_by s os
uploads_by s (Accepts_cancel station ∷ os) = uploads_by s os

-- the station's upload with this number among orders, counted from 1
pub record IsTheUpload (os : List Order) (s : Stream) (number : ℕ) (drone : Stream) (kind : ℕ)
    (plan : List Item) : Type 0 where
  pub index : ℕ
  pub number_is : number ≡ index + 1
  pub is : slice_get (uploads_by s os) index ≡ Some (upload drone kind plan)

-- ---- the theorem

-- what holds of an action, after those before it
pub record IsSafe (n : Nodes) (before : List Action) (a : Action) : Type 0 where
  -- the report has of it exactly what its events report;
  pub report : seen a.report ≡ reported n (world_after n before) a.events
  -- what the store begins or cancels in it is the order that a station accepts there, if any;
  pub orders : orders_in (steps_in n before a) ≡ a.orders
  -- the plans that the drones of the state have after it are the store's;
  pub plans : (index : ℕ) (d : DroneSide) (kind : ℕ) → slice_get a.state.nodes index ≡ Some (Drone d) → kind < 3
      → plan_at d.core.plans kind ≡ (store_of (history_of n (before ++ a ∷ []))).plan d.link.me kind
  -- and each is empty, or exactly the plan of one upload for that drone and kind, which was installed
  pub held : (index : ℕ) (d : DroneSide) (kind : ℕ) → slice_get a.state.nodes index ≡ Some (Drone d) → kind < 3
      → IsHeld (history_of n (before ++ a ∷ [])) d.link.me kind (plan_at d.core.plans kind)

-- what was played so far is what these first actions lead to
pub record LeadsTo (key : List ℕ) (p : Played) (first actions : List Action) : Type 0 where
  pub later : List Action
  pub is : actions ≡ first ++ later
  pub report : report_of first ≡ p.events
  pub state : state_after (empty_state key) first ≡ p.state

-- What a scenario's bytes lead to under a key is safe, and these are its actions:
pub record Safe (key : List ℕ) (bytes : List ℕ) (p : Played) (actions : List Action) : Type 0 where
  -- the report and the state are what they lead to;
  pub report : report_of actions ≡ p.events
  pub state : state_after (empty_state key) actions ≡ p.state
  -- line by line: after each of the whole lines both are what the actions of the lines so far lead to;
  pub lines : (before after : List (List ℕ)) → whole_lines bytes ≡ before ++ after
      → LeadsTo key (lines_played (at_start key) 1 before) (lines_actions (at_start key) 1 before) actions
  -- each of them is safe;
  pub each : (before : List Action) (a : Action) (later : List Action) → actions ≡ before ++ a ∷ later
      → IsSafe (nodes_of p.state.nodes) before a
  -- their events are, one by one, an execution of the abstract mission store, with the same plans after each;
  pub execution : IsExecution (nodes_of p.state.nodes) (first_world start) first_store (events_of actions)
  -- so what the store goes through is one of its histories;
  pub valid : IsHistory (history_of (nodes_of p.state.nodes) actions)
  -- what it begins and cancels are the orders that the stations accepted;
  pub orders : orders_in (history_of (nodes_of p.state.nodes) actions) ≡ orders_of actions
  -- and the number-th upload of a station is that of the number-th `begin` line that it accepted, with the draft there
  pub uploads : (s : Stream) (number : ℕ) (drone : Stream) (kind : ℕ) (plan : List Item)
      → Uploaded (history_of (nodes_of p.state.nodes) actions) s number drone kind plan
      ↔ IsTheUpload (orders_of actions) s number drone kind plan
