-- What calls of a world promise: which state it is in after them, and what they report.
use Rattle.std.specs.Prelude.{ℕ, ◌≡◌, ◌≢◌, Bool, true, false, List, [], ◌++◌, length, map, slice_get, slice_set}
use Rattle.std.specs.Prelude.{Option, Some, None, Ok, Err, IfOk, IfErr}
use Rattle.std.specs.declared.result.Result.{Result}
use Rattle.std.specs.declared.alloc.Global.{Global}
use Rattle.std.specs.declared.vec.Vec.{Vec}
use Rattle.mav_names.specs.declared.names.Name.{Name}
use Rattle.mav_nodes.specs.News.{NodeEvent, shown, events_of}
use Rattle.mav_nodes.specs.Links.{Outcome}
use Rattle.mav_nodes.specs.Promises.{Did}
use Rattle.mav_nodes.specs.declared.news.News.{News}
use Rattle.mav_nodes.specs.Nodes.{StationSide, station_obeys, order_refusal, order_fault, command_refusal}
use Rattle.mav_nodes.specs.Nodes.{params_refusal, file_refusal, order_plan}
use Rattle.mav_nodes.specs.declared.orders.Order.{Order}
use Rattle.mav_nodes.specs.declared.faults.OrderFault.{OrderFault}
use Rattle.mav_nodes.specs.declared.faults.OrderFault.TheVariants.{Begin as BeginFails, Op as OpFails}
use Rattle.mav_nodes.specs.declared.faults.OrderFault.TheVariants.{Command as CommandFails, Param as ParamFails}
use Rattle.mav_nodes.specs.declared.faults.OrderFault.TheVariants.{File as FileFails, Node as StationFails}
use Rattle.mav_nodes.specs.declared.faults.NodeFault.{NodeFault}
use Rattle.mav_nodes.specs.declared.faults.StartFault.{StartFault}
use Rattle.mav_nodes.specs.declared.faults.StartFault.TheVariants.{Store as StartStore, BadKept}
use Rattle.mav_nodes.specs.declared.faults.StartFault.TheVariants.{NoMemory as NoStartMemory}
use Rattle.mav_nodes.specs.declared.faults.NodeFault.TheVariants.{StampsSpent, Store as NodeStore}
use Rattle.mav_nodes.specs.declared.faults.NodeFault.TheVariants.{NoMemory as NoNodeMemory}
use Rattle.plan_items.specs.Plans.{items_of}
use Rattle.plan_upload.specs.declared.faults.OpFault.TheVariants.{NoMemory as NoOpMemory}
use Rattle.fleet_report.specs.Events.{Refused, Command_refused, Params_refused, events_text}
use Rattle.fleet_report.specs.Reports.{ReportState, reported}
use Rattle.node_reports.specs.Nodes.{Node, Station}
use Rattle.node_reports.specs.Calls.{as_station}
use Rattle.node_reports.specs.Reporting.{reported_by, reports}
use Rattle.fleet_world.specs.declared.nodes.Node.{Node as ViewNode}
use Rattle.fleet_world.specs.declared.faults.WorldFault.{WorldFault}
use Rattle.fleet_world.specs.declared.faults.WorldFault.TheVariants.{Limit, Node as NodeFails, NoMemory}
use Rattle.fleet_world.specs.StoredDrones.{FailsBy}
use Rattle.fleet_world.specs.WorldState.{WorldState}
use Rattle.fleet_world.specs.WorldView.{IsNode, Fleet, IsFleet, Kept, kept_as, WorldView, IsState}
use Rattle.fleet_world.specs.Steps.{Step, StepError, At_limit, Stamps_spent, packets_in}

-- ---- of one node

-- it did this, and these are its news
abbrev pub NodeOutcome : Outcome Node → ViewNode → List News → Type 0
NodeOutcome outcome seen news = Did outcome (λ node. IsNode node seen) [] news

-- the node at an index, if there is one, did this
abbrev pub Moved : List Node → ℕ → Outcome Node → Fleet → List News → Type 0
Moved nodes index None fleet news = ⊥
Moved nodes index (Some d) fleet news = IsFleet (slice_set nodes index d.node) fleet
    × (events_of news ≡ map shown d.events)

abbrev pub FleetOutcome : List Node → ℕ → Option Node → (Node → Outcome Node) → Fleet → List News → Type 0
FleetOutcome nodes index None call fleet news = IsFleet nodes fleet × (news ≡ [])
FleetOutcome nodes index (Some node) call fleet news = Moved nodes index (call node) fleet news

-- it fails: no timestamp is left for what it sends, or there is no memory
abbrev pub CallFails : NodeFault → Option Node → (Node → Outcome Node) → Type 0
CallFails NoNodeMemory found call = Unit {0}
CallFails fault None call = ⊥
CallFails fault (Some node) call = FailsBy fault (call node)

-- neither the core of a station nor its services refuse an order
pub record Follows (node : StationSide) (order : Order) : Type 0 where
  pub plan : order_refusal node.core order ≡ None
  pub command : command_refusal node.services order ≡ None
  pub params : params_refusal node.services order ≡ false
  pub file : file_refusal node.services order ≡ None

-- a station refused an order or had no timestamp left for it: `Left` is what holds if nothing changed
abbrev pub Refuses : ℕ → StationSide → Order → Type 0 → OrderFault → Type 0
Refuses clock node order Left (BeginFails fault) = (order_refusal node.core order ≡ Some fault.why)
    × (order_plan order ≡ Some fault.plan) × Left
Refuses clock node order Left (OpFails why) = (order_fault node.core order ≡ Some why) × Left
Refuses clock node order Left (CommandFails busy) = (command_refusal node.services order ≡ Some busy.command) × Left
Refuses clock node order Left (ParamFails busy) = (params_refusal node.services order ≡ true) × Left
Refuses clock node order Left (FileFails fault) = (file_refusal node.services order ≡ Some fault) × Left
Refuses clock node order Left (StationFails fault) = Follows node order
    × FailsBy fault (station_obeys clock order node)

-- the station at an index has followed an order, or refused it, and nothing else of its fleet changed
pub record HasOrdered (before : Fleet) (index : ℕ) (order : Order) (outcome : Result (Vec News Global) OrderFault)
    (after : Fleet) : Type 0 where
  pub done : IfOk outcome (λ news. (nodes : List Node) (node : StationSide) → IsFleet nodes before
      → slice_get nodes index ≡ Some (Station node)
      → Follows node order × Moved nodes index (as_station (station_obeys before.clock order node)) after news.items)
  pub fault : IfErr outcome (λ fault. (nodes : List Node) (node : StationSide) → IsFleet nodes before
      → slice_get nodes index ≡ Some (Station node)
      → Refuses before.clock node order (IsFleet nodes after) fault)
  pub kept : after ≡ record before { nodes = after.nodes }

-- ---- of what a node did

-- these events of a node were reported: its frames are kept, and the report has the events
pub record Reported (name : Name) (events : List NodeEvent) (kept more : List Kept)
    (before after : ReportState) : Type 0 where
  pub sent : more ≡ kept ++ map kept_as (packets_in events)
  pub report : after ≡ reports before (reported_by name (length kept) events)

-- ---- of a world

-- this was done: the world is in that state, and the report has the events
abbrev pub WorldOutcome : Result Step StepError → Bool → WorldView → ReportState → ReportState → Type 0
WorldOutcome (Ok t) frames world before after = IsState t.state frames world × (after ≡ reports before t.events)
WorldOutcome (Err error) frames world before after = ⊥

-- the line isn't done for this cause
abbrev pub IsStepError : Result Step StepError → WorldFault → Type 0
IsStepError step (Limit bound) = step ≡ Err (At_limit bound)
IsStepError step (NodeFails StampsSpent) = step ≡ Err Stamps_spent
IsStepError step (NodeFails NodeStore) = ⊥
IsStepError step (NodeFails NoNodeMemory) = Unit {0}
IsStepError step NoMemory = Unit {0}

-- a line was done, and this is its report
abbrev pub IsStep : Result Step StepError → Bool → WorldView → ReportState → Type 0
IsStep (Ok t) frames world report = IsState t.state frames world × (report.text ≡ events_text frames t.events)
IsStep (Err error) frames world report = ⊥

-- what a refused order leaves, and what is reported of it
abbrev pub RefusalReported : Name → OrderFault → WorldView → WorldView → ReportState → ReportState → Type 0
RefusalReported station (BeginFails fault) w after before report = (after ≡ record w { draft = items_of fault.plan })
    × (report ≡ reported before (Refused station fault.why))
RefusalReported station (OpFails why) w after before report = (after ≡ w)
    × (report ≡ reported before (Refused station why)) × (why ≢ NoOpMemory)
RefusalReported station (CommandFails busy) w after before report = (after ≡ w)
    × (report ≡ reported before (Command_refused station))
RefusalReported station (ParamFails busy) w after before report = (after ≡ w)
    × (report ≡ reported before (Params_refused station))
RefusalReported station (FileFails fault) w after before report = (after ≡ w) × (report ≡ before)
RefusalReported station (StationFails fault) w after before report = ⊥

-- why a refusal isn't reported
abbrev pub IsGivenUp : OrderFault → WorldFault → Type 0
IsGivenUp (BeginFails fault) e = e ≡ NoMemory
IsGivenUp (OpFails why) e = e ≡ NoMemory
IsGivenUp (CommandFails busy) e = e ≡ NoMemory
IsGivenUp (ParamFails busy) e = e ≡ NoMemory
IsGivenUp (FileFails fault) e = ⊥
IsGivenUp (StationFails fault) e = e ≡ NodeFails fault

-- the same without an event
abbrev pub Quietly : Result Step StepError → Bool → WorldView → Type 0
Quietly (Ok t) frames world = IsState t.state frames world × (t.events ≡ [])
Quietly (Err error) frames world = ⊥

-- a call does this step of the state that the world is in, and reports it
abbrev pub Does : (WorldState → Result Step StepError) → WorldView → WorldView → ReportState → ReportState → Type 0
Does step before after report_before report_after =
    (state : WorldState) → IsState state before.frames before
    → WorldOutcome (step state) before.frames after report_before report_after

-- the same without an event
abbrev pub DoesQuietly : (WorldState → Result Step StepError) → WorldView → WorldView → Type 0
DoesQuietly step before after = (state : WorldState) → IsState state before.frames before
    → Quietly (step state) before.frames after

-- it doesn't, for this cause
abbrev pub Fails : (WorldState → Result Step StepError) → WorldView → WorldFault → Type 0
Fails step before fault = (state : WorldState) → IsState state before.frames before → IsStepError (step state) fault

-- why a drone doesn't start, as the world's fault: its store can't be used, or there is no memory
abbrev pub world_fault_of : StartFault → WorldFault
world_fault_of StartStore = NodeFails NodeStore
world_fault_of BadKept = NodeFails NodeStore
world_fault_of NoStartMemory = NoMemory
