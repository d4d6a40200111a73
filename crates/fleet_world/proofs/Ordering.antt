-- Orders to stations.
use Rattle.std.specs.Prelude.{OnOk, IfOk, IfErr, ◌≢◌}
use Rattle.std.proofs.Common.{◌≡◌, ℕ, Bool, true, false, List, [], ◌∷◌, map, position, slice_get, is_some, Option, Some, None, Result, Ok, Err, Vec, Global, refl, sym, ap, ◌∙◌, subst}
use Rattle.mav_names.specs.declared.names.Name.{Name}
use Rattle.mav_names.specs.declared.names.Stream.{Stream}
use Rattle.plan_items.specs.declared.items.Item.{Item}
use Rattle.plan_items.specs.declared.kinds.PlanKind.{PlanKind}
use Rattle.plan_items.specs.declared.plans.Plan.{Plan}
use Rattle.plan_items.specs.Kinds.{number_of}
use Rattle.plan_items.specs.Plans.{items_of}
use Rattle.plan_upload.specs.declared.faults.OpFault.{OpFault}
use Rattle.plan_upload.specs.declared.faults.OpFault.TheVariants.{NoMemory as NoOpMemory}
use Rattle.plan_upload.specs.Addresses.{node_of}
use Rattle.plan_upload.specs.Refusals.{upload_refusal, refusal, first_of}
use Rattle.plan_upload.specs.Station.{StationState}
use Rattle.command_proto.specs.Commander.{open_command}
use Rattle.param_proto.specs.Client.{Operation}
use Rattle.mav_nodes.specs.News.{NodeEvent, shown, events_of}
use Rattle.mav_nodes.specs.Links.{Outcome}
use Rattle.mav_nodes.specs.Nodes.{StationSide, station_obeys, station_commands, station_lists_params, order_refusal, order_fault, command_refusal, params_refusal, file_refusal, order_plan, station_begins}
use Rattle.mav_nodes.specs.declared.news.News.{News}
use Rattle.mav_ftp.specs.declared.client.faults.FtpFault.{FtpFault}
use Rattle.mav_nodes.specs.declared.orders.Order.{Order}
use Rattle.mav_nodes.specs.declared.orders.Order.TheVariants.{Begin, Cancel, Clear, Get, Command, ParamRead, ParamSet, ParamList, File}
use Rattle.mav_nodes.specs.declared.faults.OrderFault.{OrderFault}
use Rattle.mav_nodes.specs.declared.faults.OrderFault.TheVariants.{Begin as BeginFails, Op as OpFails, Command as CommandFails, Param as ParamFails, File as FileFails, Node as StationFails}
use Rattle.mav_nodes.specs.declared.faults.NodeFault.{NodeFault}
use Rattle.mav_nodes.specs.declared.faults.NodeFault.TheVariants.{StampsSpent, Store as NodeStore, NoMemory as NoNodeMemory}
use Rattle.node_reports.specs.Nodes.{Node, Station}
use Rattle.node_reports.specs.Calls.{as_station}
use Rattle.node_reports.specs.ParamLists.{params_of, HaveValues}
use Rattle.node_reports.proofs.Reporting.{reports-none, reports-one}
use Rattle.node_reports.proofs.ListedValues.{obeys_known}
use Rattle.fleet_world.specs.StoredDrones.{FailsBy}
use Rattle.fleet_report.specs.Events.{Refused, Command_refused, Params_refused}
use Rattle.fleet_report.specs.Reports.{ReportState}
use Rattle.fleet_world.specs.declared.faults.WorldFault.{WorldFault}
use Rattle.fleet_world.specs.declared.faults.WorldFault.TheVariants.{Node as NodeFails}
use Rattle.fleet_world.specs.WorldState.{WorldState, stream_of, is_station_named}
use Rattle.fleet_world.specs.WorldView.{Fleet, IsFleet, WorldView, IsState}
use Rattle.fleet_world.specs.Steps.{Step, StepError, node_does, station_line, upload_begins, orders_at, orders_found, orders_to, begins, asks, command_busy, params_busy, commands, lists_params}
use Rattle.fleet_world.specs.NodeSteps.{reports_news, handed_back, obeys_unless, obeys_or, obeys}
use Rattle.fleet_world.specs.Promises.{Moved, Follows, Refuses, HasOrdered, WorldOutcome, IsStepError, RefusalReported, IsGivenUp}
use Rattle.fleet_world.proofs.Found.{FoundStation, found_station}
use Rattle.fleet_world.proofs.WorldCalls.{NodesOnly, moved_state, moved_outcome, moved_error}

-- ---- an order that was followed

obeyed : (state : WorldState) (k : ℕ) (name : Name) (node : StationSide) (order : Order) → Follows node order → node_does state k name (as_station (station_obeys state.clock order node)) ≡ obeys state k name node order
obeyed state k name node order follows =
    ap (obeys_unless state k name node order) (sym follows.file)
    ∙ (λ i. obeys_or state k name node order (sym follows.plan i) (sym follows.command i) (sym follows.params i))

module _ (w after : WorldView) (k : ℕ) (name : Name) (order : Order) (news items : List News) (same : news ≡ items) (only : NodesOnly w after) where
  clock_is : (state : WorldState) (node : StationSide) → IsState state w.frames w → as_station (station_obeys w.fleet.clock order node) ≡ as_station (station_obeys state.clock order node)
  clock_is state node is = ap (λ (clock : ℕ). as_station (station_obeys clock order node)) is.clock

  pub obey_outcome : {T E : Type 0} (r : Result T E) (last : WorldView) (start end : ReportState) → ((nodes : List Node) → (node : StationSide) → IsFleet nodes w.fleet → slice_get nodes k ≡ Some (Station node) → Follows node order × Moved nodes k (as_station (station_obeys w.fleet.clock order node)) after.fleet items) → OnOk r ((s : WorldState) (events : List NodeEvent) → IsState s after.frames after → events_of news ≡ map shown events → HaveValues (params_of (slice_get s.nodes k)) events → WorldOutcome (reports_news s name events) after.frames last start end) → OnOk r ((state : WorldState) → (node : StationSide) → IsState state w.frames w → slice_get state.nodes k ≡ Some (Station node) → WorldOutcome (obeys state k name node order) w.frames last start end)
  obey_outcome (Err x) last start end did reporting = tt
  obey_outcome (Ok t) last start end did reporting = λ state node is found.
      let d = did state.nodes node is.fleet found in
      let moved : Moved state.nodes k (as_station (station_obeys state.clock order node)) after.fleet news =
      subst (λ (l : List News). Moved state.nodes k (as_station (station_obeys state.clock order node)) after.fleet l) (sym same)
      (subst (λ (o : Outcome Node). Moved state.nodes k o after.fleet items) (clock_is state node is) d.1) in
      subst (λ (z : Result Step StepError). WorldOutcome z w.frames last start end) (obeyed state k name node order d.0)
      (moved_outcome state w after k news is only name (Station node) (as_station (station_obeys state.clock order node)) last start end found (obeys_known state.clock order node) moved reporting)

  pub obey_error : {T : Type 0} (r : Result T WorldFault) → ((nodes : List Node) → (node : StationSide) → IsFleet nodes w.fleet → slice_get nodes k ≡ Some (Station node) → Follows node order × Moved nodes k (as_station (station_obeys w.fleet.clock order node)) after.fleet items) → IfErr r (λ fault. (s : WorldState) (events : List NodeEvent) → IsState s after.frames after → events_of news ≡ map shown events → IsStepError (reports_news s name events) fault) → IfErr r (λ fault. (state : WorldState) → (node : StationSide) → IsState state w.frames w → slice_get state.nodes k ≡ Some (Station node) → IsStepError (obeys state k name node order) fault)
  obey_error (Ok t) did reporting = tt
  obey_error (Err fault) did reporting = λ state node is found.
      let d = did state.nodes node is.fleet found in
      let moved : Moved state.nodes k (as_station (station_obeys state.clock order node)) after.fleet news =
      subst (λ (l : List News). Moved state.nodes k (as_station (station_obeys state.clock order node)) after.fleet l) (sym same)
      (subst (λ (o : Outcome Node). Moved state.nodes k o after.fleet items) (clock_is state node is) d.1) in
      subst (λ (z : Result Step StepError). IsStepError z fault) (obeyed state k name node order d.0)
      (moved_error state w after k news is only name (as_station (station_obeys state.clock order node)) fault moved reporting)

-- ---- an order that was refused

-- a fault of the core that isn't want of memory is a refusal, of an order without a plan
record OpRefusal (station : StationState) (order : Order) (why : OpFault) : Type 0 where
  refused : order_refusal station order ≡ Some why
  plan : order_plan order ≡ None

first_fault : (o : Option OpFault) (why : OpFault) → first_of o (Some NoOpMemory) ≡ Some why → why ≢ NoOpMemory → o ≡ Some why
first_fault None why e other = absurd (other (let same : NoOpMemory ≡ why = cc in sym same))
first_fault (Some x) why e other = e

op_refusal : (station : StationState) (order : Order) (why : OpFault) → order_fault station order ≡ Some why → why ≢ NoOpMemory → OpRefusal station order why
op_refusal station (Begin drone kind plan) why e other = cc
op_refusal station Cancel why e other = cc
op_refusal station (Clear drone kind) why e other = record { refused = e; plan = refl }
op_refusal station (Get drone kind) why e other = record { refused = first_fault (refusal station) why e other; plan = refl }
op_refusal station (Command drone number word) why e other = cc
op_refusal station (ParamRead drone id) why e other = cc
op_refusal station (ParamSet drone param) why e other = cc
op_refusal station (ParamList drone) why e other = cc
op_refusal station (File drone op) why e other = cc

refused_as : (state : WorldState) (k : ℕ) (name : Name) (node : StationSide) (order : Order) (why : OpFault) (plan : Option Plan) → order_refusal node.core order ≡ Some why → order_plan order ≡ plan → ◌≡◌ {A = Result Step StepError} (Ok (record { state = handed_back state plan; events = Refused name why ∷ [] })) (obeys state k name node order)
refused_as state k name node order why plan refused given =
    ap (λ (p : Option Plan). Ok (record { state = handed_back state p; events = Refused name why ∷ [] })) (sym given)
    ∙ ap (λ (o : Option OpFault). obeys_or state k name node order o (command_refusal node.services order) (params_refusal node.services order)) (sym refused)

-- an order that the services refuse isn't one that the core refuses
busy_command : (state : WorldState) (k : ℕ) (name : Name) (node : StationSide) (order : Order) (number : ℕ) → command_refusal node.services order ≡ Some number → ◌≡◌ {A = Result Step StepError} (Ok (record { state = state; events = Command_refused name ∷ [] })) (obeys state k name node order)
busy_command state k name node (Begin drone kind plan) number e = cc
busy_command state k name node Cancel number e = cc
busy_command state k name node (Clear drone kind) number e = cc
busy_command state k name node (Get drone kind) number e = cc
busy_command state k name node (Command drone command word) number e =
    ap (λ (o : Option ℕ). obeys_or state k name node (Command drone command word) None o false) (sym e)
busy_command state k name node (ParamRead drone id) number e = cc
busy_command state k name node (ParamSet drone param) number e = cc
busy_command state k name node (ParamList drone) number e = cc
busy_command state k name node (File drone op) number e = cc

busy_params : (state : WorldState) (k : ℕ) (name : Name) (node : StationSide) (order : Order) → params_refusal node.services order ≡ true → ◌≡◌ {A = Result Step StepError} (Ok (record { state = state; events = Params_refused name ∷ [] })) (obeys state k name node order)
busy_params state k name node (Begin drone kind plan) e = cc
busy_params state k name node Cancel e = cc
busy_params state k name node (Clear drone kind) e = cc
busy_params state k name node (Get drone kind) e = cc
busy_params state k name node (Command drone number word) e = cc
busy_params state k name node (ParamRead drone id) e = ap (obeys_or state k name node (ParamRead drone id) None None) (sym e)
busy_params state k name node (ParamSet drone param) e = ap (obeys_or state k name node (ParamSet drone param) None None) (sym e)
busy_params state k name node (ParamList drone) e = ap (obeys_or state k name node (ParamList drone) None None) (sym e)
busy_params state k name node (File drone op) e = cc

file_refused : (state : WorldState) (k : ℕ) (name : Name) (node : StationSide) (order : Order) (fault : FtpFault) → file_refusal node.services order ≡ Some fault → ◌≡◌ {A = Result Step StepError} (Ok (record { state = state; events = [] })) (obeys state k name node order)
file_refused state k name node (Begin drone kind plan) fault e = cc
file_refused state k name node Cancel fault e = cc
file_refused state k name node (Clear drone kind) fault e = cc
file_refused state k name node (Get drone kind) fault e = cc
file_refused state k name node (Command drone number word) fault e = cc
file_refused state k name node (ParamRead drone id) fault e = cc
file_refused state k name node (ParamSet drone param) fault e = cc
file_refused state k name node (ParamList drone) fault e = cc
file_refused state k name node (File drone op) fault e = ap (obeys_unless state k name node (File drone op)) (sym e)

drafted : (state : WorldState) (frames : Bool) (w after : WorldView) (items : List Item) → IsState state frames w → after ≡ record w { draft = items } → IsState (record state { draft = items }) frames after
drafted state frames w after items is e = subst (IsState (record state { draft = items }) frames) (sym e) (record {
  key = is.key;
  fleet = is.fleet;
  clock = is.clock;
  sent = is.sent;
  given = is.given;
  draft = refl;
  restarts = is.restarts;
  frames_is = is.frames_is;
})

left_state : (state : WorldState) (w after : WorldView) → IsState state w.frames w → IsFleet state.nodes after.fleet → NodesOnly w after → IsState state w.frames after
left_state state w after is fleet only =
    subst (λ (f : Bool). IsState state f after) (ap (λ (z : WorldView). z.frames) only) (moved_state state state.nodes w after is fleet only)

module _ (state : WorldState) (w after last : WorldView) (k : ℕ) (name : Name) (node : StationSide) (order : Order) (start end : ReportState) (is : IsState state w.frames w) (only : NodesOnly w after) where
  refuse_by : (fault : OrderFault) → Refuses w.fleet.clock node order (IsFleet state.nodes after.fleet) fault → RefusalReported name fault after last start end → WorldOutcome (obeys state k name node order) w.frames last start end
  refuse_by (BeginFails fault) refused reporting =
      subst (λ (z : Result Step StepError). WorldOutcome z w.frames last start end) (refused_as state k name node order fault.why (Some fault.plan) refused.0 refused.1)
      (drafted state w.frames after last (items_of fault.plan) (left_state state w after is refused.2 only) reporting.0, reporting.1 ∙ reports-one start (Refused name fault.why))
  refuse_by (OpFails why) refused reporting =
      let op = op_refusal node.core order why refused.0 reporting.2 in
      subst (λ (z : Result Step StepError). WorldOutcome z w.frames last start end) (refused_as state k name node order why None op.refused op.plan)
      (subst (IsState state w.frames) (sym reporting.0) (left_state state w after is refused.1 only), reporting.1 ∙ reports-one start (Refused name why))
  refuse_by (CommandFails busy) refused reporting =
      subst (λ (z : Result Step StepError). WorldOutcome z w.frames last start end) (busy_command state k name node order busy.command refused.0)
      (subst (IsState state w.frames) (sym reporting.0) (left_state state w after is refused.1 only), reporting.1 ∙ reports-one start (Command_refused name))
  refuse_by (ParamFails busy) refused reporting =
      subst (λ (z : Result Step StepError). WorldOutcome z w.frames last start end) (busy_params state k name node order refused.0)
      (subst (IsState state w.frames) (sym reporting.0) (left_state state w after is refused.1 only), reporting.1 ∙ reports-one start (Params_refused name))
  refuse_by (FileFails fault) refused reporting =
      subst (λ (z : Result Step StepError). WorldOutcome z w.frames last start end) (file_refused state k name node order fault refused.0)
      (subst (IsState state w.frames) (sym reporting.0) (left_state state w after is refused.1 only), reporting.1 ∙ sym (reports-none start))
  refuse_by (StationFails fault) refused reporting = absurd reporting

  spent_error : (fault : NodeFault) → Follows node order → FailsBy fault (station_obeys w.fleet.clock order node) → IsStepError (obeys state k name node order) (NodeFails fault)
  spent_error StampsSpent accepted spent =
      sym (obeyed state k name node order accepted)
      ∙ ap (λ (o : Outcome StationSide). node_does state k name (as_station o)) (ap (λ (clock : ℕ). station_obeys clock order node) (sym is.clock) ∙ spent)
  spent_error NodeStore accepted spent = absurd spent
  spent_error NoNodeMemory accepted spent = tt

  give_up_by : (fault : OrderFault) (e : WorldFault) → Refuses w.fleet.clock node order (IsFleet state.nodes after.fleet) fault → IsGivenUp fault e → IsStepError (obeys state k name node order) e
  give_up_by (BeginFails fault) e refused up = subst (IsStepError (obeys state k name node order)) (sym up) tt
  give_up_by (OpFails why) e refused up = subst (IsStepError (obeys state k name node order)) (sym up) tt
  give_up_by (CommandFails busy) e refused up = subst (IsStepError (obeys state k name node order)) (sym up) tt
  give_up_by (ParamFails busy) e refused up = subst (IsStepError (obeys state k name node order)) (sym up) tt
  give_up_by (FileFails fault) e refused up = absurd up
  give_up_by (StationFails fault) e refused up = subst (IsStepError (obeys state k name node order)) (sym up) (spent_error fault refused.0 refused.1)

pub refuse_outcome : {T E : Type 0} (r : Result T E) (w after last : WorldView) (k : ℕ) (name : Name) (order : Order) (fault : OrderFault) (start end : ReportState) → NodesOnly w after → ((nodes : List Node) → (node : StationSide) → IsFleet nodes w.fleet → slice_get nodes k ≡ Some (Station node) → Refuses w.fleet.clock node order (IsFleet nodes after.fleet) fault) → OnOk r (RefusalReported name fault after last start end) → OnOk r ((state : WorldState) → (node : StationSide) → IsState state w.frames w → slice_get state.nodes k ≡ Some (Station node) → WorldOutcome (obeys state k name node order) w.frames last start end)
refuse_outcome (Err x) w after last k name order fault start end only refused reporting = tt
refuse_outcome (Ok t) w after last k name order fault start end only refused reporting = λ state node is found.
    refuse_by state w after last k name node order start end is only fault (refused state.nodes node is.fleet found) reporting

pub refuse_error : {T : Type 0} (r : Result T WorldFault) (w after : WorldView) (k : ℕ) (name : Name) (order : Order) (fault : OrderFault) → NodesOnly w after → ((nodes : List Node) → (node : StationSide) → IsFleet nodes w.fleet → slice_get nodes k ≡ Some (Station node) → Refuses w.fleet.clock node order (IsFleet nodes after.fleet) fault) → IfErr r (λ e. IsGivenUp fault e) → IfErr r (λ e. (state : WorldState) → (node : StationSide) → IsState state w.frames w → slice_get state.nodes k ≡ Some (Station node) → IsStepError (obeys state k name node order) e)
refuse_error (Ok t) w after k name order fault only refused up = tt
refuse_error (Err e) w after k name order fault only refused up = λ state node is found.
    give_up_by state w after after k name node order (record { frames = true; text = [] }) (record { frames = true; text = [] }) is only fault e (refused state.nodes node is.fleet found) up

-- ---- an order that was followed or refused, as a report of it says it

abbrev pub Outcomes : Type 0
Outcomes = Result (Vec News Global) OrderFault

only_nodes : (before after : WorldView) → after ≡ record before { fleet = after.fleet } → after.fleet ≡ record before.fleet { nodes = after.fleet.nodes } → NodesOnly before after
only_nodes before after only kept = only ∙ ap (λ (f : Fleet). record before { fleet = f }) kept

-- that an order to the station at an index was done by a call of that world, or failed
abbrev pub DoesOrder : WorldView → ℕ → Name → Order → WorldView → ReportState → ReportState → Type 0
DoesOrder w k name order last start end = (state : WorldState) (node : StationSide) → IsState state w.frames w → slice_get state.nodes k ≡ Some (Station node) → WorldOutcome (obeys state k name node order) w.frames last start end

abbrev pub FailsOrder : WorldView → ℕ → Name → Order → WorldFault → Type 0
FailsOrder w k name order fault = (state : WorldState) (node : StationSide) → IsState state w.frames w → slice_get state.nodes k ≡ Some (Station node) → IsStepError (obeys state k name node order) fault

module _ (after : WorldView) (k : ℕ) (name : Name) (outcome : Outcomes) where
  abbrev pub Orders : (WorldView → Order → Type 0) → Type 0
  Orders Then = (before : WorldView) (order : Order) → HasOrdered before.fleet k order outcome after.fleet → after ≡ record before { fleet = after.fleet } → Then before order

  pub followed_done : {T E : Type 0} (r : Result T E) (last : WorldView) (start end : ReportState) (news : Vec News Global) (items : List News) → outcome ≡ Ok news → items ≡ news.items → OnOk r ((s : WorldState) (events : List NodeEvent) → IsState s after.frames after → events_of items ≡ map shown events → HaveValues (params_of (slice_get s.nodes k)) events → WorldOutcome (reports_news s name events) after.frames last start end) → OnOk r (Orders (λ before order. DoesOrder before k name order last start end))
  followed_done (Err x) last start end news items is same reporting = tt
  followed_done {E = E} (Ok t) last start end news items is same reporting = λ before order ordered only.
      obey_outcome before after k name order items news.items same (only_nodes before after only ordered.kept) {E = E} (Ok t) last start end
      (subst (λ (o : Outcomes). IfOk o (λ n. (nodes : List Node) (node : StationSide) → IsFleet nodes before.fleet → slice_get nodes k ≡ Some (Station node) → Follows node order × Moved nodes k (as_station (station_obeys before.fleet.clock order node)) after.fleet n.items)) is ordered.done)
      reporting

  pub followed_error : {T : Type 0} (r : Result T WorldFault) (news : Vec News Global) (items : List News) → outcome ≡ Ok news → items ≡ news.items → IfErr r (λ fault. (s : WorldState) (events : List NodeEvent) → IsState s after.frames after → events_of items ≡ map shown events → IsStepError (reports_news s name events) fault) → IfErr r (λ fault. Orders (λ before order. FailsOrder before k name order fault))
  followed_error (Ok t) news items is same reporting = tt
  followed_error {T = T} (Err fault) news items is same reporting = λ before order ordered only.
      obey_error before after k name order items news.items same (only_nodes before after only ordered.kept) {T = T} (Err fault)
      (subst (λ (o : Outcomes). IfOk o (λ n. (nodes : List Node) (node : StationSide) → IsFleet nodes before.fleet → slice_get nodes k ≡ Some (Station node) → Follows node order × Moved nodes k (as_station (station_obeys before.fleet.clock order node)) after.fleet n.items)) is ordered.done)
      reporting

  pub refused_done : {T E : Type 0} (r : Result T E) (last : WorldView) (start end : ReportState) (fault : OrderFault) → outcome ≡ Err fault → OnOk r (RefusalReported name fault after last start end) → OnOk r (Orders (λ before order. DoesOrder before k name order last start end))
  refused_done (Err x) last start end fault is reporting = tt
  refused_done {E = E} (Ok t) last start end fault is reporting = λ before order ordered only.
      refuse_outcome {E = E} (Ok t) before after last k name order fault start end (only_nodes before after only ordered.kept)
      (subst (λ (o : Outcomes). IfErr o (λ f. (nodes : List Node) (node : StationSide) → IsFleet nodes before.fleet → slice_get nodes k ≡ Some (Station node) → Refuses before.fleet.clock node order (IsFleet nodes after.fleet) f)) is ordered.fault)
      reporting

  pub refused_error : {T : Type 0} (r : Result T WorldFault) (fault : OrderFault) → outcome ≡ Err fault → IfErr r (λ e. IsGivenUp fault e) → IfErr r (λ e. Orders (λ before order. FailsOrder before k name order e))
  refused_error (Ok t) fault is up = tt
  refused_error {T = T} (Err e) fault is up = λ before order ordered only.
      refuse_error {T = T} (Err e) before after k name order fault (only_nodes before after only ordered.kept)
      (subst (λ (o : Outcomes). IfErr o (λ f. (nodes : List Node) (node : StationSide) → IsFleet nodes before.fleet → slice_get nodes k ≡ Some (Station node) → Refuses before.fleet.clock node order (IsFleet nodes after.fleet) f)) is ordered.fault)
      up

  -- of the order that was given
  pub order_done : {T E : Type 0} (r : Result T E) (w seen last : WorldView) (order : Order) (start end : ReportState) → w ≡ seen → HasOrdered w.fleet k order outcome after.fleet → after ≡ record w { fleet = after.fleet } → OnOk r (Orders (λ before order. DoesOrder before k name order last start end)) → OnOk r (DoesOrder seen k name order last start end)
  order_done (Err x) w seen last order start end same ordered only did = tt
  order_done (Ok t) w seen last order start end same ordered only did =
      subst (λ (z : WorldView). DoesOrder z k name order last start end) same (did w order ordered only)

  pub order_fails : {T : Type 0} (r : Result T WorldFault) (w seen : WorldView) (order : Order) → w ≡ seen → HasOrdered w.fleet k order outcome after.fleet → after ≡ record w { fleet = after.fleet } → IfErr r (λ fault. Orders (λ before order. FailsOrder before k name order fault)) → IfErr r (FailsOrder seen k name order)
  order_fails (Ok t) w seen order same ordered only did = tt
  order_fails (Err fault) w seen order same ordered only did =
      subst (λ (z : WorldView). FailsOrder z k name order fault) same (did w order ordered only)

-- ---- an order to the station of a name

ordered : (state : WorldState) (name : Name) (order : ℕ → StationSide → Result Step StepError) (k : ℕ) (f : FoundStation name state.nodes k) → position (is_station_named name) state.nodes ≡ Some k → orders_to state name order ≡ order k f.node
ordered state name order k f index =
    ap (λ (o : Option ℕ). orders_found state o order) index ∙ ap (λ (o : Option Node). orders_at state k o order) f.there

obeyed_order : (state : WorldState) (name : Name) (order : Order) (k : ℕ) (f : FoundStation name state.nodes k) → position (is_station_named name) state.nodes ≡ Some k → obeys state k name f.node order ≡ orders_to state name (λ k node. obeys state k (node_of node.link.me) node order)
obeyed_order state name order k f index =
    ap (λ (n : Name). obeys state k n f.node order) (sym f.called)
    ∙ sym (ordered state name (λ k node. obeys state k (node_of node.link.me) node order) k f index)

pub order_outcome : {T E : Type 0} (r : Result T E) (w skipped last : WorldView) (k : ℕ) (name : Name) (order : Order) (start end : ReportState) → ((state : WorldState) → IsState state w.frames w → IsState (station_line state) w.frames skipped) → ((nodes : List Node) → IsFleet nodes skipped.fleet → Some k ≡ position (is_station_named name) nodes) → OnOk r ((state : WorldState) → (node : StationSide) → IsState state skipped.frames skipped → slice_get state.nodes k ≡ Some (Station node) → WorldOutcome (obeys state k name node order) skipped.frames last start end) → OnOk r ((state : WorldState) → IsState state w.frames w → WorldOutcome (orders_to (station_line state) name (λ k node. obeys (station_line state) k (node_of node.link.me) node order)) w.frames last start end)
order_outcome (Err x) w skipped last k name order start end skip index did = tt
order_outcome (Ok t) w skipped last k name order start end skip index did = λ state is.
    let s = station_line state in
    let now = skip state is in
    let at : position (is_station_named name) s.nodes ≡ Some k = sym (index s.nodes now.fleet) in
    let f = found_station name s.nodes k at in
    subst (λ (fr : Bool). WorldOutcome (orders_to s name (λ k node. obeys s k (node_of node.link.me) node order)) fr last start end) now.frames_is
    (subst (λ (z : Result Step StepError). WorldOutcome z skipped.frames last start end) (obeyed_order s name order k f at)
    (did s f.node (subst (λ (fr : Bool). IsState s fr skipped) (sym now.frames_is) now) f.there))

pub order_error : {T : Type 0} (r : Result T WorldFault) (w skipped : WorldView) (k : ℕ) (name : Name) (order : Order) → ((state : WorldState) → IsState state w.frames w → IsState (station_line state) w.frames skipped) → ((nodes : List Node) → IsFleet nodes skipped.fleet → Some k ≡ position (is_station_named name) nodes) → IfErr r (λ fault. (state : WorldState) → (node : StationSide) → IsState state skipped.frames skipped → slice_get state.nodes k ≡ Some (Station node) → IsStepError (obeys state k name node order) fault) → IfErr r (λ fault. (state : WorldState) → IsState state w.frames w → IsStepError (orders_to (station_line state) name (λ k node. obeys (station_line state) k (node_of node.link.me) node order)) fault)
order_error (Ok t) w skipped k name order skip index did = tt
order_error (Err fault) w skipped k name order skip index did = λ state is.
    let s = station_line state in
    let now = skip state is in
    let at : position (is_station_named name) s.nodes ≡ Some k = sym (index s.nodes now.fleet) in
    let f = found_station name s.nodes k at in
    subst (λ (z : Result Step StepError). IsStepError z fault) (obeyed_order s name order k f at)
    (did s f.node (subst (λ (fr : Bool). IsState s fr skipped) (sym now.frames_is) now) f.there)

-- ---- an upload of the draft

begun_or : (state : WorldState) (k : ℕ) (node : StationSide) (drone : Name) (kind : PlanKind) (plan : Plan) (o : Option OpFault) → items_of plan ≡ state.draft → obeys_or (record state { draft = [] }) k (node_of node.link.me) node (Begin (stream_of drone) kind plan) o None false ≡ upload_begins state k node drone (number_of kind) o
begun_or state k node drone kind plan None e =
    ap (λ (items : List Item). node_does (record state { draft = [] }) k (node_of node.link.me) (as_station (station_begins state.clock (stream_of drone) (number_of kind) items node))) e
begun_or state k node drone kind plan (Some why) e =
    ap (λ (items : List Item). Ok (record { state = record state { draft = items }; events = Refused (node_of node.link.me) why ∷ [] })) e

begun_order : (state : WorldState) (name drone : Name) (kind : PlanKind) (plan : Plan) (k : ℕ) (f : FoundStation name state.nodes k) → position (is_station_named name) state.nodes ≡ Some k → items_of plan ≡ state.draft → obeys (record state { draft = [] }) k name f.node (Begin (stream_of drone) kind plan) ≡ begins state name drone (number_of kind)
begun_order state name drone kind plan k f index e =
    ap (λ (n : Name). obeys (record state { draft = [] }) k n f.node (Begin (stream_of drone) kind plan)) (sym f.called)
    ∙ begun_or state k f.node drone kind plan (upload_refusal f.node.core (number_of kind) (items_of plan)) e
    ∙ ap (λ (items : List Item). upload_begins state k f.node drone (number_of kind) (upload_refusal f.node.core (number_of kind) items)) e
    ∙ sym (ordered state name (λ k node. upload_begins state k node drone (number_of kind) (upload_refusal node.core (number_of kind) state.draft)) k f index)

module _ (w skipped taken : WorldView) (k : ℕ) (name drone : Name) (to : Stream) (kind : PlanKind) (plan : Plan) (skip : (state : WorldState) → IsState state w.frames w → IsState (station_line state) w.frames skipped) (index : (nodes : List Node) → IsFleet nodes skipped.fleet → Some k ≡ position (is_station_named name) nodes) (items : items_of plan ≡ skipped.draft) (after : taken ≡ record skipped { draft = [] }) (stream : to ≡ stream_of drone) where
  emptied : (state : WorldState) → IsState state w.frames skipped → IsState (record state { draft = [] }) taken.frames taken
  emptied state is =
      let now = drafted state w.frames skipped taken [] is after in
      subst (λ (fr : Bool). IsState (record state { draft = [] }) fr taken) (sym now.frames_is) now

  taken_frames : (state : WorldState) → IsState state w.frames skipped → taken.frames ≡ w.frames
  taken_frames state is = (drafted state w.frames skipped taken [] is after).frames_is

  begin_by : (state : WorldState) (f : FoundStation name state.nodes k) → IsState state w.frames skipped → position (is_station_named name) state.nodes ≡ Some k → obeys (record state { draft = [] }) k name f.node (Begin to kind plan) ≡ begins state name drone (number_of kind)
  begin_by state f is at =
      ap (λ (s : Stream). obeys (record state { draft = [] }) k name f.node (Begin s kind plan)) stream
      ∙ begun_order state name drone kind plan k f at (items ∙ is.draft)

  pub begin_outcome : {T E : Type 0} (r : Result T E) (last : WorldView) (start end : ReportState) → OnOk r ((state : WorldState) → (node : StationSide) → IsState state taken.frames taken → slice_get state.nodes k ≡ Some (Station node) → WorldOutcome (obeys state k name node (Begin to kind plan)) taken.frames last start end) → OnOk r ((state : WorldState) → IsState state w.frames w → WorldOutcome (begins (station_line state) name drone (number_of kind)) w.frames last start end)
  begin_outcome (Err x) last start end did = tt
  begin_outcome (Ok t) last start end did = λ state is.
      let s = station_line state in
      let now = skip state is in
      let at : position (is_station_named name) s.nodes ≡ Some k = sym (index s.nodes now.fleet) in
      let f = found_station name s.nodes k at in
      subst (λ (fr : Bool). WorldOutcome (begins s name drone (number_of kind)) fr last start end) (taken_frames s now)
      (subst (λ (z : Result Step StepError). WorldOutcome z taken.frames last start end) (begin_by s f now at)
      (did (record s { draft = [] }) f.node (emptied s now) f.there))

  pub begin_error : {T : Type 0} (r : Result T WorldFault) → IfErr r (λ fault. (state : WorldState) → (node : StationSide) → IsState state taken.frames taken → slice_get state.nodes k ≡ Some (Station node) → IsStepError (obeys state k name node (Begin to kind plan)) fault) → IfErr r (λ fault. (state : WorldState) → IsState state w.frames w → IsStepError (begins (station_line state) name drone (number_of kind)) fault)
  begin_error (Ok t) did = tt
  begin_error (Err fault) did = λ state is.
      let s = station_line state in
      let now = skip state is in
      let at : position (is_station_named name) s.nodes ≡ Some k = sym (index s.nodes now.fleet) in
      let f = found_station name s.nodes k at in
      subst (λ (z : Result Step StepError). IsStepError z fault) (begin_by s f now at)
      (did (record s { draft = [] }) f.node (emptied s now) f.there)

-- ---- an order to the services

command_by : (state : WorldState) (k : ℕ) (node : StationSide) (to : Stream) (number word : ℕ) (busy : Option ℕ) → obeys_or state k (node_of node.link.me) node (Command to number word) None busy false ≡ asks state k node (command_busy (node_of node.link.me) busy) (station_commands state.clock to number word node)
command_by state k node to number word None = refl
command_by state k node to number word (Some other) = refl

pub command_is : (state : WorldState) (station drone : Name) (to : Stream) (number word : ℕ) → to ≡ stream_of drone → orders_to state station (λ k node. obeys state k (node_of node.link.me) node (Command to number word)) ≡ commands state station drone number word
command_is state station drone to number word e =
    ap (λ (s : Stream). orders_to state station (λ k node. obeys state k (node_of node.link.me) node (Command s number word))) e
    ∙ (λ i. orders_to state station (λ k node. command_by state k node (stream_of drone) number word (open_command node.services.commander) i))

list_by : (state : WorldState) (k : ℕ) (node : StationSide) (to : Stream) (busy : Option Operation) → obeys_or state k (node_of node.link.me) node (ParamList to) None None (is_some busy) ≡ asks state k node (params_busy (node_of node.link.me) busy) (station_lists_params state.clock to node)
list_by state k node to None = refl
list_by state k node to (Some number) = refl

pub list_is : (state : WorldState) (station drone : Name) (to : Stream) → to ≡ stream_of drone → orders_to state station (λ k node. obeys state k (node_of node.link.me) node (ParamList to)) ≡ lists_params state station drone
list_is state station drone to e =
    ap (λ (s : Stream). orders_to state station (λ k node. obeys state k (node_of node.link.me) node (ParamList s))) e
    ∙ (λ i. orders_to state station (λ k node. list_by state k node (stream_of drone) node.services.client.operation i))

-- as a call says it
pub asked_outcome : {T E : Type 0} (r : Result T E) (w last : WorldView) (start end : ReportState) (does asks : WorldState → Result Step StepError) → ((state : WorldState) → does state ≡ asks state) → OnOk r ((state : WorldState) → IsState state w.frames w → WorldOutcome (does state) w.frames last start end) → OnOk r ((state : WorldState) → IsState state w.frames w → WorldOutcome (asks state) w.frames last start end)
asked_outcome (Err e) w last start end does asks same did = tt
asked_outcome (Ok t) w last start end does asks same did = λ state is. subst (λ (z : Result Step StepError). WorldOutcome z w.frames last start end) (same state) (did state is)

pub asked_error : {T : Type 0} (r : Result T WorldFault) (w : WorldView) (does asks : WorldState → Result Step StepError) → ((state : WorldState) → does state ≡ asks state) → IfErr r (λ fault. (state : WorldState) → IsState state w.frames w → IsStepError (does state) fault) → IfErr r (λ fault. (state : WorldState) → IsState state w.frames w → IsStepError (asks state) fault)
asked_error (Ok t) w does asks same did = tt
asked_error (Err fault) w does asks same did = λ state is. subst (λ (z : Result Step StepError). IsStepError z fault) (same state) (did state is)
