-- How the calls of a node of a scenario fail, and how they are done.
use Rattle.std.proofs.Common.{◌≡◌, ℕ, List, [], Some, None, Result, Ok, Err, Vec, Global, refl, sym, subst, ap, ◌∙◌}
use Rattle.std.specs.Prelude.{IfErr, IfOk, OnOk}
use Rattle.mav_names.specs.declared.names.Name.{Name}
use Rattle.plan_upload.specs.Addresses.{node_of}
use Rattle.mav_nodes.specs.declared.news.News.{News}
use Rattle.mav_nodes.specs.declared.faults.NodeFault.{NodeFault}
use Rattle.mav_nodes.specs.declared.faults.NodeFault.TheVariants.{StampsSpent, Store, NoMemory}
use Rattle.mav_nodes.specs.Links.{Outcome, done}
use Rattle.plan_upload.specs.Station.{StationState}
use Rattle.mav_nodes.specs.Services.{StationServices}
use Rattle.mav_nodes.specs.declared.orders.Order.{Order}
use Rattle.mav_nodes.specs.declared.faults.OrderFault.{OrderFault}
use Rattle.mav_nodes.specs.declared.faults.OrderFault.TheVariants.{Begin as BeginFails, Op as OpFails, Command as CommandFails, Param as ParamFails, File as FileFails, Node as StationFails}
use Rattle.mav_nodes.specs.Nodes.{DroneSide, StationSide, StationView, IsStation, IsAccepted, station_obeys, order_refusal, order_fault, command_refusal, params_refusal, file_refusal}
use Rattle.mav_nodes.specs.Promises.{Fails, Did, StationDid, OrderFails, OrderKeeps}
use Rattle.node_reports.specs.Nodes.{Node, Drone, Station}
use Rattle.node_reports.specs.Calls.{as_drone, as_station}
use Rattle.fleet_world.specs.declared.nodes.Node.{Node as ViewNode}
use Rattle.fleet_world.specs.declared.nodes.Node.TheVariants.{Drone as ViewDrone, Station as ViewStation}
use Rattle.fleet_world.specs.StoredDrones.{StoredView, IsStoredDrone, FailsBy}
use Rattle.fleet_world.specs.WorldView.{IsNode}
use Rattle.fleet_world.specs.Promises.{NodeOutcome, Follows, Refuses}
use Rattle.fleet_world.proofs.KeptNames.{StationKeeps, station_obeying}

pub if_err : {A E : Type 0} {P Q : E → Type 0} (r : Result A E) → ((e : E) → P e → Q e) → IfErr r P → IfErr r Q
if_err (Ok a) f h = tt
if_err (Err e) f h = f e h

as_drone_fails : (fault : NodeFault) (outcome : Outcome DroneSide) → FailsBy fault outcome → FailsBy fault (as_drone outcome)
as_drone_fails StampsSpent outcome h = ap as_drone h
as_drone_fails Store outcome h = h
as_drone_fails NoMemory outcome h = tt

as_station_fails : (fault : NodeFault) (outcome : Outcome StationSide) → FailsBy fault outcome → FailsBy fault (as_station outcome)
as_station_fails StampsSpent outcome h = ap as_station h
as_station_fails Store outcome h = h
as_station_fails NoMemory outcome h = tt

-- a call that is a drone's at a drone
pub drone_fails : (call : Node → Outcome Node) (does : DroneSide → Outcome DroneSide) (v : StoredView) (view : ViewNode) (fault : NodeFault) → ((n : DroneSide) → call (Drone n) ≡ as_drone (does n)) → view ≡ ViewDrone v
    → ((n : DroneSide) → IsStoredDrone n v → FailsBy fault (does n)) → (node : Node) → IsNode node view → FailsBy fault (call node)
drone_fails call does v view fault same is fails = subst (λ (z : ViewNode). (node : Node) → IsNode node z → FailsBy fault (call node)) (sym is) by_node
  where
    by_node : (node : Node) → IsNode node (ViewDrone v) → FailsBy fault (call node)
    by_node (Drone n) h = subst (λ (o : Outcome Node). FailsBy fault o) (sym (same n)) (as_drone_fails fault (does n) (fails n h))
    by_node (Station n) h = absurd h

station_fault : (does : StationSide → Outcome StationSide) (v : StationView) (fault : NodeFault) → Fails fault (λ (n : StationSide). IsStation n v) does ⊥ → (n : StationSide) → IsStation n v → FailsBy fault (does n)
station_fault does v StampsSpent h n is = h n is
station_fault does v Store h n is = h
station_fault does v NoMemory h n is = tt

-- and a station's at a station
pub station_fails : (call : Node → Outcome Node) (does : StationSide → Outcome StationSide) (name : Name) (v : StationView) (view : ViewNode) (fault : NodeFault) → ((n : StationSide) → call (Station n) ≡ as_station (does n)) → view ≡ ViewStation name v
    → Fails fault (λ (n : StationSide). IsStation n v) does ⊥ → (node : Node) → IsNode node view → FailsBy fault (call node)
station_fails call does name v view fault same is fails = subst (λ (z : ViewNode). (node : Node) → IsNode node z → FailsBy fault (call node)) (sym is) by_node
  where
    by_node : (node : Node) → IsNode node (ViewStation name v) → FailsBy fault (call node)
    by_node (Drone n) h = absurd h
    by_node (Station n) h = subst (λ (o : Outcome Node). FailsBy fault o) (sym (same n)) (as_station_fails fault (does n) (station_fault does v fault fails n h.0))

-- ---- how they are done

as_drone_did : (o : Outcome DroneSide) (new : StoredView) (news : List News) → Did o (λ n. IsStoredDrone n new) [] news → Did (as_drone o) (λ n. IsNode n (ViewDrone new)) [] news
as_drone_did None new news h = h
as_drone_did (Some d) new news h = h

-- a station keeps its name
pub as_station_did : (name : Name) (n : StationSide) (o : Outcome StationSide) (new : StationView) (news : List News) → name ≡ node_of n.link.me → StationKeeps n o → StationDid o new [] news → Did (as_station o) (λ m. IsNode m (ViewStation name new)) [] news
as_station_did name n None new news called keeps h = h
as_station_did name n (Some d) new news called keeps h = ((h.0, called ∙ sym (ap node_of keeps.0)), h.1)

module _ (call : Node → Outcome Node) where
  drone_node : (does : DroneSide → Outcome DroneSide) (v new : StoredView) (news : List News) → ((n : DroneSide) → call (Drone n) ≡ as_drone (does n)) → ((n : DroneSide) → IsStoredDrone n v → Did (does n) (λ m. IsStoredDrone m new) [] news) → (node : Node) → IsNode node (ViewDrone v) → NodeOutcome (call node) (ViewDrone new) news
  drone_node does v new news same did (Drone n) h = subst (λ (o : Outcome Node). NodeOutcome o (ViewDrone new) news) (sym (same n)) (as_drone_did (does n) new news (did n h))
  drone_node does v new news same did (Station n) h = absurd h

  station_node : (does : StationSide → Outcome StationSide) (name : Name) (v new : StationView) (news : List News) → ((n : StationSide) → call (Station n) ≡ as_station (does n)) → ((n : StationSide) → StationKeeps n (does n)) → ((n : StationSide) → IsStation n v → StationDid (does n) new [] news) → (node : Node) → IsNode node (ViewStation name v) → NodeOutcome (call node) (ViewStation name new) news
  station_node does name v new news same keeps did (Drone n) h = absurd h
  station_node does name v new news same keeps did (Station n) h =
      subst (λ (o : Outcome Node). NodeOutcome o (ViewStation name new) news) (sym (same n)) (as_station_did name n (does n) new news h.1 (keeps n) (did n h.0))

  resting_node : (name : Name) (v : StationView) → ((n : StationSide) → call (Station n) ≡ done (Station n) []) → (node : Node) → IsNode node (ViewStation name v) → NodeOutcome (call node) (ViewStation name v) []
  resting_node name v same (Drone n) h = absurd h
  resting_node name v same (Station n) h = subst (λ (o : Outcome Node). NodeOutcome o (ViewStation name v) []) (sym (same n)) (h, refl)

  -- as a call says it
  pub drone_done : (does : DroneSide → Outcome DroneSide) (v new : StoredView) (view after : ViewNode) (r : Result (Vec News Global) NodeFault) → ((n : DroneSide) → call (Drone n) ≡ as_drone (does n)) → view ≡ ViewDrone v → after ≡ ViewDrone new
      → IfOk r (λ news. (n : DroneSide) → IsStoredDrone n v → Did (does n) (λ m. IsStoredDrone m new) [] news.items) → IfOk r (λ news. (node : Node) → IsNode node view → NodeOutcome (call node) after news.items)
  drone_done does v new view after (Err fault) same is now did = tt
  drone_done does v new view after (Ok news) same is now did = λ node h.
      subst (λ (z : ViewNode). NodeOutcome (call node) z news.items) (sym now) (drone_node does v new news.items same did node (subst (IsNode node) is h))

  pub station_done : (does : StationSide → Outcome StationSide) (name : Name) (v new : StationView) (view after : ViewNode) (r : Result (Vec News Global) NodeFault) → ((n : StationSide) → call (Station n) ≡ as_station (does n)) → ((n : StationSide) → StationKeeps n (does n)) → view ≡ ViewStation name v → after ≡ ViewStation name new
      → IfOk r (λ news. (n : StationSide) → IsStation n v → StationDid (does n) new [] news.items) → IfOk r (λ news. (node : Node) → IsNode node view → NodeOutcome (call node) after news.items)
  station_done does name v new view after (Err fault) same keeps is now did = tt
  station_done does name v new view after (Ok news) same keeps is now did = λ node h.
      subst (λ (z : ViewNode). NodeOutcome (call node) z news.items) (sym now) (station_node does name v new news.items same keeps did node (subst (IsNode node) is h))

  pub station_rests : (name : Name) (v : StationView) (view after : ViewNode) (news : List News) → ((n : StationSide) → call (Station n) ≡ done (Station n) []) → view ≡ ViewStation name v → after ≡ ViewStation name v → news ≡ [] → (node : Node) → IsNode node view → NodeOutcome (call node) after news
  station_rests name v view after news same is now none node h =
      subst (λ (z : ViewNode). NodeOutcome (call node) z news) (sym now)
      (subst (NodeOutcome (call node) (ViewStation name v)) (sym none) (resting_node name v same node (subst (IsNode node) is h)))

-- ---- orders to a station

accepted_follows : (n : StationSide) (v : StationView) (order : Order) → IsStation n v → IsAccepted v order → Follows n order
accepted_follows n v order is a = record {
  plan = ap (λ (core : StationState). order_refusal core order) (sym is.core) ∙ a.plan;
  command = ap (λ (services : StationServices). command_refusal services order) (sym is.services) ∙ a.command;
  params = ap (λ (services : StationServices). params_refusal services order) (sym is.services) ∙ a.params;
  file = ap (λ (services : StationServices). file_refusal services order) (sym is.services) ∙ a.file;
}

-- as a call says it
pub order_followed : (r : Result (Vec News Global) OrderFault) (clock : ℕ) (order : Order) (name : Name) (v new : StationView) (view : ViewNode) → view ≡ ViewStation name v
    → OnOk r (IsAccepted v order)
    → IfOk r (λ news. (n : StationSide) → IsStation n v → StationDid (station_obeys clock order n) new [] news.items)
    → IfOk r (λ news. (n : StationSide) → IsNode (Station n) view → Follows n order × NodeOutcome (as_station (station_obeys clock order n)) (ViewStation name new) news.items)
order_followed (Err fault) clock order name v new view is accepted did = tt
order_followed (Ok news) clock order name v new view is accepted did = λ n h.
    let seen = subst (IsNode (Station n)) is h in
    (accepted_follows n v order seen.0 accepted, as_station_did name n (station_obeys clock order n) new news.items seen.1 (station_obeying clock order n) (did n seen.0))

refused_by : (clock : ℕ) (order : Order) (name : Name) (v new : StationView) (n : StationSide) (fault : OrderFault) → IsStation n v → OrderFails clock order v fault → OrderKeeps v new fault → Refuses clock n order (ViewStation name new ≡ ViewStation name v) fault
refused_by clock order name v new n (BeginFails fault) is fails keeps = (ap (λ (core : StationState). order_refusal core order) (sym is.core) ∙ fails.0, fails.1, ap (ViewStation name) keeps)
refused_by clock order name v new n (OpFails why) is fails keeps = (ap (λ (core : StationState). order_fault core order) (sym is.core) ∙ fails, ap (ViewStation name) keeps)
refused_by clock order name v new n (CommandFails busy) is fails keeps = (ap (λ (services : StationServices). command_refusal services order) (sym is.services) ∙ fails, ap (ViewStation name) keeps)
refused_by clock order name v new n (ParamFails busy) is fails keeps = (ap (λ (services : StationServices). params_refusal services order) (sym is.services) ∙ fails, ap (ViewStation name) keeps)
refused_by clock order name v new n (FileFails fault) is fails keeps = (ap (λ (services : StationServices). file_refusal services order) (sym is.services) ∙ fails, ap (ViewStation name) keeps)
refused_by clock order name v new n (StationFails fault) is fails keeps = (accepted_follows n v order is fails.0, station_fault (station_obeys clock order) v fault fails.1 n is)

pub order_refused : (r : Result (Vec News Global) OrderFault) (clock : ℕ) (order : Order) (name : Name) (v new : StationView) (view : ViewNode) → view ≡ ViewStation name v
    → IfErr r (OrderFails clock order v) → IfErr r (OrderKeeps v new)
    → IfErr r (λ fault. (n : StationSide) → IsNode (Station n) view → Refuses clock n order (ViewStation name new ≡ view) fault)
order_refused (Ok news) clock order name v new view is fails keeps = tt
order_refused (Err fault) clock order name v new view is fails keeps = λ n h.
    subst (λ (z : ViewNode). Refuses clock n order (ViewStation name new ≡ z) fault) (sym is)
    (refused_by clock order name v new n fault (subst (IsNode (Station n)) is h).0 fails keeps)
