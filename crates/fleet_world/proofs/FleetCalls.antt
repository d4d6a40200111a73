-- A node of a fleet is called.
use Rattle.std.proofs.Common.{◌≡◌, ℕ, ◌<◌, List, [], ◌∷◌, ◌++◌, length, get_or, slice_get, slice_set, Option, Some, None, Result, Ok, Err, Vec, Global, refl, sym, ap, ◌∙◌, subst}
use Rattle.std.specs.Prelude.{IfOk, IfErr}
use Rattle.std.proofs.lemmas.List.{length-set}
use Rattle.std.proofs.lemmas.Option.{slice_get_read}
use Rattle.mav_nodes.specs.declared.faults.NodeFault.{NodeFault}
use Rattle.mav_nodes.specs.declared.faults.NodeFault.TheVariants.{StampsSpent, Store, NoMemory}
use Rattle.mav_nodes.specs.Links.{Outcome}
use Rattle.mav_nodes.specs.declared.news.News.{News}
use Rattle.node_reports.specs.Nodes.{Node, Station}
use Rattle.node_reports.specs.Calls.{as_station}
use Rattle.fleet_world.specs.declared.nodes.Node.{Node as ViewNode}
use Rattle.std.proofs.Math.Seq.{set-get_or}
use Rattle.mav_nodes.specs.Nodes.{StationSide, station_obeys}
use Rattle.mav_nodes.specs.declared.orders.Order.{Order}
use Rattle.mav_nodes.specs.declared.faults.OrderFault.{OrderFault}
use Rattle.mav_nodes.specs.declared.faults.OrderFault.TheVariants.{Begin as BeginFails, Op as OpFails, Command as CommandFails, Param as ParamFails, File as FileFails, Node as StationFails}
use Rattle.fleet_world.specs.WorldView.{IsNode, AreNodes, Fleet, IsFleet}
use Rattle.fleet_world.specs.Promises.{NodeOutcome, Moved, FleetOutcome, CallFails, Follows, Refuses, HasOrdered}
use Rattle.fleet_world.specs.StoredDrones.{FailsBy}
use Rattle.fleet_world.proofs.NodeLists.{AtPlace, none, one, at_index, are_nodes-set, are_nodes-push}

-- the node at an index of the nodes
module _ (inside seen : Fleet) (k : ℕ) (view : ViewNode) (same : inside ≡ seen) (within : k < length seen.nodes) (read : view ≡ get_or inside.nodes k view) where
  pub view_there : slice_get seen.nodes k ≡ Some view
  view_there = slice_get_read seen.nodes (length seen.nodes) k view refl within (read ∙ ap (λ (z : Fleet). get_or z.nodes k view) same)

fleet_set : (nodes : List Node) (fleet after : Fleet) (k : ℕ) (new : Node) (view : ViewNode) → IsFleet nodes fleet → IsNode new view → after ≡ record fleet { nodes = slice_set fleet.nodes k view } → IsFleet (slice_set nodes k new) after
fleet_set nodes fleet after k new view f is e =
    subst (λ (z : Fleet). AreNodes (slice_set nodes k new) z.nodes) (sym e) (are_nodes-set nodes fleet.nodes k new view f is)

module _ (nodes : List Node) (fleet after : Fleet) (k : ℕ) (call : Node → Outcome Node) (view new : ViewNode) (news : List News) where
  pub moved : (o : Outcome Node) → IsFleet nodes fleet → after ≡ record fleet { nodes = slice_set fleet.nodes k new } → NodeOutcome o new news → Moved nodes k o after news
  moved None f e did = absurd did
  moved (Some d) f e did = (fleet_set nodes fleet after k d.node new f did.0 e, did.1)

  did_at : AtPlace nodes fleet.nodes k → IsFleet nodes fleet → slice_get fleet.nodes k ≡ Some view → after ≡ record fleet { nodes = slice_set fleet.nodes k new } → ((node : Node) → IsNode node view → NodeOutcome (call node) new news) → FleetOutcome nodes k (slice_get nodes k) call after news
  did_at (none a b) f found e did = cc
  did_at (one node v a b is) f found e did =
      let same : v ≡ view = cc in
      let does : NodeOutcome (call node) new news = did node (subst (IsNode node) same is) in
      subst (λ (o : Option Node). FleetOutcome nodes k o call after news) (sym a) (moved (call node) f e does)

  -- the node at the index did what it was asked
  pub fleet_outcome : IsFleet nodes fleet → slice_get fleet.nodes k ≡ Some view → after ≡ record fleet { nodes = slice_set fleet.nodes k new } → ((node : Node) → IsNode node view → NodeOutcome (call node) new news) → FleetOutcome nodes k (slice_get nodes k) call after news
  fleet_outcome f found e did = did_at (at_index nodes fleet.nodes k f) f found e did

call_fails_by : (fault : NodeFault) (node : Node) (call : Node → Outcome Node) → FailsBy fault (call node) → CallFails fault (Some node) call
call_fails_by StampsSpent node call h = h
call_fails_by Store node call h = h
call_fails_by NoMemory node call h = tt

fails_at : (fault : NodeFault) (nodes : List Node) (seen : List ViewNode) (k : ℕ) (call : Node → Outcome Node) (view : ViewNode) → AtPlace nodes seen k → slice_get seen k ≡ Some view → ((node : Node) → IsNode node view → FailsBy fault (call node)) → CallFails fault (slice_get nodes k) call
fails_at fault nodes seen k call view (none a b) found fails = cc
fails_at fault nodes seen k call view (one node v a b is) found fails =
    let same : v ≡ view = cc in
    subst (λ (o : Option Node). CallFails fault o call) (sym a) (call_fails_by fault node call (fails node (subst (IsNode node) same is)))

-- it failed
pub fleet_fails : (fault : NodeFault) (nodes : List Node) (fleet : Fleet) (k : ℕ) (call : Node → Outcome Node) (view : ViewNode) → IsFleet nodes fleet → slice_get fleet.nodes k ≡ Some view → ((node : Node) → IsNode node view → FailsBy fault (call node)) → CallFails fault (slice_get nodes k) call
fleet_fails fault nodes fleet k call view f found fails = fails_at fault nodes fleet.nodes k call view (at_index nodes fleet.nodes k f) found fails

-- ---- as the calls of a fleet say it

module _ (inside seen after : Fleet) (call : ℕ → Node → Outcome Node) (k : ℕ) (view new : ViewNode) (same : inside ≡ seen) (within : k < length seen.nodes) (read : view ≡ get_or inside.nodes k view) where
  pub call_done : (result : Result (Vec News Global) NodeFault) → after ≡ record inside { nodes = slice_set inside.nodes k new } → IfOk result (λ news. (node : Node) → IsNode node view → NodeOutcome (call inside.clock node) new news.items) → IfOk result (λ news. (nodes : List Node) → IsFleet nodes seen → FleetOutcome nodes k (slice_get nodes k) (call seen.clock) after news.items)
  call_done (Ok news) e did = λ nodes f.
      fleet_outcome nodes seen after k (call seen.clock) view new news.items f (view_there inside seen k view same within read)
      (e ∙ ap (λ (z : Fleet). record z { nodes = slice_set z.nodes k new }) same)
      (λ node is. subst (λ (z : Fleet). NodeOutcome (call z.clock node) new news.items) same (did node is))
  call_done (Err fault) e did = tt

  pub call_fails : (result : Result (Vec News Global) NodeFault) → IfErr result (λ fault. (node : Node) → IsNode node view → FailsBy fault (call inside.clock node)) → IfErr result (λ fault. (nodes : List Node) → IsFleet nodes seen → CallFails fault (slice_get nodes k) (call seen.clock))
  call_fails (Ok news) fails = tt
  call_fails (Err fault) fails = λ nodes f.
      fleet_fails fault nodes seen k (call seen.clock) view f (view_there inside seen k view same within read)
      (λ node seen_is. subst (λ (z : Fleet). FailsBy fault (call z.clock node)) same (fails node seen_is))

-- there are as many nodes after it
pub call_counts : (inside seen after : Fleet) (k : ℕ) (new : ViewNode) → inside ≡ seen → after ≡ record inside { nodes = slice_set inside.nodes k new } → length after.nodes ≡ length seen.nodes
call_counts inside seen after k new same e = ap (λ (z : Fleet). length z.nodes) e ∙ length-set inside.nodes k new ∙ ap (λ (z : Fleet). length z.nodes) same

-- a node is added
pub fleet_added : (inside seen : Fleet) (node : Fleet → Node) (view : ViewNode) (more : List ViewNode) → inside ≡ seen → IsNode (node inside) view → more ≡ inside.nodes ++ view ∷ [] → (nodes : List Node) → IsFleet nodes seen → AreNodes (nodes ++ node seen ∷ []) more
fleet_added inside seen node view more same is joined =
    subst (λ (z : Fleet). (nodes : List Node) → IsFleet nodes z → AreNodes (nodes ++ node z ∷ []) more) same
    (λ nodes f. subst (AreNodes (nodes ++ node inside ∷ [])) (sym joined) (are_nodes-push nodes inside.nodes (node inside) view f is))

-- ---- an order to a station

refuses_weaker : (clock : ℕ) (node : StationSide) (order : Order) (P Q : Type 0) (fault : OrderFault) → (P → Q) → Refuses clock node order P fault → Refuses clock node order Q fault
refuses_weaker clock node order P Q (BeginFails fault) f h = (h.0, h.1, f h.2)
refuses_weaker clock node order P Q (OpFails why) f h = (h.0, f h.1)
refuses_weaker clock node order P Q (CommandFails busy) f h = (h.0, f h.1)
refuses_weaker clock node order P Q (ParamFails busy) f h = (h.0, f h.1)
refuses_weaker clock node order P Q (FileFails fault) f h = (h.0, f h.1)
refuses_weaker clock node order P Q (StationFails fault) f h = h

module _ (inside seen after : Fleet) (k : ℕ) (view new : ViewNode) (order : Order) (same : inside ≡ seen) (within : k < length seen.nodes) (read : view ≡ get_or inside.nodes k view) (e : after ≡ record inside { nodes = slice_set inside.nodes k new }) where
  found_there : slice_get seen.nodes k ≡ Some view
  found_there = view_there inside seen k view same within read

  after_seen : after ≡ record seen { nodes = slice_set seen.nodes k new }
  after_seen = e ∙ ap (λ (z : Fleet). record z { nodes = slice_set z.nodes k new }) same

  station_there : (nodes : List Node) (node : StationSide) → AtPlace nodes seen.nodes k → slice_get nodes k ≡ Some (Station node) → IsNode (Station node) view
  station_there nodes node (none a b) found = cc
  station_there nodes node (one m v a b is) found =
      let one_node : m ≡ Station node = cc in
      let there = found_there in
      let one_view : v ≡ view = cc in
      subst (IsNode (Station node)) one_view (subst (λ (x : Node). IsNode x v) one_node is)

  obeyed : (nodes : List Node) (node : StationSide) (news : List News) → IsFleet nodes seen → slice_get nodes k ≡ Some (Station node) → NodeOutcome (as_station (station_obeys inside.clock order node)) new news → Moved nodes k (as_station (station_obeys seen.clock order node)) after news
  obeyed nodes node news f found did =
      moved nodes seen after k (λ x. as_station (station_obeys seen.clock order node)) view new news (as_station (station_obeys seen.clock order node)) f after_seen
      (subst (λ (z : Fleet). NodeOutcome (as_station (station_obeys z.clock order node)) new news) same did)

  pub order_done : (result : Result (Vec News Global) OrderFault) → IfOk result (λ news. (node : StationSide) → IsNode (Station node) view → Follows node order × NodeOutcome (as_station (station_obeys inside.clock order node)) new news.items) → IfOk result (λ news. (nodes : List Node) → (node : StationSide) → IsFleet nodes seen → slice_get nodes k ≡ Some (Station node) → Follows node order × Moved nodes k (as_station (station_obeys seen.clock order node)) after news.items)
  order_done (Ok news) did = λ nodes node f found.
      let does = did node (station_there nodes node (at_index nodes seen.nodes k f) found) in
      (does.0, obeyed nodes node news.items f found does.1)
  order_done (Err fault) did = tt

  unchanged : (nodes : List Node) → IsFleet nodes seen → new ≡ view → IsFleet nodes after
  unchanged nodes f left =
      let nodes_same : slice_set inside.nodes k new ≡ inside.nodes = ap (slice_set inside.nodes k) (left ∙ read) ∙ set-get_or inside.nodes k view in
      subst (IsFleet nodes) (sym (e ∙ ap (λ (l : List ViewNode). record inside { nodes = l }) nodes_same ∙ same)) f

  pub order_refused : (result : Result (Vec News Global) OrderFault) → IfErr result (λ fault. (node : StationSide) → IsNode (Station node) view → Refuses inside.clock node order (new ≡ view) fault) → IfErr result (λ fault. (nodes : List Node) → (node : StationSide) → IsFleet nodes seen → slice_get nodes k ≡ Some (Station node) → Refuses seen.clock node order (IsFleet nodes after) fault)
  order_refused (Ok news) refused = tt
  order_refused (Err fault) refused = λ nodes node f found.
      refuses_weaker seen.clock node order (new ≡ view) (IsFleet nodes after) fault (unchanged nodes f)
      (subst (λ (z : Fleet). Refuses z.clock node order (new ≡ view) fault) same (refused node (station_there nodes node (at_index nodes seen.nodes k f) found)))

  pub ordered : (result : Result (Vec News Global) OrderFault) → IfOk result (λ news. (node : StationSide) → IsNode (Station node) view → Follows node order × NodeOutcome (as_station (station_obeys inside.clock order node)) new news.items) → IfErr result (λ fault. (node : StationSide) → IsNode (Station node) view → Refuses inside.clock node order (new ≡ view) fault) → HasOrdered seen k order result after
  ordered result did refused = record {
    done = order_done result did;
    fault = order_refused result refused;
    kept = after_seen ∙ ap (λ (l : List ViewNode). record seen { nodes = l }) (sym (ap (λ (z : Fleet). z.nodes) after_seen));
  }

-- ---- what is read of a node

value_there : {A : Type 0} (of : Option Node → A) (nodes : List Node) (seen : List ViewNode) (k : ℕ) (view : ViewNode) (value : A) → AtPlace nodes seen k → slice_get seen k ≡ Some view → ((node : Node) → IsNode node view → value ≡ of (Some node)) → value ≡ of (slice_get nodes k)
value_there of nodes seen k view value (none a b) found known = cc
value_there of nodes seen k view value (one node v a b is) found known =
    let same : v ≡ view = cc in
    known node (subst (IsNode node) same is) ∙ ap of (sym a)

pub value_found : {A : Type 0} (of : Option Node → A) (inside seen : Fleet) (k : ℕ) (view : ViewNode) (value : A) → inside ≡ seen → k < length seen.nodes → view ≡ get_or inside.nodes k view → ((node : Node) → IsNode node view → value ≡ of (Some node)) → (nodes : List Node) → IsFleet nodes seen → value ≡ of (slice_get nodes k)
value_found of inside seen k view value same within read known nodes f =
    value_there of nodes seen.nodes k view value (at_index nodes seen.nodes k f) (view_there inside seen k view same within read) known
