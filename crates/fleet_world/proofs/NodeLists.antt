-- Nodes, pairwise with what contracts see of them, and their names.
use Rattle.std.proofs.Common.{◌≡◌, ℕ, zero, suc, List, [], ◌∷◌, ◌++◌, length, slice_get, slice_set, Some, None, refl, sym, ap, ◌∙◌}
use Rattle.mav_names.specs.declared.names.Name.{Name}
use Rattle.mav_names.specs.declared.names.Stream.{Stream}
use Rattle.mav_names.specs.Addresses.{node_of, drone_name}
use Rattle.plan_upload.specs.Drone.{DroneState}
use Rattle.scenario_lines.specs.declared.naming.Named.{Named}
use Rattle.scenario_lines.specs.declared.naming.Role.TheVariants.{Drone as DroneRole, Station as StationRole}
use Rattle.node_reports.specs.Nodes.{Node, Drone, Station, node_name}
use Rattle.fleet_world.specs.declared.nodes.Node.{Node as ViewNode}
use Rattle.fleet_world.specs.declared.nodes.Node.TheVariants.{Drone as ViewDrone, Station as ViewStation}
use Rattle.fleet_world.specs.WorldState.{named, names_of}
use Rattle.fleet_world.specs.WorldView.{IsNode, AreNodes, named_in, names_in}

-- ---- one of them

-- the node at an index, if there is one
pub data AtPlace (nodes : List Node) (seen : List ViewNode) (k : ℕ) : Type 0 where
  none : slice_get nodes k ≡ None → slice_get seen k ≡ None → AtPlace nodes seen k
  one : (node : Node) (view : ViewNode) → slice_get nodes k ≡ Some node → slice_get seen k ≡ Some view → IsNode node view → AtPlace nodes seen k

at_index-next : (n : Node) (v : ViewNode) (ns : List Node) (vs : List ViewNode) (k : ℕ) → AtPlace ns vs k → AtPlace (n ∷ ns) (v ∷ vs) (suc k)
at_index-next n v ns vs k (none a b) = none a b
at_index-next n v ns vs k (one node view a b is) = one node view a b is

pub at_index : (nodes : List Node) (seen : List ViewNode) (k : ℕ) → AreNodes nodes seen → AtPlace nodes seen k
at_index [] [] k are = none refl refl
at_index [] (v ∷ vs) k are = absurd are
at_index (n ∷ ns) [] k are = absurd are
at_index (n ∷ ns) (v ∷ vs) zero are = one n v refl refl are.0
at_index (n ∷ ns) (v ∷ vs) (suc k) are = at_index-next n v ns vs k (at_index ns vs k are.1)

-- ---- one of them changed, and one more

pub are_nodes-set : (nodes : List Node) (seen : List ViewNode) (k : ℕ) (node : Node) (view : ViewNode) → AreNodes nodes seen → IsNode node view → AreNodes (slice_set nodes k node) (slice_set seen k view)
are_nodes-set [] [] k node view are is = tt
are_nodes-set [] (v ∷ vs) k node view are is = absurd are
are_nodes-set (n ∷ ns) [] k node view are is = absurd are
are_nodes-set (n ∷ ns) (v ∷ vs) zero node view are is = (is, are.1)
are_nodes-set (n ∷ ns) (v ∷ vs) (suc k) node view are is = (are.0, are_nodes-set ns vs k node view are.1 is)

pub are_nodes-push : (nodes : List Node) (seen : List ViewNode) (node : Node) (view : ViewNode) → AreNodes nodes seen → IsNode node view → AreNodes (nodes ++ node ∷ []) (seen ++ view ∷ [])
are_nodes-push [] [] node view are is = (is, tt)
are_nodes-push [] (v ∷ vs) node view are is = absurd are
are_nodes-push (n ∷ ns) [] node view are is = absurd are
are_nodes-push (n ∷ ns) (v ∷ vs) node view are is = (are.0, are_nodes-push ns vs node view are.1 is)

-- ---- their names and their number

pub named_is : (node : Node) (view : ViewNode) → IsNode node view → named_in view ≡ named node
named_is (Drone n) (ViewDrone v) is =
    ap (λ (d : DroneState). record { role = DroneRole; name = drone_name d.sys }) is.drone.core
    ∙ sym (ap (λ (me : Stream). record { role = DroneRole; name = node_of me }) is.me)
named_is (Drone n) (ViewStation name v) is = absurd is
named_is (Station n) (ViewDrone v) is = absurd is
named_is (Station n) (ViewStation name v) is = ap (λ (called : Name). record { role = StationRole; name = called }) is.1

pub names_are : (nodes : List Node) (seen : List ViewNode) → AreNodes nodes seen → names_in seen ≡ names_of nodes
names_are [] [] are = refl
names_are [] (v ∷ vs) are = absurd are
names_are (n ∷ ns) [] are = absurd are
names_are (n ∷ ns) (v ∷ vs) are = λ i. named_is n v are.0 i ∷ names_are ns vs are.1 i

pub as_many : (nodes : List Node) (seen : List ViewNode) → AreNodes nodes seen → length seen ≡ length nodes
as_many [] [] are = refl
as_many [] (v ∷ vs) are = absurd are
as_many (n ∷ ns) [] are = absurd are
as_many (n ∷ ns) (v ∷ vs) are = ap suc (as_many ns vs are.1)

named_name : (node : Node) → (named node).name ≡ node_name node
named_name (Drone n) = refl
named_name (Station n) = refl

-- the name of one of them
pub name_is : (view : ViewNode) (found : Named) → found ≡ named_in view → (node : Node) → IsNode node view → found.name ≡ node_name node
name_is view found e node is = ap (λ (n : Named). n.name) (e ∙ named_is node view is) ∙ named_name node
