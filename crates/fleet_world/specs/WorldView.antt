-- What contracts see of a world, and which state it is.
use Rattle.std.specs.Prelude.{ℕ, ◌≡◌, Bool, List, [], ◌∷◌, length, map, Option, Some, None}
use Rattle.mav_names.specs.declared.names.Name.{Name}
use Rattle.mav_frame.specs.Packet.{Packet}
use Rattle.mav_frame.specs.Encoding.{encoding}
use Rattle.mav_nodes.specs.Nodes.{IsStation}
use Rattle.plan_items.specs.declared.items.Item.{Item}
use Rattle.mav_names.specs.Addresses.{node_of, drone_name}
use Rattle.scenario_lines.specs.declared.naming.Named.{Named}
use Rattle.scenario_lines.specs.declared.naming.Role.TheVariants.{Drone as DroneRole, Station as StationRole}
use Rattle.scenario_lines.specs.LineContext.{LineContext}
use Rattle.node_reports.specs.Nodes.{Node, Drone, Station}
use Rattle.fleet_world.specs.declared.nodes.Node.{Node as ViewNode}
use Rattle.fleet_world.specs.declared.nodes.Node.TheVariants.{Drone as ViewDrone, Station as ViewStation}
use Rattle.fleet_world.specs.StoredDrones.{IsStoredDrone}
use Rattle.fleet_world.specs.WorldState.{WorldState}

-- a node: its end of the links represents the history
abbrev pub IsNode : Node → ViewNode → Type 0
IsNode (Drone n) (ViewDrone v) = IsStoredDrone n v
IsNode (Station n) (ViewStation name v) = IsStation n v × (name ≡ node_of n.link.me)
IsNode node seen = ⊥

-- nodes, pairwise
abbrev pub AreNodes : List Node → List ViewNode → Type 0
AreNodes [] [] = Unit {0}
AreNodes (n ∷ ns) (v ∷ vs) = IsNode n v × AreNodes ns vs
AreNodes nodes seen = ⊥

-- its role and its name
abbrev pub named_in : ViewNode → Named
named_in (ViewDrone v) = record { role = DroneRole; name = drone_name v.node.drone.sys }
named_in (ViewStation name v) = record { role = StationRole; name = name }

abbrev pub names_in : List ViewNode → List Named
names_in seen = map named_in seen

-- the nodes of a world, their key and their clock
pub record Fleet : Type 0 where
  pub key : List ℕ
  pub nodes : List ViewNode
  pub clock : ℕ

abbrev pub no_fleet : List ℕ → Fleet
no_fleet key = record { key = key; nodes = []; clock = 0 }

abbrev pub IsFleet : List Node → Fleet → Type 0
IsFleet nodes fleet = AreNodes nodes fleet.nodes

-- a sent frame by its sender and its bytes
abbrev pub Kept : Type 0
Kept = Name × List ℕ

abbrev pub kept_as : Packet → Kept
kept_as packet = (packet.from, encoding packet)

-- the bytes of a sent frame, if there is one
abbrev pub bytes_of : Option Kept → List ℕ
bytes_of None = []
bytes_of (Some kept) = kept.1

pub record WorldView : Type 0 where
  pub fleet : Fleet
  pub sent : List Kept
  pub given : ℕ
  pub draft : List Item
  pub restarts : ℕ
  pub frames : Bool  -- whether reports print frames whole

-- the world is in this state
pub record IsState (state : WorldState) (frames : Bool) (world : WorldView) : Type 0 where
  pub key : world.fleet.key ≡ state.key
  pub fleet : IsFleet state.nodes world.fleet
  pub clock : world.fleet.clock ≡ state.clock
  pub sent : world.sent ≡ map kept_as state.sent
  pub given : world.given ≡ state.given
  pub draft : world.draft ≡ state.draft
  pub restarts : world.restarts ≡ state.restarts
  pub frames_is : world.frames ≡ frames

-- what the lines that follow are read against
abbrev pub context_in : WorldView → LineContext
context_in world = record {
  nodes = names_in world.fleet.nodes;
  drafted = length world.draft;
  clock = world.fleet.clock;
}
