-- The state of a scenario's world: drones and stations that exchange signed datagrams.
use Rattle.std.specs.Prelude.{ℕ, Bool, false, ◌+◌, List, [], ◌∷◌, length, map}
use Rattle.mav_names.specs.declared.names.Name.{Name}
use Rattle.mav_names.specs.declared.names.Stream.{Stream}
use Rattle.mav_frame.specs.Packet.{Packet}
use Rattle.plan_items.specs.declared.items.Item.{Item}
use Rattle.plan_upload.specs.Addresses.{node_of, same_name}
use Rattle.node_reports.specs.Nodes.{Node, Drone, Station, node_name}
use Rattle.scenario_lines.specs.declared.naming.Named.{Named}
use Rattle.scenario_lines.specs.declared.naming.Role.TheVariants.{Drone as DroneRole, Station as StationRole}
use Rattle.scenario_lines.specs.LineContext.{LineContext}

pub record WorldState : Type 0 where
  pub key : List ℕ  -- of all nodes
  pub nodes : List Node  -- in the order in which they were named
  pub sent : List Packet  -- the first sent first
  pub given : ℕ  -- how many of these were sent before the latest station line, or were given by a flow since then
  pub draft : List Item
  pub clock : ℕ  -- in units of 10 microseconds
  pub restarts : ℕ  -- how often a drone has started again

abbrev pub empty_state : List ℕ → WorldState
empty_state key = record { key = key; nodes = []; sent = []; given = 0; draft = []; clock = 0; restarts = 0 }

-- every node signs on link 0
abbrev pub stream_of : Name → Stream
stream_of name = record { sys = name.sys; comp = name.comp; link = 0 }

abbrev pub named : Node → Named
named (Drone n) = record { role = DroneRole; name = node_of n.link.me }
named (Station n) = record { role = StationRole; name = node_of n.link.me }

abbrev pub names_of : List Node → List Named
names_of nodes = map named nodes

-- what the lines that follow are read against
abbrev pub context_of : WorldState → LineContext
context_of s = record { nodes = names_of s.nodes; drafted = length s.draft; clock = s.clock }

-- a node of this name, a drone, and a station
abbrev pub is_named : Name → Node → Bool
is_named name node = same_name (node_name node) name

abbrev pub is_drone_named : Name → Node → Bool
is_drone_named name (Drone n) = same_name (node_of n.link.me) name
is_drone_named name (Station n) = false

abbrev pub is_station_named : Name → Node → Bool
is_station_named name (Drone n) = false
is_station_named name (Station n) = same_name (node_of n.link.me) name

abbrev pub drones_in : List Node → ℕ
drones_in [] = 0
drones_in (Drone n ∷ ns) = 1 + drones_in ns
drones_in (Station n ∷ ns) = drones_in ns

abbrev pub stations_in : List Node → ℕ
stations_in [] = 0
stations_in (Drone n ∷ ns) = stations_in ns
stations_in (Station n ∷ ns) = 1 + stations_in ns
