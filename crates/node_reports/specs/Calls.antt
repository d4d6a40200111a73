-- What a node of either kind does at a call.
use Rattle.std.specs.Prelude.{ℕ, List, [], None, Some}
use Rattle.mav_nodes.specs.Links.{Outcome, done}
use Rattle.mav_nodes.specs.Nodes.{DroneSide, StationSide, drone_receives, drone_beats, drone_ticks, drone_sims}
use Rattle.mav_nodes.specs.Nodes.{station_receives, station_beats, station_ticks}
use Rattle.node_reports.specs.Nodes.{Node, Drone, Station}

abbrev pub as_drone : Outcome DroneSide → Outcome Node
as_drone None = None
as_drone (Some d) = done (Drone d.node) d.events

abbrev pub as_station : Outcome StationSide → Outcome Node
as_station None = None
as_station (Some d) = done (Station d.node) d.events

abbrev pub node_receives : ℕ → List ℕ → Node → Outcome Node
node_receives clock datagram (Drone n) = as_drone (drone_receives clock datagram n)
node_receives clock datagram (Station n) = as_station (station_receives clock datagram n)

abbrev pub node_beats : ℕ → Node → Outcome Node
node_beats clock (Drone n) = as_drone (drone_beats clock n)
node_beats clock (Station n) = as_station (station_beats clock n)

abbrev pub node_ticks : ℕ → Node → Outcome Node
node_ticks clock (Drone n) = as_drone (drone_ticks clock n)
node_ticks clock (Station n) = as_station (station_ticks clock n)

-- one tick of a drone's simulator; a station does nothing
abbrev pub node_flies : ℕ → Node → Outcome Node
node_flies clock (Drone n) = as_drone (drone_sims clock n)
node_flies clock (Station n) = done (Station n) []
