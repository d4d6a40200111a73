-- Nodes of either kind, drones and stations.
use Rattle.mav_names.specs.declared.names.Name.{Name}
use Rattle.plan_upload.specs.Addresses.{node_of}
use Rattle.mav_nodes.specs.Nodes.{DroneSide, StationSide}

pub data Node : Type 0 where
  Drone : (node : DroneSide) → Node
  Station : (node : StationSide) → Node

abbrev pub node_name : Node → Name
node_name (Drone n) = node_of n.link.me
node_name (Station n) = node_of n.link.me
