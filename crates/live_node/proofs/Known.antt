-- The lists of parameters among the events of a call have the values that the node knows after it.
use Rattle.node_reports.specs.Nodes.{Node, Drone, Station}
use Rattle.node_reports.proofs.ListedValues.{ListsKnown, beats_known, ticks_known, flies_known, obeys_known, drone_hears_known, station_hears_known}
use Rattle.live_node.specs.Calls.{LiveCall, Hears, Ticks, Beats, Flies, Obeys, call_does}

pub known : (call : LiveCall) (node : Node) → ListsKnown (call_does call node)
known (Hears packets keeps clock) (Drone n) = drone_hears_known clock keeps packets n
known (Hears packets keeps clock) (Station n) = station_hears_known clock packets n
known (Ticks clock) node = ticks_known clock node
known (Beats clock) node = beats_known clock node
known (Flies clock) node = flies_known clock node
known (Obeys order clock) (Drone n) = tt
known (Obeys order clock) (Station n) = obeys_known clock order n
