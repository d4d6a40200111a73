use Rattle.std.proofs.Common.{◌≡◌, ◌+◌, ◌≤◌, drop}
use Rattle.fleet_world.specs.Counts.{is_drone_view, counted}
use Rattle.fleet_world.proofs.fleet.count_drones.Given as goal

abbrev pub invariant-loop-node : goal.invariant-loop-node
invariant-loop-node l = record {
  few : l.count ≤ l.node-index;
  rest : l.count + counted is_drone_view (drop l.node-index l.nodes) ≡ counted is_drone_view l.nodes;
}
