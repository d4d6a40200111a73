use Rattle.fleet_world.proofs.Lookups.{counted_more, count_few}
use Rattle.fleet_world.proofs.fleet.count_drones.Goals as goal

pub loop-node-preserved : goal.loop-node-preserved
loop-node-preserved c = record {
  few = count_few _ _ _ _ c.drone_count-count.ensures c.loop-node.invariant.few;
  rest = counted_more _ _ _ _ _ _ _ c.loop-node-test.true c.node-item.is c.drone_count-count.ensures c.loop-node.invariant.rest;
}
