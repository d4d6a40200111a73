use Rattle.fleet_world.proofs.Lookups.{counted_more, count_few}
use Rattle.fleet_world.proofs.events.count_frames.Goals as goal

pub loop-piece-preserved : goal.loop-piece-preserved
loop-piece-preserved c = record {
  few = count_few _ _ _ _ c.frame_count-count.ensures c.loop-piece.invariant.few;
  rest = counted_more _ _ _ _ _ _ _ c.loop-piece-test.true c.piece-item.is c.frame_count-count.ensures c.loop-piece.invariant.rest;
}
