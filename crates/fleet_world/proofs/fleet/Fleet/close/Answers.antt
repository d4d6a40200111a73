use Rattle.fleet_world.proofs.Closings.{close_more, close_end}
use Rattle.fleet_world.proofs.fleet.Fleet.close.Goals as goal

pub loop-index-preserved : goal.loop-index-preserved
loop-index-preserved c = record {
  size = c.loop-index.invariant.size;
  closed = close_more c.args.self.now _ _ _ _ _ c.loop-index-test.true c.loop-index.invariant.size c.loop-index.invariant.closed c.in_ok-close_at.ensures;
}

pub returns : goal.returns
returns c = close_end c.args.self.now _ _ _ _ c.loop-index-test.false c.loop-index.invariant.size c.loop-index.invariant.closed
