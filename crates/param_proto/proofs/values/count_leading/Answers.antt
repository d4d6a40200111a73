use Rattle.param_proto.proofs.ValueLists.{leading_more, leading_stops, leading_all}
use Rattle.param_proto.proofs.values.count_leading.Goals as goal

pub loop-known-preserved : goal.loop-known-preserved
loop-known-preserved c = leading_more c.args.taken.now c.loop-known.known c.loop-known.invariant c.loop-known-test.true c.if-taken-known.true

pub returns-else-taken-known : goal.returns-else-taken-known
returns-else-taken-known c = leading_stops c.args.taken.now c.loop-known.known c.loop-known.invariant c.if-taken-known.false

pub returns-after-loop-known : goal.returns-after-loop-known
returns-after-loop-known c = leading_all c.args.taken.now c.loop-known.known c.loop-known.invariant c.loop-known-test.false
