use Rattle.std.proofs.Common.{arith}
use borrow.Author.Count.{below_more}
use Rattle.param_proto.proofs.Ids.{cleaned_so_far, copied_next}
use Rattle.param_proto.proofs.types.clean.Goals as goal

pub returns-then-id-at-eq0 : goal.returns-then-id-at-eq0
returns-then-id-at-eq0 c =
    cleaned_so_far c.args.id.now c.loop-at.clean c.loop-at.at c.told-id c.loop-at.invariant.0 (omega arith) c.loop-at.invariant.1 (λ h. c.if-id-at-eq0.true)

pub loop-at-preserved : goal.loop-at-preserved
loop-at-preserved c =
    (copied_next c.args.id.now c.loop-at.clean c.loop-at.at c.told-id c.loop-at.invariant.0 (omega arith), below_more _ _ c.loop-at.invariant.1 c.if-id-at-eq0.false)

pub returns : goal.returns
returns c =
    cleaned_so_far c.args.id.now c.loop-at.clean c.loop-at.at c.told-id c.loop-at.invariant.0 (omega arith) c.loop-at.invariant.1 (λ h. absurd (omega arith))
