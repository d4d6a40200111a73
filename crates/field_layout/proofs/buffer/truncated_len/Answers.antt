use Rattle.std.proofs.Common.{◌∙◌, sym, ap, length, arith}
use Rattle.field_layout.proofs.Truncation.{step_back, stop_other}
use Rattle.field_layout.proofs.buffer.truncated_len.Goals as goal

pub loop-len-preserved : goal.loop-len-preserved
loop-len-preserved c =
    (omega (arith, c.loop-len.invariant.0), step_back c.args.payload.now c.loop-len.len c.loop-len-test.true c.loop-len.invariant.0 c.if-payload-len-eq0.true ∙ c.loop-len.invariant.1)

pub returns-else-payload-len-eq0 : goal.returns-else-payload-len-eq0
returns-else-payload-len-eq0 c =
    sym (ap length (sym c.loop-len.invariant.1) ∙ stop_other c.args.payload.now c.loop-len.len (omega arith) c.loop-len.invariant.0 c.if-payload-len-eq0.false)
