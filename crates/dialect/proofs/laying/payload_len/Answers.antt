use Rattle.std.proofs.Common.{arith}
use Rattle.field_layout.specs.Definition.{all_fields}
use Rattle.dialect.proofs.ManyFields.{sum_by-take}
use Rattle.dialect.proofs.laying.payload_len.Goals as goal

pub loop-index-preserved : goal.loop-index-preserved
loop-index-preserved c =
    let more = sum_by-take (all_fields c.args.def.now) c.loop-index.index c.field.result.now c.field.ensures in
    let bytes = c.loop-index.invariant.0 in
    (omega (arith, more, bytes), omega arith)
