use Rattle.std.proofs.Common.{◌<◌, length, arith}
use Rattle.fleet_report.proofs.ItemLines.{items_text-take, line_added}
use Rattle.fleet_report.proofs.items.put_items.Goals as goal

pub loop-seq-preserved : goal.loop-seq-preserved
loop-seq-preserved c =
    let within : c.loop-seq.seq < length c.as_slice-item-items.result.now = omega arith in
    line_added _ _ _ _ _ _ c.loop-seq.invariant c.in_ok-write.ensures.bytes (items_text-take _ _ _ within)
