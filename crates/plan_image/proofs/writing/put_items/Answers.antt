use Rattle.std.proofs.Common.{arith}
use Rattle.plan_image.proofs.Items.{write_more, range_more}
use Rattle.plan_image.proofs.writing.put_items.Goals as goal

pub loop-item-preserved : goal.loop-item-preserved
loop-item-preserved c =
    let i = c.loop-item.item-index in
    let items = c.args.items.now in (
      write_more c.args.bytes.now.items c.loop-item.bytes.items c.put_item.new.bytes.items items i _ c.loop-item-test.true c.loop-item.invariant.0 c.put_item.ensures.bytes,
      omega (arith, c.put_item.ensures.len, c.loop-item.invariant.1),
      omega (arith, c.put_item.ensures.room, c.loop-item.invariant.2),
      range_more items i _ c.loop-item-test.true c.loop-item.invariant.3 c.put_item.ensures.range,
    )
