use Rattle.std.proofs.Common.{◌≡◌, ◌+◌, ◌∙◌, length, ap, arith}
use Rattle.std.proofs.lemmas.List.{length_push}
use Rattle.std.proofs.lemmas.List.Elements.{All-push}
use Rattle.plan_items.specs.Plans.{items_of}
use Rattle.plan_image.specs.Image.{ItemInRange}
use Rattle.plan_image.proofs.Items.{read_more}
use Rattle.plan_image.proofs.reading.items_of_bytes.Goals as goal

pub loop-index-preserved : goal.loop-index-preserved
loop-index-preserved c =
    let got = items_of c.loop-index.plan in
    let more = items_of c.put.new.self in
    let longer : length more ≡ length got + 1 = ap length c.put.ensures.items ∙ length_push got c.item_at.result in (
      read_more c.args.bytes.now got more c.item_at.result c.loop-index.index c.loop-index.invariant.0 c.item_at.ensures.bytes c.put.ensures.items,
      omega (arith, longer, c.loop-index.invariant.1),
      omega (arith, c.put.ensures.room, c.loop-index.invariant.2),
      rw c.put.ensures.items (All-push ItemInRange got c.item_at.result c.loop-index.invariant.3 c.item_at.ensures.range),
    )
