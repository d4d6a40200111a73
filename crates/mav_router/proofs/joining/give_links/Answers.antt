use Rattle.std.proofs.Common.{◌≡◌, ◌∙◌, ◌+◌, ◌++◌, map, length, ap, arith, length-append}
use Rattle.mav_router.specs.declared.parts.Side.{Side}
use Rattle.mav_router.proofs.Moving.{image_moved, all_images_moved}
use Rattle.mav_router.proofs.joining.give_links.Goals as goal

pub loop-at-preserved : goal.loop-at-preserved
loop-at-preserved g c =
    let l = c.loop-at in
    let i = l.invariant in
    let taken = c.take_first-link in
    let put = c.put_last in
    let fewer = ap length taken.ensures.first in
    let more : length put.new.list.items ≡ length l.links.items + 1 = ap length put.ensures.items ∙ length-append l.links.items _ in
    record {
      long = omega (arith, fewer, l.sides.ok.0, taken.new.list.ok.0, i.long);
      room = omega (arith, fewer, more, l.sides.ok.0, taken.new.list.ok.0, l.links.ok.0, put.new.list.ok.0, i.room, put.ensures.room);
      links = ap (λ xs. xs ++ map (λ (side : Side g.row.L.Denot). side.link) taken.new.list.items) put.ensures.items
          ∙ image_moved (λ (side : Side g.row.L.Denot). side.link) l.links.items taken.result l.sides.items taken.new.list.items _ taken.ensures.first i.links;
    }

pub returns : goal.returns
returns g c =
    let l = c.loop-at in
    all_images_moved (λ (side : Side g.row.L.Denot). side.link) l.links.items l.sides.items _ (omega (arith, l.sides.ok.0, l.invariant.long, c.loop-at-test.false)) l.invariant.links
