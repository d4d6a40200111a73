use Rattle.std.proofs.Common.{◌≡◌, ◌∙◌, ◌<◌, ◌+◌, length, length-append, ap, arith}
use Rattle.mav_router.specs.declared.parts.Side.{Side}
use Rattle.mav_router.specs.Ends.{end_by}
use Rattle.mav_router.proofs.Moving.{image_more}
use Rattle.mav_router.proofs.closing.put_ends.Goals as goal

pub loop-at-preserved : goal.loop-at-preserved
loop-at-preserved g c =
    let l = c.loop-at in
    let i = l.invariant in
    let put = c.put_last.ensures in
    let within : l.at < length c.args.sides.now = omega (arith, c.loop-at-test.true) in
    let more : length c.put_last.new.list.items ≡ length l.ends.items + 1 = ap length put.items ∙ length-append l.ends.items _ in
    record {
      long = omega (arith, more, l.ends.ok.0, c.put_last.new.list.ok.0, i.long);
      room = omega (arith, i.room, put.room);
      ends = put.items ∙ image_more (λ (s : Side g.row.L.Denot). end_by s.lane c.args.turns) c.args.sides.now l.at c.index-sides-at.result l.ends.items c.end_of.result within c.end_of.ensures i.ends;
    }
