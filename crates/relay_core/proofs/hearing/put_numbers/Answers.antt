use Rattle.std.proofs.Common.{◌∙◌, ◌<◌, ◌+◌, ◌++◌, length, take, drop, arith, ap, sym, length-set}
use Rattle.link_table.specs.OpenLinks.{has_link}
use Rattle.relay_core.specs.Moves.{numbers_of}
use Rattle.relay_core.proofs.Telling.{put_more, put_none}
use Rattle.relay_core.proofs.hearing.put_numbers.Goals.{then-has, else-has}
use Rattle.relay_core.proofs.hearing.put_numbers.Goals as goal

pub loop-at-preserved : goal.loop-at-preserved
loop-at-preserved c =
    let at = c.loop-at.at in
    let count = c.loop-at.count in
    let numbers = c.loop-at.numbers in
    let links = c.args.links.now.links in
    let goes = has_link c.args.ways.bits in
    let whole = numbers_of goes 0 links in
    let rest = numbers_of goes (at + 1) (drop (at + 1) links) in
    let inv = c.loop-at.invariant in
    elim c.if-has.branch [
      | then-has w ↦
          let long = length-set numbers count w.link.result.number in
          let same = ap length w.numbers-is in
          let all = c.if-has.array_long in
          let few = c.count-at-end.ensures.few in
          let less = c.loop-at-test.true in
          let room : count < length numbers = omega (arith, long, same, all, few, less, inv.0) in
          let more = put_more goes at count links numbers whole w.link.result w.link.ensures.link room (sym c.has.ensures ∙ w.if-has.true) inv.1 in
          (omega (arith, w.count-is, inv.0), (λ i. take (w.count-is i) (w.numbers-is i) ++ rest) ∙ more)
      | else-has w ↦
          let x = c.count-at-end.ensures.count in
          let less = c.loop-at-test.true in
          let same = put_none goes at count links numbers whole (omega (arith, x, less)) (sym c.has.ensures ∙ w.if-has.false) inv.1 in
          (omega (arith, w.count-is, inv.0), (λ i. take (w.count-is i) (w.numbers-is i) ++ rest) ∙ same)
    ]
