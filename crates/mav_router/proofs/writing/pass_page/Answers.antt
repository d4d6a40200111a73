use Rattle.std.proofs.Common.{arith}
use Rattle.mav_router.proofs.Outgoing.{keeps_then, looks_more}
use Rattle.mav_router.proofs.Pages.{page_within}
use Rattle.mav_router.proofs.writing.pass_page.Goals as goal

pub loop-from-preserved : goal.loop-from-preserved
loop-from-preserved g c =
    let l = c.loop-from in
    let run = c.run-run in
    let p = c.pass_on in
    record {
      low = omega (arith, l.invariant.low, run.ensures.moves);
      looks = λ journal stands low within.
          let inside = page_within journal c.args.page.now stands in
          looks_more c.args.port journal c.args.from.now l.from run.new.from run.result.bytes.now (g.L.Link.state c.args.link.now) (g.L.Link.state l.link) (g.L.Link.state p.new.link) c.args.lane.now l.lane p.new.lane c.args.batch.now l.batch p.new.batch (omega (arith, run.ensures.within, inside)) (run.ensures.run journal stands) p.ensures.given (l.invariant.looks journal stands low within);
      keeps = keeps_then (g.L.Link.state c.args.link.now) (g.L.Link.state l.link) (g.L.Link.state p.new.link) c.args.lane.now l.lane p.new.lane l.invariant.keeps p.ensures.keeps;
    }
