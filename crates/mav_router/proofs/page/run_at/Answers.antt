use Rattle.std.proofs.Common.{◌∙◌, sym, arith}
use Rattle.mav_router.proofs.Outgoing.{span_begun, span_longer}
use Rattle.mav_router.proofs.page.run_at.Goals as goal

pub loop-end-init : goal.loop-end-init
loop-end-init c = record {
  moves = omega arith;
  within = omega (arith, c.requires.there);
  run = λ bytes held. span_begun c.args.port bytes c.args.heads.now c.args.first c.head_at.result held c.head_at.ensures (c.requires.goes c.head_at.result c.head_at.ensures);
}

pub returns-then-next-span-clause-run : goal.returns-then-next-span-clause-run
returns-then-next-span-clause-run c = c.loop-end.invariant.run

pub returns-then-not-has-clause-run : goal.returns-then-not-has-clause-run
returns-then-not-has-clause-run c = c.loop-end.invariant.run

pub loop-end-preserved : goal.loop-end-preserved
loop-end-preserved c =
    let l = c.loop-end in
    let next = c.head_at-outcome.result in
    record {
      moves = omega (arith, l.invariant.moves);
      within = omega (arith, c.loop-end-test.true);
      run = λ bytes held. span_longer c.args.port bytes c.args.heads.now c.args.first l.end l.span next held c.head_at-outcome.ensures (sym (c.has.ensures) ∙ c.if-not-has.false) c.if-next-span.false (l.invariant.run bytes held);
    }

pub returns-clause-run : goal.returns-clause-run
returns-clause-run c = c.loop-end.invariant.run
