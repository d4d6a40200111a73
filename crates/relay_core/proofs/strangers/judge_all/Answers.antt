use Rattle.std.proofs.Common.{◌∙◌, refl, arith}
use Rattle.relay_core.proofs.strangers.judge_all.Goals as goal

pub loop-init : goal.loop-init
loop-init g c = (λ start bytes run scanners queues first j. j, refl, c.requires.live, omega arith)

pub loop-preserved : goal.loop-preserved
loop-preserved g c =
    let inv = c.loop.invariant in
    let e = c.in_ok-judge_next.ensures in (
      λ start bytes run scanners queues first j. e.judges start bytes run scanners queues first (inv.0 start bytes run scanners queues first j),
      e.links ∙ inv.1,
      e.live ∙ inv.2,
      omega (arith, e.least, inv.3),
    )
