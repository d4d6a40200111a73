use Rattle.std.proofs.Common.{◌∙◌}
use Rattle.mav_router.proofs.TurnSteps.{all_starts}
use Rattle.mav_router.proofs.waiting.await_port.Goals as goal

pub loop-look-preserved : goal.loop-look-preserved
loop-look-preserved g c =
    let i = c.loop-look.invariant in
    record {
      rules = c.pass.ensures.rules ∙ i.rules;
      so_far = λ rules first run.
          c.rest_unless.ensures.kept _ _ rules first (c.in-Ok.ensures.so_far rules first (c.is_ready_at.ensures.kept _ _ rules first (i.so_far rules first run)));
      turns = λ least k within had. c.in-Ok.ensures.turns least k within (i.turns least k within had);
    }

pub returns-then-is_ready_at-clause-so_far : goal.returns-then-is_ready_at-clause-so_far
returns-then-is_ready_at-clause-so_far g c = λ rules first run.
    c.is_ready_at.ensures.kept _ _ rules first (c.loop-look.invariant.so_far rules first run)

pub returns-in-Err-clause-rules : goal.returns-in-Err-clause-rules
returns-in-Err-clause-rules g c = c.pass.ensures.rules ∙ c.loop-look.invariant.rules

pub returns-in-Err-clause-stopped : goal.returns-in-Err-clause-stopped
returns-in-Err-clause-stopped g c = λ small start rules first run.
    c.in-Err.ensures.stopped small (all_starts c.args.most c.args.lanes.now c.loop-look.lanes c.loop-look.invariant.turns start) rules first
    (c.is_ready_at.ensures.kept _ _ rules first (c.loop-look.invariant.so_far rules first run))
