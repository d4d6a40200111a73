use Rattle.mav_router.proofs.Keeping.{keeps_still, keeps_on}
use Rattle.mav_router.proofs.running.write_part.Goals as goal

pub loop-init : goal.loop-init
loop-init g c = keeps_still _ _ _ c.args.part.now c.requires.ready

pub loop-preserved : goal.loop-preserved
loop-preserved g c = keeps_on _ _ _ c.args.part.now c.loop.part c.write_some.new.part c.loop.invariant c.write_some.ensures

pub returns-then-write_some : goal.returns-then-write_some
returns-then-write_some g c = keeps_on _ _ _ c.args.part.now c.loop.part c.write_some.new.part c.loop.invariant c.write_some.ensures
