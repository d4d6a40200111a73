use Rattle.mav_router.proofs.Keeping.{keeps_still, keeps_on}
use Rattle.mav_router.proofs.running.write_on.Goals as goal

pub loop-init : goal.loop-init
loop-init g c = keeps_still _ _ _ c.args.part.now c.requires.ready

pub loop-preserved : goal.loop-preserved
loop-preserved g c = keeps_on _ _ _ c.args.part.now c.loop.part c.write_news.new.part c.loop.invariant c.write_news.ensures

pub returns-then-is_last : goal.returns-then-is_last
returns-then-is_last g c = keeps_on _ _ _ c.args.part.now c.loop.part c.write_news.new.part c.loop.invariant c.write_news.ensures
