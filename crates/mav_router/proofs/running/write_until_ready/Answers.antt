use Rattle.mav_router.proofs.Keeping.{keeps_still, keeps_on}
use Rattle.mav_router.proofs.running.write_until_ready.Goals as goal

pub loop-init : goal.loop-init
loop-init g c = keeps_still _ _ _ c.args.part.now c.requires.ready

pub loop-preserved : goal.loop-preserved
loop-preserved g c =
    let ready = keeps_on _ _ _ c.args.part.now c.loop.part c.is_ready.new.part c.loop.invariant c.is_ready.ensures in
    let wrote = keeps_on _ _ _ c.args.part.now c.is_ready.new.part c.write_news.new.part ready c.write_news.ensures in
    keeps_on _ _ _ c.args.part.now c.write_news.new.part c.rest.new.part wrote c.rest.ensures

pub returns-then-is_ready : goal.returns-then-is_ready
returns-then-is_ready g c = keeps_on _ _ _ c.args.part.now c.loop.part c.is_ready.new.part c.loop.invariant c.is_ready.ensures
