use Rattle.fleet_world.proofs.NewsReports.{reported_start, told_more}
use Rattle.fleet_world.proofs.events.report_all.Goals as goal

pub loop-piece-init : goal.loop-piece-init
loop-piece-init c = reported_start _ _ _ _

pub loop-piece-preserved : goal.loop-piece-preserved
loop-piece-preserved c =
    told_more _ _ _ _ _ _ _ _ _ _ _ c.loop-piece-test.true c.piece-item.is c.loop-piece.invariant c.in_ok-report_one.ensures
