use Rattle.live_node.proofs.Tellings.{tells_start, tells_more}
use Rattle.live_node.proofs.run_log.RunLog.tell_all.Goals as goal

pub loop-piece-init : goal.loop-piece-init
loop-piece-init c = tells_start _ _ _

pub loop-piece-preserved : goal.loop-piece-preserved
loop-piece-preserved c =
    tells_more _ _ _ _ _ _ _ _ _ _ c.loop-piece-test.true c.piece-item.is c.loop-piece.invariant c.in_ok-tell_one.ensures
