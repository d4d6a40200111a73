use Rattle.std.proofs.lemmas.Result.{err_from_is_err_and}
use Rattle.fleet_world.proofs.Leading.{fly_start, fly_more, fly_error, fly_end}
use Rattle.fleet_world.proofs.world.World.fly.Goals as goal

pub loop-turn-init : goal.loop-turn-init
loop-turn-init c = fly_start _ _ _ _ _

pub loop-turn-preserved : goal.loop-turn-preserved
loop-turn-preserved c = fly_more _ _ _ _ _ _ _ _ _ _ c.loop-turn-test.true c.loop-turn.invariant c.in_ok-fly_once.ensures.done

pub returns-in_err-fly_once-clause-error : goal.returns-in_err-fly_once-clause-error
returns-in_err-fly_once-clause-error c =
    let p = err_from_is_err_and c.from_residual.result c.from_residual.ensures.1 in
    rw (p.1, p.2) (fly_error _ _ _ _ _ _ _ _ _ c.loop-turn-test.true c.loop-turn.invariant c.in_err-fly_once.ensures.error)

pub returns-clause-done : goal.returns-clause-done
returns-clause-done c = λ state is. fly_end _ _ _ _ _ _ _ _ c.loop-turn-test.false c.loop-turn.invariant state is
