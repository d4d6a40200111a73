use Rattle.std.proofs.Common.{ℕ, Option, subst}
use Rattle.fleet_world.specs.Flowing.{IsTaken}
use Rattle.std.proofs.lemmas.Result.{err_from_is_err_and}
use Rattle.fleet_world.proofs.Leading.{flow_start, flow_more, flow_error, flow_none, flow_end}
use Rattle.fleet_world.proofs.world.World.flow.Goals as goal

pub loop-turn-init : goal.loop-turn-init
loop-turn-init c = flow_start _ _ _ _

pub loop-turn-preserved : goal.loop-turn-preserved
loop-turn-preserved c = flow_more _ _ _ _ _ _ _ _ _ _ _ c.loop-turn-test.true c.in-Some.ensures c.loop-turn.invariant c.in_ok-give_to_all.ensures.done

pub returns-in_default-clause-done : goal.returns-in_default-clause-done
returns-in_default-clause-done c = λ state is.
    flow_none _ _ _ _ _ _ _ _ c.loop-turn-test.true
    (subst (λ (o : Option ℕ). IsTaken c.loop-turn.self o c.next_frame.new.self) c.in_default.is c.next_frame.ensures) c.loop-turn.invariant state is

pub returns-in_err-give_to_all-clause-error : goal.returns-in_err-give_to_all-clause-error
returns-in_err-give_to_all-clause-error c =
    let p = err_from_is_err_and c.from_residual.result c.from_residual.ensures.1 in
    rw (p.1, p.2) (flow_error _ _ _ _ _ _ _ _ _ _ c.loop-turn-test.true c.in-Some.ensures c.loop-turn.invariant c.in_err-give_to_all.ensures.error)

pub returns-clause-done : goal.returns-clause-done
returns-clause-done c = λ state is. flow_end _ _ _ _ _ _ _ c.loop-turn-test.false c.loop-turn.invariant state is
