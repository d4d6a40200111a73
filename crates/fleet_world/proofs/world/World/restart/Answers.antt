use Rattle.std.proofs.Common.{refl}
use Rattle.fleet_world.proofs.Restarting.{restart_done, restart_error, restart_none}
use Rattle.fleet_world.proofs.world.World.restart.Goals as goal

pub returns-in-Some-clause-done : goal.returns-in-Some-clause-done
returns-in-Some-clause-done c =
    restart_done _ c.args.self.now _ c.args.drone c.self.view_is c.if-self-ge-MOST_RESTARTS.false c.restart_at.result _ _ _ c.in-Some.ensures.found c.restart_at.ensures.done

pub returns-in-Some-clause-error : goal.returns-in-Some-clause-error
returns-in-Some-clause-error c =
    restart_error _ c.args.self.now c.args.self.now c.args.drone c.self.view_is c.if-self-ge-MOST_RESTARTS.false c.restart_at.result _ c.in-Some.ensures.found c.restart_at.ensures.error

pub returns-in-None-clause-done : goal.returns-in-None-clause-done
returns-in-None-clause-done c =
    restart_none _ c.args.self.now _ c.args.drone c.self.view_is c.if-self-ge-MOST_RESTARTS.false _ c.in-None.ensures.found refl
