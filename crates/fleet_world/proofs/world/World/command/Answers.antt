use Rattle.fleet_world.specs.Steps.{station_line}
use Rattle.fleet_world.proofs.Ordering.{command_is, asked_outcome, asked_error}
use Rattle.fleet_world.proofs.world.World.command.Goals as goal

pub returns-clause-done : goal.returns-clause-done
returns-clause-done c =
    asked_outcome _ c.args.self.now _ _ _ _ _ (λ state. command_is (station_line state) c.args.station c.args.drone _ c.args.number c.args.word c.stream-drone.ensures) c.order.ensures.done

pub returns-clause-error : goal.returns-clause-error
returns-clause-error c =
    asked_error _ c.args.self.now _ _ (λ state. command_is (station_line state) c.args.station c.args.drone _ c.args.number c.args.word c.stream-drone.ensures) c.order.ensures.error
