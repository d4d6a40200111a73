use Rattle.fleet_world.specs.Steps.{station_line}
use Rattle.fleet_world.proofs.Ordering.{list_is, asked_outcome, asked_error}
use Rattle.fleet_world.proofs.world.World.list_params.Goals as goal

pub returns-clause-done : goal.returns-clause-done
returns-clause-done c =
    asked_outcome _ c.args.self.now _ _ _ _ _ (λ state. list_is (station_line state) c.args.station c.args.drone _ c.stream-drone.ensures) c.order.ensures.done

pub returns-clause-error : goal.returns-clause-error
returns-clause-error c =
    asked_error _ c.args.self.now _ _ (λ state. list_is (station_line state) c.args.station c.args.drone _ c.stream-drone.ensures) c.order.ensures.error
