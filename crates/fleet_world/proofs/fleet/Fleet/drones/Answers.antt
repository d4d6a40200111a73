use Rattle.fleet_world.proofs.Lookups.{drones_are}
use Rattle.fleet_world.proofs.fleet.Fleet.drones.Goals as goal

pub returns : goal.returns
returns c = λ nodes f. drones_are nodes _ _ _ _ c.self.view_is f c.deref.ensures.value c.count_drones.ensures
