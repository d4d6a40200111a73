use Rattle.fleet_world.specs.Steps.{location_at}
use Rattle.fleet_world.proofs.FleetCalls.{value_found}
use Rattle.fleet_world.proofs.fleet.Fleet.location_at.Goals as goal

pub returns : goal.returns
returns c = value_found location_at _ _ _ _ _ c.self.view_is c.requires c.index.ensures c.location.ensures
