use Rattle.node_reports.specs.ParamLists.{params_of}
use Rattle.fleet_world.proofs.FleetCalls.{value_found}
use Rattle.fleet_world.proofs.fleet.Fleet.params_at.Goals as goal

pub returns : goal.returns
returns c = value_found params_of _ _ _ _ _ c.self.view_is c.requires c.index.ensures c.params.ensures
