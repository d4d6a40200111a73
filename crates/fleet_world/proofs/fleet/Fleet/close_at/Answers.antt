use Rattle.fleet_world.proofs.Closings.{closed_at}
use Rattle.fleet_world.proofs.fleet.Fleet.close_at.Goals as goal

pub returns : goal.returns
returns c = closed_at _ _ _ _ _ _ _ c.self.view_is c.requires c.index.ensures c.close_node.ensures
