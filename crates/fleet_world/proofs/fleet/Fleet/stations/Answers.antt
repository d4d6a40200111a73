use Rattle.std.proofs.Common.{◌∙◌}
use Rattle.fleet_world.proofs.Lookups.{stations_are}
use Rattle.fleet_world.proofs.fleet.Fleet.stations.Goals as goal

pub returns : goal.returns
returns c = λ nodes f. c.saturating_sub.ensures ∙ stations_are nodes _ _ _ _ c.self.view_is f (c.len.ensures ∙ c.self.inside.nodes.ok.0) (c.drones.ensures nodes f)
