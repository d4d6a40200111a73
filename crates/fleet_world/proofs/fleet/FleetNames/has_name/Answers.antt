use Rattle.std.proofs.Common.{ap, ◌∙◌}
use Rattle.scenario_lines.specs.LineContext.{is_called}
use Rattle.fleet_world.specs.WorldView.{Fleet}
use Rattle.fleet_world.proofs.Lookups.{any_named}
use Rattle.fleet_world.proofs.fleet.FleetNames.has_name.Goals as goal

pub returns : goal.returns
returns c = any_named (is_called c.args.name) _ _ _ _ (c.deref.ensures.value ∙ ap (λ (z : Fleet). z.nodes) c.self.view_is) c.first_called.ensures.found c.is_some.ensures
