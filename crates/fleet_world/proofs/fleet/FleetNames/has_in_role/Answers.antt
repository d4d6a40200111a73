use Rattle.std.proofs.Common.{ap, ◌∙◌}
use Rattle.scenario_lines.specs.LineContext.{is_in_role}
use Rattle.fleet_world.specs.WorldView.{Fleet}
use Rattle.fleet_world.proofs.Lookups.{any_named}
use Rattle.fleet_world.proofs.fleet.FleetNames.has_in_role.Goals as goal

pub returns : goal.returns
returns c = any_named (is_in_role c.args.role c.args.name) _ _ _ _ (c.deref.ensures.value ∙ ap (λ (z : Fleet). z.nodes) c.self.view_is) c.first_in_role.ensures.found c.is_some.ensures
