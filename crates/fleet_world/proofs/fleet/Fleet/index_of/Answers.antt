use Rattle.std.proofs.Common.{◌∙◌, ap}
use Rattle.fleet_world.specs.WorldView.{Fleet}
use Rattle.fleet_world.proofs.Lookups.{index_of_name, found_within}
use Rattle.fleet_world.proofs.fleet.Fleet.index_of.Goals as goal

pub returns-clause-found : goal.returns-clause-found
returns-clause-found c = λ nodes f. index_of_name nodes _ _ _ f (c.deref.ensures.value ∙ ap (λ (z : Fleet). z.nodes) c.self.view_is) c.args.name c.first_called.ensures.found

pub returns-clause-within : goal.returns-clause-within
returns-clause-within c = found_within _ _ _ (c.deref.ensures.value ∙ ap (λ (z : Fleet). z.nodes) c.self.view_is) c.first_called.ensures.within
