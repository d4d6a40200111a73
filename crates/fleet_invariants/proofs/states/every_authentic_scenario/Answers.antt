use Rattle.fleet_invariants.proofs.Unspent as unspent
use Rattle.fleet_invariants.proofs.states.every_authentic_scenario.Goals as goal

pub returns : goal.returns
returns c = unspent.none_spent
