use Rattle.fleet_invariants.proofs.Quiet as quiet
use Rattle.fleet_invariants.proofs.states.every_quiet_scenario.Goals as goal

pub returns : goal.returns
returns c = quiet.quiet_authentic
