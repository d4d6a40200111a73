use Rattle.fleet_invariants.proofs.Quiet.{quiet_authentic}
use Rattle.fleet_safety.proofs.Plays as plays
use Rattle.fleet_safety.proofs.scenarios.every_quiet_scenario.Goals as goal

pub returns : goal.returns
returns c = λ key ended bytes quiet. plays.every_scenario key ended bytes (quiet_authentic key ended bytes quiet)
