use Rattle.fleet_command_laws.proofs.Once as once
use Rattle.fleet_command_laws.proofs.scenarios.every_command_once.Goals as goal

pub returns : goal.returns
returns c = once.every_once
