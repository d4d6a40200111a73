use Rattle.fleet_command_laws.proofs.Since as since
use Rattle.fleet_command_laws.proofs.scenarios.every_history.Goals as goal

pub returns : goal.returns
returns c = since.every_history
