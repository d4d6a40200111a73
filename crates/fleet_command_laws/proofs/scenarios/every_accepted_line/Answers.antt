use Rattle.fleet_command_laws.proofs.Plays as plays
use Rattle.fleet_command_laws.proofs.scenarios.every_accepted_line.Goals as goal

pub returns : goal.returns
returns c = plays.every_begins
