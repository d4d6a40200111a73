use Rattle.fleet_safety.proofs.Plays as plays
use Rattle.fleet_safety.proofs.scenarios.every_report.Goals as goal

pub returns : goal.returns
returns c = plays.every_report
