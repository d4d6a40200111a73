use Rattle.fleet_theorem.proofs.Theorem.{main_theorem}
use Rattle.fleet_theorem.proofs.scenarios.every_scenario.Goals as goal

pub returns : goal.returns
returns c = main_theorem
