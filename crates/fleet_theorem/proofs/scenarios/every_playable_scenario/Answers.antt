use Rattle.fleet_theorem.proofs.Completeness.{unstopped}
use Rattle.fleet_theorem.proofs.scenarios.every_playable_scenario.Goals as goal

pub returns : goal.returns
returns c = unstopped
