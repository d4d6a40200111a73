use Rattle.fleet_safety.proofs.Caused as caused
use Rattle.fleet_safety.proofs.scenarios.every_tick.Goals as goal

pub returns : goal.returns
returns c = caused.every_tick
