use Rattle.fleet_invariants.proofs.Gives as gives
use Rattle.fleet_invariants.proofs.steps.every_giving.Goals as goal

pub returns : goal.returns
returns c = gives.sound_gives
