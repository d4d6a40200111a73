use Rattle.fleet_invariants.proofs.Calls as calls
use Rattle.fleet_invariants.proofs.steps.every_call.Goals as goal

pub returns : goal.returns
returns c = calls.sound_does
