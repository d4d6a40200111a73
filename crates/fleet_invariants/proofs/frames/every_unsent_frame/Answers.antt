use Rattle.fleet_invariants.proofs.Heard as heard
use Rattle.fleet_invariants.proofs.frames.every_unsent_frame.Goals as goal

pub returns : goal.returns
returns c = heard.unsent_foreign
