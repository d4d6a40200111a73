use Rattle.fleet_invariants.proofs.Heard as heard
use Rattle.fleet_invariants.proofs.frames.every_repeated_frame.Goals as goal

pub returns : goal.returns
returns c = heard.sent_authentic
