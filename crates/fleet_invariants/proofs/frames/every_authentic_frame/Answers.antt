use Rattle.fleet_invariants.proofs.Heard as heard
use Rattle.fleet_invariants.proofs.frames.every_authentic_frame.Goals as goal

pub returns-clause-known : goal.returns-clause-known
returns-clause-known c = heard.authentic_known

pub returns-clause-authentic : goal.returns-clause-authentic
returns-clause-authentic c = heard.known_authentic
