use Rattle.fleet_invariants.proofs.Heard as heard
use Rattle.fleet_invariants.proofs.frames.every_sent_frame.Goals as goal

pub returns-clause-heard : goal.returns-clause-heard
returns-clause-heard c = heard.heard_is

pub returns-clause-known : goal.returns-clause-known
returns-clause-known c = heard.sent_known
