use Rattle.relay_rules.proofs.RouteLaws.{goes_as_routed, learns_as_routed}
use Rattle.relay_rules.proofs.laws.as_routed.Goals as goal

pub returns-clause-goes : goal.returns-clause-goes
returns-clause-goes c = goes_as_routed

pub returns-clause-learns : goal.returns-clause-learns
returns-clause-learns c = learns_as_routed
