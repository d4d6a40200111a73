use Rattle.relay_rules.proofs.RouteLaws.{never_twice}
use Rattle.relay_rules.proofs.laws.never_twice.Goals as goal

pub returns : goal.returns
returns c = never_twice
