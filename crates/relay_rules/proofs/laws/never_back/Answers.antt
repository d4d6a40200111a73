use Rattle.relay_rules.proofs.RouteLaws.{never_back}
use Rattle.relay_rules.proofs.laws.never_back.Goals as goal

pub returns : goal.returns
returns c = never_back
