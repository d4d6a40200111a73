use Rattle.relay_core.proofs.Histories.{once}
use Rattle.relay_core.proofs.laws.numbers_once.Goals as goal

pub returns : goal.returns
returns c = once
