use Rattle.mav_nodes.proofs.Sendings.{parses_alone}
use Rattle.mav_nodes.proofs.laws.parses_alone.Goals as goal

pub returns : goal.returns
returns c = parses_alone
