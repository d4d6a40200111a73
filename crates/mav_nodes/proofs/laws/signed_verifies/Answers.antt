use Rattle.mav_nodes.proofs.Sendings.{signed_verifies}
use Rattle.mav_nodes.proofs.laws.signed_verifies.Goals as goal

pub returns : goal.returns
returns c = signed_verifies
