use Rattle.mav_nodes.proofs.Sendings.{plan_reads_back}
use Rattle.mav_nodes.proofs.laws.plan_reads_back.Goals as goal

pub returns : goal.returns
returns c = plan_reads_back
