use Rattle.mav_nodes.proofs.Sendings.{service_reads_back}
use Rattle.mav_nodes.proofs.laws.service_reads_back.Goals as goal

pub returns : goal.returns
returns c = service_reads_back
