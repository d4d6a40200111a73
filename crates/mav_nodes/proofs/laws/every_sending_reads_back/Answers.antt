use Rattle.mav_nodes.proofs.Sendings.{every_sending_reads_back}
use Rattle.mav_nodes.proofs.laws.every_sending_reads_back.Goals as goal

pub returns : goal.returns
returns c = every_sending_reads_back
