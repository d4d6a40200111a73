use Rattle.mav_nodes.proofs.Sendings.{every_frame_reads_alone}
use Rattle.mav_nodes.proofs.laws.every_frame_reads_alone.Goals as goal

pub returns : goal.returns
returns c = every_frame_reads_alone
