use Rattle.mav_nodes.proofs.Sendings.{same_bytes_same_frame}
use Rattle.mav_nodes.proofs.laws.same_bytes_same_frame.Goals as goal

pub returns : goal.returns
returns c = same_bytes_same_frame
