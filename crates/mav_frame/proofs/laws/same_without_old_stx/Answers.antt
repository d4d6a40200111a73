use Rattle.mav_frame.proofs.Versions.{same_without_old_stx}
use Rattle.mav_frame.proofs.laws.same_without_old_stx.Goals as goal

pub returns : goal.returns
returns c = same_without_old_stx
