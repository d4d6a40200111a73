use Rattle.mav_frame.proofs.Reasons.{lacks, incomplete}
use Rattle.mav_frame.proofs.laws.incomplete_is_more.Goals as goal

pub returns : goal.returns
returns c extras old b = ((λ h. lacks extras old b h), (λ h. incomplete extras old b h.0 h.1))
