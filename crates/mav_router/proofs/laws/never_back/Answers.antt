use Rattle.mav_router.proofs.Deliveries.{never_back}
use Rattle.mav_router.proofs.laws.never_back.Goals as goal

pub returns : goal.returns
returns c = never_back
