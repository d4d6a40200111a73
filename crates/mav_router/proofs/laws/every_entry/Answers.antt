use Rattle.mav_router.proofs.Deliveries.{every_entry}
use Rattle.mav_router.proofs.laws.every_entry.Goals as goal

pub returns : goal.returns
returns c = every_entry
