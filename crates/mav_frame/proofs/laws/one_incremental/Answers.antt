use Rattle.mav_frame.proofs.OneParse.{one_incremental}
use Rattle.mav_frame.proofs.laws.one_incremental.Goals as goal

pub returns : goal.returns
returns c = one_incremental
