use Rattle.mav_frame.proofs.OneParse.{one_final}
use Rattle.mav_frame.proofs.laws.one_final.Goals as goal

pub returns : goal.returns
returns c = one_final
