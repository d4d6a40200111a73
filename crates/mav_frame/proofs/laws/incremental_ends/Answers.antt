use Rattle.mav_frame.proofs.LongerParse.{incremental_ends}
use Rattle.mav_frame.proofs.laws.incremental_ends.Goals as goal

pub returns : goal.returns
returns c = incremental_ends
