use Rattle.mav_frame.proofs.LongerParse.{final_ends}
use Rattle.mav_frame.proofs.laws.final_ends.Goals as goal

pub returns : goal.returns
returns c = final_ends
