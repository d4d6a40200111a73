use Rattle.mav_frame.proofs.LongerParse.{final_goes_on}
use Rattle.mav_frame.proofs.laws.final_goes_on.Goals as goal

pub returns : goal.returns
returns c = final_goes_on
