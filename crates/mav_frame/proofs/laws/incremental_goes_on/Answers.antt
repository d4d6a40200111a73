use Rattle.mav_frame.proofs.LongerParse.{incremental_goes_on}
use Rattle.mav_frame.proofs.laws.incremental_goes_on.Goals as goal

pub returns : goal.returns
returns c = incremental_goes_on
