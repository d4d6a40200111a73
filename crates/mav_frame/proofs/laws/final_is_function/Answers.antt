use Rattle.mav_frame.proofs.ParsedByFunction.{final_is_function}
use Rattle.mav_frame.proofs.laws.final_is_function.Goals as goal

pub returns : goal.returns
returns c = final_is_function
