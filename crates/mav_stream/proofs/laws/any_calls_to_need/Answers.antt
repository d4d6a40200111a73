use Rattle.mav_stream.proofs.CallList.{any_calls_to_need}
use Rattle.mav_stream.proofs.laws.any_calls_to_need.Goals as goal

pub returns : goal.returns
returns c = any_calls_to_need
