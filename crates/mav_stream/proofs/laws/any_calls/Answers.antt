use Rattle.mav_stream.proofs.CallList.{any_calls}
use Rattle.mav_stream.proofs.laws.any_calls.Goals as goal

pub returns : goal.returns
returns c = any_calls
