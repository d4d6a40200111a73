use Rattle.mav_frame.proofs.LongerParse.{incremental_begins_final}
use Rattle.mav_frame.proofs.laws.incremental_begins_final.Goals as goal

pub returns : goal.returns
returns c = incremental_begins_final
