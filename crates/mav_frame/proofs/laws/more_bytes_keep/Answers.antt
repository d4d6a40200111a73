use Rattle.mav_frame.proofs.LongerParse.{more_bytes_keep}
use Rattle.mav_frame.proofs.laws.more_bytes_keep.Goals as goal

pub returns : goal.returns
returns c = more_bytes_keep
