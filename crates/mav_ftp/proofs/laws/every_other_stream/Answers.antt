use Rattle.mav_ftp.proofs.OtherStreams.{left_alone}
use Rattle.mav_ftp.proofs.laws.every_other_stream.Goals as goal

pub returns : goal.returns
returns c = left_alone
