use Rattle.mav_ftp.proofs.FilesRanges.{no_such_name}
use Rattle.mav_ftp.proofs.laws.every_name.Goals as goal

pub returns : goal.returns
returns c = no_such_name
