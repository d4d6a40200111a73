use Rattle.mav_ftp.proofs.Uploads.{hidden, stored}
use Rattle.mav_ftp.proofs.laws.every_stored_file.Goals as goal

pub returns-clause-hidden : goal.returns-clause-hidden
returns-clause-hidden c = hidden

pub returns-clause-stored : goal.returns-clause-stored
returns-clause-stored c = stored
