use Rattle.mav_ftp.proofs.ReadBack.{numbers_back, data_back}
use Rattle.mav_ftp.proofs.laws.every_payload.Goals as goal

pub returns-clause-numbers : goal.returns-clause-numbers
returns-clause-numbers c = numbers_back

pub returns-clause-bytes : goal.returns-clause-bytes
returns-clause-bytes c = data_back
