use Rattle.mav_ftp.proofs.FilesRanges.{none_at_first, after_in_range, reply_in_range}
use Rattle.mav_ftp.proofs.laws.every_files_state.Goals as goal

pub returns-clause-new : goal.returns-clause-new
returns-clause-new c = none_at_first

pub returns-clause-step : goal.returns-clause-step
returns-clause-step c st h from payload p = after_in_range st from payload h p

pub returns-clause-reply : goal.returns-clause-reply
returns-clause-reply c st h from payload p = reply_in_range st from payload h p
