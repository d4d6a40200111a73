use Rattle.log_rows.proofs.Parses.{more_bytes_keep_rows}
use Rattle.log_rows.proofs.laws.more_bytes_keep_rows.Goals as goal

pub returns : goal.returns
returns c = more_bytes_keep_rows
