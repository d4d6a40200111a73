use Rattle.log_rows.proofs.Parses.{rows_read_back}
use Rattle.log_rows.proofs.laws.rows_read_back.Goals as goal

pub returns : goal.returns
returns c = rows_read_back
