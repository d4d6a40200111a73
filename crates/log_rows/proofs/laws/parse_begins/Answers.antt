use Rattle.log_rows.proofs.Parses.{parse_begins}
use Rattle.log_rows.proofs.laws.parse_begins.Goals as goal

pub returns : goal.returns
returns c = parse_begins
