use Rattle.log_rows.proofs.Parses.{parse_is_function}
use Rattle.log_rows.proofs.laws.parse_is_function.Goals as goal

pub returns : goal.returns
returns c = parse_is_function
