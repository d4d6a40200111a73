use Rattle.log_rows.proofs.Parses.{begins_by_function}
use Rattle.log_rows.proofs.laws.begins_by_function.Goals as goal

pub returns : goal.returns
returns c = begins_by_function
