-- By the first word.
use Rattle.scenario_lines.proofs.Permitted.{read_is_permitted}
use Rattle.scenario_lines.proofs.laws.lines_read_are_permitted.Goals as goal

pub returns : goal.returns
returns c = read_is_permitted
