use Rattle.command_line.proofs.Agreement.{written_once}
use Rattle.command_line.proofs.laws.at_most_one_line.Goals as goal

pub returns : goal.returns
returns c = λ built words asked other one two. written_once words asked other one.written two.written
