-- What the words ask for is what was read of them.
use Rattle.std.proofs.Common.{◌≡◌, ℕ, List}
use Rattle.command_line.specs.Built.{built}
use Rattle.command_line.specs.Grammar.{Asked, Asks}
use Rattle.command_line.proofs.Agreement.{written_once}

pub same_asked : (words : List (List ℕ)) (asked other : Asked) → Asks built words asked → Asks built words other → asked ≡ other
same_asked words asked other one two = written_once words asked other one.written two.written
