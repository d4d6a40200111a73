use Rattle.std.proofs.Common.{◌≡◌, ◌+◌, ◌++◌, drop}
use Rattle.route_command.specs.Texts.{port_lines}
use Rattle.route_command.proofs.port_lines.put_ends.Given as goal

abbrev pub invariant-loop-at : goal.invariant-loop-at
invariant-loop-at l = l.lines.items ++ port_lines (l.at + 1) (drop l.at l.ends) ≡ l.initial.lines.items ++ port_lines 1 l.ends
