use Rattle.std.proofs.Common.{◌≡◌, drop}
use Rattle.route_command.specs.Routes.{has_turns}
use Rattle.route_command.proofs.port_lines.has_turns.Given as goal

abbrev pub invariant-loop-at : goal.invariant-loop-at
invariant-loop-at l = has_turns (drop l.at l.ends) ≡ has_turns l.ends
