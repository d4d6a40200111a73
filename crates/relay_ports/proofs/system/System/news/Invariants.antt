use Rattle.std.proofs.Common.{◌≡◌}
use Rattle.relay_ports.proofs.system.System.news.Given as goal

abbrev pub invariant-loop-number : goal.invariant-loop-number
invariant-loop-number l = l.wires ≡ l.fn.wires
