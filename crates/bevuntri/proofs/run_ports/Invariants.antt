use Rattle.std.proofs.Common.{◌≡◌, length}
use Rattle.bevuntri.proofs.run_ports.Given as goal

-- a link for each port so far
abbrev pub invariant-loop-port : goal.invariant-loop-port
invariant-loop-port g l = length l.ports.items ≡ l.port-index
