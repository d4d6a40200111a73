use Rattle.std.proofs.Common.{◌≡◌, take}
use Rattle.route_command.specs.Routing.{pad}
use Rattle.route_command.proofs.Routed.{flags}
use Rattle.route_command.proofs.route_asked.open_ports.Given as goal

-- the first ports that are open
abbrev pub invariant-loop-at : goal.invariant-loop-at
invariant-loop-at l = l.ways ≡ pad 8 (flags (take l.at l.ports))
