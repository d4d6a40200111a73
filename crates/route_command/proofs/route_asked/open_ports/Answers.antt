use Rattle.std.proofs.Common.{◌∙◌, ◌+◌, ◌-◌, sym, ap, arith}
use Rattle.std.proofs.lemmas.List.{take_all}
use Rattle.route_command.specs.Routing.{pad}
use Rattle.route_command.proofs.Routed.{flags, next_port, open_marks}
use Rattle.route_command.proofs.route_asked.open_ports.Goals as goal

pub loop-at-preserved : goal.loop-at-preserved
loop-at-preserved c =
    let ports = c.args.ports.now in
    next_port ports c.loop-at.at (c.loop-at.at + 1 - 1) c.index-ports-at.result c.loop-at.ways c.with_port-ways.result c.loop-at.invariant (omega arith)
    c.with_port-ways.ensures (omega (arith, c.loop-at-test.true)) c.requires

pub returns : goal.returns
returns c =
    let ports = c.args.ports.now in
    c.loop-at.invariant ∙ ap (λ l. pad 8 (flags l)) (take_all c.loop-at.at ports (omega (arith, c.loop-at-test.false))) ∙ ap (pad 8) (sym (open_marks ports))
