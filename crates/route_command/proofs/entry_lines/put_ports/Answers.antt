use Rattle.std.proofs.Common.{ℕ, take, ap, sym, ◌∙◌, arith}
use Rattle.route_command.proofs.PortSteps.{dash_put, ports_put}
use Rattle.route_command.proofs.entry_lines.put_ports.Goals as goal

pub returns-then-end-at-clause-text : goal.returns-then-end-at-clause-text
returns-then-end-at-clause-text c =
    let put = c.put_further_ports-end in
    let whole = ap (λ (end : ℕ). take end put.new.line) (sym c.if-end-at.true) ∙ put.ensures.text in
    dash_put c.args.ways c.args.at c.args.line.now put.new.line (take c.put_part.result c.put_part.new.chunk) (omega (arith, c.told-line, c.requires)) (omega (arith, c.requires, put.array_long)) whole c.put_part.ensures.text

pub returns-clause-text : goal.returns-clause-text
returns-clause-text c =
    let put = c.put_further_ports-end in
    ports_put c.args.ways c.args.at put.result c.args.line.now put.new.line (omega (arith, c.told-line, c.requires)) (omega (arith, put.ensures.index, c.if-end-at.false)) (omega (arith, put.ensures.index, c.requires, put.array_long)) put.ensures.text
