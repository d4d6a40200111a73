use Rattle.std.proofs.Common.{◌≤◌, ◌∙◌, arith, length, ap, refl}
use Rattle.std.proofs.lemmas.Result.{err_from_is_err_and}
use Rattle.scenario_lines.specs.FileLines.{without_cr}
use Rattle.command_inputs.proofs.LineSteps.{line_many_halts, line_halts, line_fed}
use Rattle.command_inputs.proofs.feeding.end_line.Goals as goal

pub returns-then-held-gt-MOST_LINES : goal.returns-then-held-gt-MOST_LINES
returns-then-held-gt-MOST_LINES g c = line_many_halts g.T.LineTaker.says c.args.taker.now c.args.held.now c.if-held-gt-MOST_LINES.true

pub returns-in_err-hand : goal.returns-in_err-hand
returns-in_err-hand g c =
    let e = err_from_is_err_and c.from_residual.result c.from_residual.ensures.1 in
    let held = c.args.held.now in
    let short : length held.bytes.items ≤ 4096 = omega (arith, held.short) in
    rw (e.1, e.2)
    (line_halts g.T.LineTaker.says c.args.taker.now held c.without_cr.result.now (c.without_cr.ensures ∙ ap without_cr c.deref.ensures.value) c.if-held-gt-MOST_LINES.false short c.in_err-hand.field-0.0 c.in_err-hand.ensures)

pub returns : goal.returns
returns g c =
    let held = c.args.held.now in
    let short : length held.bytes.items ≤ 4096 = omega (arith, held.short) in
    line_fed g.T.LineTaker.says c.args.taker.now held c.without_cr.result.now (c.without_cr.ensures ∙ ap without_cr c.deref.ensures.value) c.if-held-gt-MOST_LINES.false short c.hand.new.taker _ c.in_ok-hand.ensures refl c.clear.ensures.items
