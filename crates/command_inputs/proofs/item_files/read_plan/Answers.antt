use Rattle.std.proofs.lemmas.Result.{err_from_is_err_and}
use Rattle.mav_ports.specs.Gets.{IsSpent}
use Rattle.command_inputs.proofs.ItemEndings.{holds_items, plan_halts}
use Rattle.command_inputs.proofs.FewItems.{holds_few}
use Rattle.command_inputs.proofs.item_files.read_plan.Goals as goal

pub returns-in_err-read_lines-clause-halts : goal.returns-in_err-read_lines-clause-halts
returns-in_err-read_lines-clause-halts g c =
    let e = err_from_is_err_and c.from_residual.result c.from_residual.ensures.1 in
    rw (e.1, e.2)
    (λ refusals sent.
    plan_halts c.new-lines.result (g.S.Source.has_ended c.read_lines.new.input × IsSpent (g.S.Source.left c.read_lines.new.input)) (g.S.Source.faults c.args.input.now) (g.S.Source.faults c.read_lines.new.input) (g.S.Source.idles c.args.input.now) (g.S.Source.idles c.read_lines.new.input) refusals
    (g.S.Source.left c.args.input.now) (g.S.Source.left c.read_lines.new.input) sent c.in_err-read_lines.field-0.0 c.new-lines.ensures c.in_err-read_lines.ensures)

pub returns-clause-holds : goal.returns-clause-holds
returns-clause-holds g c =
    rw c.into_plan.ensures
    (holds_items c.new-lines.result c.read_lines.new.taker (g.S.Source.has_ended c.read_lines.new.input × IsSpent (g.S.Source.left c.read_lines.new.input)) (g.S.Source.left c.args.input.now) (g.S.Source.left c.read_lines.new.input) c.new-lines.ensures c.in_ok-read_lines.ensures)

pub returns-clause-few : goal.returns-clause-few
returns-clause-few g c =
    rw c.into_plan.ensures
    (holds_few (g.S.Source.has_ended c.read_lines.new.input × IsSpent (g.S.Source.left c.read_lines.new.input)) (g.S.Source.left c.args.input.now) (g.S.Source.left c.read_lines.new.input) c.read_lines.new.taker
    (holds_items c.new-lines.result c.read_lines.new.taker (g.S.Source.has_ended c.read_lines.new.input × IsSpent (g.S.Source.left c.read_lines.new.input)) (g.S.Source.left c.args.input.now) (g.S.Source.left c.read_lines.new.input) c.new-lines.ensures c.in_ok-read_lines.ensures))
