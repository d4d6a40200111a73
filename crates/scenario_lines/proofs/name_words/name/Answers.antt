-- The index of the first point splits the name.
use Rattle.std.proofs.Common.{sym, ◌∙◌}
use Rattle.scenario_lines.proofs.NameWords.{no_point, no_system, no_component, a_name}
use Rattle.scenario_lines.proofs.name_words.name.Goals as goal

pub returns-in_err-point : goal.returns-in_err-point
returns-in_err-point c = c.from_residual.ensures ∙ sym (no_point c.args.word.now (sym c.in_err-point.ensures))

pub returns-in_err-sys : goal.returns-in_err-sys
returns-in_err-sys c =
    c.from_residual-in_err-sys.ensures
    ∙ sym (no_system c.args.word.now c.in_ok-point.point (sym c.in_ok-point.ensures) (sym c.in_err-sys.ensures.exact))

pub returns-in_err-comp : goal.returns-in_err-comp
returns-in_err-comp c =
    c.from_residual-in_err-comp.ensures
    ∙ sym (no_component c.args.word.now c.in_ok-point.point c.in_ok-sys.sys (sym c.in_ok-point.ensures) (sym c.in_ok-sys.ensures.exact)
    (sym c.in_err-comp.ensures.exact))

pub returns : goal.returns
returns c =
    sym (a_name c.args.word.now c.in_ok-point.point c.in_ok-sys.sys c.in_ok-comp.comp (sym c.in_ok-point.ensures)
    (sym c.in_ok-sys.ensures.exact) (sym c.in_ok-comp.ensures.exact))
