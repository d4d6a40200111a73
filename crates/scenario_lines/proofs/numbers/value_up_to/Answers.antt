-- Each early end is one more digit that leads past the bound.
use Rattle.std.proofs.Common.{◌∙◌, arith}
use Rattle.scenario_lines.proofs.Digits.{too_great}
use Rattle.scenario_lines.proofs.numbers.value_up_to.Goals as goal

pub returns-in_err-checked_mul-clause-exact : goal.returns-in_err-checked_mul-clause-exact
returns-in_err-checked_mul-clause-exact c =
    c.from_residual.ensures
    ∙ too_great _ c.loop-digit.value c.args.high c.loop-digit.digit-index c.loop-digit.invariant.reached (omega arith)
    (omega (arith, c.in_err-checked_mul.ensures, c.ranges.high.fits))

pub returns-in_err-value-clause-exact : goal.returns-in_err-value-clause-exact
returns-in_err-value-clause-exact c =
    c.from_residual-in_err-value.ensures
    ∙ too_great _ c.loop-digit.value c.args.high c.loop-digit.digit-index c.loop-digit.invariant.reached (omega arith)
    (omega (arith, c.in_err-value.ensures, c.in_ok-checked_mul.ensures, c.saturating_sub.ensures, c.from.ensures, c.ranges.high.fits))

pub returns-then-value-high-clause-exact : goal.returns-then-value-high-clause-exact
returns-then-value-high-clause-exact c =
    too_great _ c.loop-digit.value c.args.high c.loop-digit.digit-index c.loop-digit.invariant.reached (omega arith)
    (omega (arith, c.in_ok-value.ensures, c.in_ok-checked_mul.ensures, c.saturating_sub.ensures, c.from.ensures))
