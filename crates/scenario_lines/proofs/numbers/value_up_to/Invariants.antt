-- The digits that are left lead from the value so far to the whole one.
use Rattle.std.proofs.Common.{◌≡◌, ◌≤◌, drop}
use Rattle.scenario_lines.specs.Words.{digits_onto, digits_value}
use Rattle.scenario_lines.proofs.numbers.value_up_to.Given as goal

abbrev pub invariant-loop-digit : goal.invariant-loop-digit
invariant-loop-digit l =
    record { reached : digits_onto l.value (drop l.digit-index l.digits) ≡ digits_value l.digits; low : l.value ≤ l.high }
