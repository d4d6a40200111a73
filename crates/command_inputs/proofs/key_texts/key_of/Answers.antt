use Rattle.std.proofs.Common.{sym, ◌∙◌}
use Rattle.command_inputs.proofs.NoKeys.{too_short}
use Rattle.command_inputs.proofs.key_texts.key_of.Goals as goal

pub returns-in_err-digits : goal.returns-in_err-digits
returns-in_err-digits c = c.from_residual.ensures ∙ sym (too_short c.args.text.now c.in_err-digits.ensures.cases)
