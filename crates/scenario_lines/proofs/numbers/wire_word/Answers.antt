-- A word that four bytes don't take is none.
use Rattle.std.proofs.Common.{sym, ◌∙◌}
use Rattle.scenario_lines.proofs.WireWords.{no_word}
use Rattle.scenario_lines.proofs.numbers.wire_word.Goals as goal

pub returns-in_err-bytes : goal.returns-in_err-bytes
returns-in_err-bytes c =
    c.from_residual.ensures ∙ sym (no_word c.args.word.now c.from_hex.result c.from_hex.ensures c.in_err-bytes.ensures.value)
