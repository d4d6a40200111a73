use Rattle.std.proofs.Common.{◌∙◌, sym}
use Rattle.command_line.proofs.WireWords.{wire_read}
use Rattle.command_line.proofs.operations.wire.Goals as goal

pub returns : goal.returns
returns c = c.ok.ensures.value ∙ wire_read c.args.word.now c.from_str_radix.result (sym c.is_wire.ensures ∙ c.if-not-is_wire.false) c.from_str_radix.ensures.value
