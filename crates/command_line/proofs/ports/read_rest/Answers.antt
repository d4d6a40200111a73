use Rattle.std.proofs.Common.{◌∙◌, sym}
use Rattle.command_line.specs.PortTexts.{target_text}
use Rattle.command_line.proofs.PortWords.{rest_read}
use Rattle.command_line.proofs.ports.read_rest.Goals as goal

pub returns : goal.returns
returns c =
    let is = c.in-Some.ensures in
    rest_read target_text c.args.kind.now c.args.rest.now c.in-Some.begin.now c.in-Some.end.now c.read_parts.result is.0 is.1 is.2
    (sym c.is_part.ensures ∙ c.if-not-is_part.false) c.read_parts.ensures
