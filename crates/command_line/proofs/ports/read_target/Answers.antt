use Rattle.command_line.specs.PortTexts.{target_text}
use Rattle.command_line.proofs.PortWords.{port_read}
use Rattle.command_line.proofs.ports.read_target.Goals as goal

pub returns-in-Some : goal.returns-in-Some
returns-in-Some c =
    let is = c.in-Some.ensures in
    port_read target_text c.args.word.now c.in-Some.kind.now c.in-Some.rest.now c.read_rest.result is.0 is.1 is.2 c.read_rest.ensures
