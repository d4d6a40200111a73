use Rattle.command_line.specs.PortTexts.{is_port, port_text}
use Rattle.command_line.proofs.PortWords.{marked_read, unmarked_read}
use Rattle.command_line.proofs.ports.read_port.Goals as goal

pub returns-in_ok-read_target-in-Some : goal.returns-in_ok-read_target-in-Some
returns-in_ok-read_target-in-Some c =
    let is = c.in-Some.ensures in
    marked_read port_text c.args.word.now c.in-Some.rest.now c.port_at.result is.0 is.1
    (c.port_at.ensures.read (is_port c.in-Some.rest.now) c.in-Some.rest.now c.in_ok-read_target-in-Some.ensures)

pub returns-in_ok-read_target-in-None : goal.returns-in_ok-read_target-in-None
returns-in_ok-read_target-in-None c =
    unmarked_read port_text c.args.word.now c.port_at-in-None.result c.in-None.ensures
    (c.port_at-in-None.ensures.read (is_port c.args.word.now) c.args.word.now c.in_ok-read_target-in-None.ensures)
