use Rattle.command_line.specs.PortTexts.{is_port}
use Rattle.command_line.proofs.ports.read_closed_port.Goals as goal

pub returns-clause-read : goal.returns-clause-read
returns-clause-read c = c.port_at.ensures.read (is_port c.args.word.now) c.args.word.now c.in_ok-read_target.ensures
