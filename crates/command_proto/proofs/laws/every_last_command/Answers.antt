use Rattle.command_proto.proofs.Ranges.{apart, grows}
use Rattle.command_proto.proofs.laws.every_last_command.Goals as goal

pub returns-clause-apart : goal.returns-clause-apart
returns-clause-apart c = apart

pub returns-clause-grows : goal.returns-clause-grows
returns-clause-grows c = grows
