use Rattle.command_proto.proofs.Ranges.{issued, stepped, ticked}
use Rattle.command_proto.proofs.laws.every_commander.Goals as goal

pub returns-clause-new : goal.returns-clause-new
returns-clause-new c = λ me. tt

pub returns-clause-issue : goal.returns-clause-issue
returns-clause-issue c = issued

pub returns-clause-step : goal.returns-clause-step
returns-clause-step c = stepped

pub returns-clause-tick : goal.returns-clause-tick
returns-clause-tick c = ticked
