use Rattle.command_proto.proofs.Ranges.{fresh, executed}
use Rattle.command_proto.proofs.laws.every_executor.Goals as goal

pub returns-clause-new : goal.returns-clause-new
returns-clause-new c = fresh

pub returns-clause-step : goal.returns-clause-step
returns-clause-step c = λ e from m ready h sys comp fits. executed e h from sys comp ready m fits
