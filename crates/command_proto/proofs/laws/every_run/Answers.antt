use Rattle.command_proto.proofs.Repetitions.{is_latest, never_twice, each_other}
use Rattle.command_proto.proofs.laws.every_run.Goals as goal

pub returns-clause-latest : goal.returns-clause-latest
returns-clause-latest c = is_latest

pub returns-clause-again : goal.returns-clause-again
returns-clause-again c = never_twice

pub returns-clause-other : goal.returns-clause-other
returns-clause-other c = each_other
