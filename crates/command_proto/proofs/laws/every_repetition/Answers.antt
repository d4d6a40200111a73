use Rattle.command_proto.proofs.Repetitions.{done_is_last, undone, others_stay, done_once, answered, idle}
use Rattle.command_proto.proofs.laws.every_repetition.Goals as goal

pub returns-clause-done : goal.returns-clause-done
returns-clause-done c = done_is_last

pub returns-clause-undone : goal.returns-clause-undone
returns-clause-undone c = undone

pub returns-clause-others : goal.returns-clause-others
returns-clause-others c = others_stay

pub returns-clause-again : goal.returns-clause-again
returns-clause-again c = done_once

pub returns-clause-answered : goal.returns-clause-answered
returns-clause-answered c = answered

pub returns-clause-idle : goal.returns-clause-idle
returns-clause-idle c = idle
