use Rattle.plan_safety.proofs.Induction as induction
use Rattle.plan_safety.proofs.executions.every_execution.Goals as goal

pub returns : goal.returns
returns c = induction.always
