use Rattle.plan_safety.proofs.Histories as histories
use Rattle.plan_safety.proofs.executions.every_history.Goals as goal

pub returns : goal.returns
returns c = record { valid = histories.histories; plans = histories.same_plans }
