use Rattle.plan_safety.proofs.Histories as histories
use Rattle.plan_safety.proofs.uploads.every_plan.Goals as goal

pub returns : goal.returns
returns c = histories.held
