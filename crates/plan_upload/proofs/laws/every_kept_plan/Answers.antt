use Rattle.plan_upload.proofs.Unkept.{unkept_plans}
use Rattle.plan_upload.proofs.laws.every_kept_plan.Goals as goal

pub returns : goal.returns
returns c = unkept_plans
