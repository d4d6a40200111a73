use Rattle.plan_upload.proofs.Unkept.{same_step}
use Rattle.plan_upload.proofs.laws.every_unchanging_step.Goals as goal

pub returns : goal.returns
returns c = same_step
