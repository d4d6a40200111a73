use Rattle.plan_safety.proofs.StoreLaws as laws
use Rattle.plan_safety.proofs.uploads.every_upload.Goals as goal

pub returns : goal.returns
returns c = record { held = laws.plans_law; once = laws.once_law; never = laws.never_law; installation = laws.installation_law; told = laws.installed_law }
