use Rattle.plan_safety.proofs.OutcomeLaws as laws
use Rattle.plan_safety.proofs.downloads.every_download.Goals as goal

pub returns : goal.returns
returns c = laws.got_law
