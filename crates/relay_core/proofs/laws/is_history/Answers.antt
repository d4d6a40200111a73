use Rattle.relay_core.proofs.Histories.{run_leads}
use Rattle.relay_core.proofs.laws.is_history.Goals as goal

pub returns : goal.returns
returns c = run_leads
