use Rattle.fence_watch.proofs.Exact.{exact}
use Rattle.fence_watch.proofs.laws.meetings_are_exact.Goals as goal

pub returns : goal.returns
returns c = exact
