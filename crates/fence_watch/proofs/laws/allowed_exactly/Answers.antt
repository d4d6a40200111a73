use Rattle.fence_watch.proofs.Tests.{allowed}
use Rattle.fence_watch.proofs.laws.allowed_exactly.Goals as goal

pub returns : goal.returns
returns c = allowed
