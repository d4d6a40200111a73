use Rattle.fence_watch.proofs.Tests.{touched}
use Rattle.fence_watch.proofs.laws.touched_exactly.Goals as goal

pub returns : goal.returns
returns c = touched
