use Rattle.test_routes.proofs.Computed.{worked}
use Rattle.test_routes.proofs.worked_journals.Goals as goal

pub returns : goal.returns
returns c = worked
