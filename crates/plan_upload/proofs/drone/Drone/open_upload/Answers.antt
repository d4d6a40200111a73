use Rattle.std.proofs.Common.{false}
use Rattle.plan_upload.proofs.ResultLists.{has_result_now}
use Rattle.plan_upload.proofs.drone.Drone.open_upload.Goals as goal

pub invariant_of-self : goal.invariant_of-self
invariant_of-self c = rw (c.open.ensures, c.set.ensures) (has_result_now c.self.inside.results c.args.from false)
