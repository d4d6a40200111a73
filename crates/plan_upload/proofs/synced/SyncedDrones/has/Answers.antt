use Rattle.plan_upload.proofs.SyncedLists.{is_synced-any}
use Rattle.plan_upload.proofs.synced.SyncedDrones.has.Goals as goal

pub returns : goal.returns
returns c = cc (is_synced-any c.args.self.now c.args.drone)
