use Rattle.plan_upload.proofs.Gathered.{has_kind}
use Rattle.plan_upload.proofs.uploads.UploadSlot.see_kind.Goals as goal

pub returns : goal.returns
returns c = has_kind c.self.inside.open c.self.inside.items c.args.self.now c.self.view_is
