use Rattle.plan_upload.proofs.Gathered.{finished_is_valid}
use Rattle.plan_upload.proofs.uploads.UploadSlot.finish.Goals as goal

pub install-requires : goal.install-requires
install-requires c =
    finished_is_valid c.self.inside.open c.in-Some.open c.self.inside.items c.put.new.self c.args.item c.args.self.now c.in-Some.is c.self.invariant c.self.view_is c.requires c.put.ensures
