use Rattle.std.proofs.Common.{◌+◌, refl}
use Rattle.slot_store.proofs.Images.{unchanged}
use Rattle.slot_store.proofs.Patches.{pushed}
use Rattle.slot_store.proofs.mem_disk.mark.Goals as goal

pub returns-clause-torn : goal.returns-clause-torn
returns-clause-torn c = λ held within.
    pushed c.args.at c.args.len held held c.args.ranges.now.items c.push.new.self.items (record { start = c.args.at; end = c.args.at + c.args.len })
    c.in_ok-push.ensures.items within refl refl (unchanged c.args.at c.args.len held)

pub returns-clause-written : goal.returns-clause-written
returns-clause-written c = λ held now within writes.
    pushed c.args.at c.args.len held now c.args.ranges.now.items c.push.new.self.items (record { start = c.args.at; end = c.args.at + c.args.len })
    c.in_ok-push.ensures.items within refl refl writes
