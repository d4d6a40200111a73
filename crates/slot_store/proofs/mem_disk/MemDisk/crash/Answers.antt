use Rattle.std.proofs.Common.{◌∙◌, ◌%◌, ◌^◌}
use Rattle.slot_store.proofs.Draws.{drawn_is_image}
use Rattle.slot_store.proofs.mem_disk.MemDisk.crash.Goals as goal

pub returns-clause-may_be_left : goal.returns-clause-may_be_left
returns-clause-may_be_left c =
    drawn_is_image (c.args.pick % 2 ^ 31) c.args.self.ranges.items c.args.self.bytes.items c.new-disk.result.bytes.items (c.new-disk.ensures.bytes ∙ c.in_ok-image.ensures)
