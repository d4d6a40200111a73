use Rattle.std.proofs.Common.{◌≡◌, ◌++◌, ◌<◌, ◌^◌, ◌%◌, drop}
use Rattle.slot_store.specs.MemDisks.{drawn}
use Rattle.slot_store.proofs.mem_disk.draw.Given as goal

-- the image so far, and what is drawn for the rest
abbrev pub invariant-loop-offset : goal.invariant-loop-offset
invariant-loop-offset l =
    (drawn (l.pick % 2 ^ 31) l.ranges.items 0 l.bytes.items ≡ l.image.items ++ drawn l.state l.ranges.items l.offset (drop l.offset l.bytes.items))
    × (l.state < 2 ^ 31)
