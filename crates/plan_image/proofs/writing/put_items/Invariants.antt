use Rattle.std.proofs.Common.{◌≡◌, ◌+◌, ◌*◌, ◌≤◌, ◌++◌, take, vec_len, vec_capacity}
use Rattle.std.specs.Prelude.{flat_map}
use Rattle.plan_image.specs.Image.{item_bytes, InRange}
use Rattle.plan_image.proofs.writing.put_items.Given as goal

abbrev pub invariant-loop-item : goal.invariant-loop-item
invariant-loop-item l =
    (l.bytes.items ≡ l.initial.bytes.items ++ flat_map item_bytes (take l.item-index l.items))
    × (vec_len l.bytes ≡ vec_len l.initial.bytes + 33 * l.item-index)
    × (vec_capacity l.initial.bytes ≤ vec_capacity l.bytes)
    × InRange (take l.item-index l.items)
