use Rattle.std.proofs.Common.{◌≡◌, ◌*◌, ◌≤◌, length, take}
use Rattle.std.specs.Prelude.{flat_map}
use Rattle.plan_items.specs.Plans.{items_of, room_of}
use Rattle.plan_image.specs.Image.{item_bytes, InRange}
use Rattle.plan_image.proofs.reading.items_of_bytes.Given as goal

abbrev pub invariant-loop-index : goal.invariant-loop-index
invariant-loop-index l =
    (flat_map item_bytes (items_of l.plan) ≡ take (33 * l.index) l.bytes)
    × (length (items_of l.plan) ≡ l.index)
    × (l.count-2 ≤ room_of l.plan)
    × InRange (items_of l.plan)
