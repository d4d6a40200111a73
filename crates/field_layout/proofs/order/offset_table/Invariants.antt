use Rattle.std.proofs.Common.{◌≡◌, map}
use Rattle.std.specs.List.{range_with_len}
use Rattle.field_layout.specs.WireOrder.{offset_of}
use Rattle.field_layout.proofs.order.offset_table.Given as goal

abbrev pub invariant-loop-place : goal.invariant-loop-place
invariant-loop-place l = l.table.items ≡ map (offset_of l.def) (range_with_len 0 l.place)
