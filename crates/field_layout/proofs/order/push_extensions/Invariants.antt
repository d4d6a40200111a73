use Rattle.std.proofs.Common.{◌≡◌, ◌++◌, ◌-◌, length}
use Rattle.std.specs.List.{range_with_len}
use Rattle.field_layout.proofs.order.push_extensions.Given as goal

abbrev pub invariant-loop-place : goal.invariant-loop-place
invariant-loop-place l = l.order.items ≡ l.initial.order.items ++ range_with_len (length l.def.fields) (l.place - length l.def.fields)
