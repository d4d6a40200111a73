use Rattle.std.proofs.Common.{◌≡◌, ◌+◌, ◌==◌, not, drop}
use Rattle.std.specs.List.{sum_by, take_while}
use Rattle.field_layout.specs.WireOrder.{Placed, wire_order, offset_of}
use Rattle.field_layout.specs.Definition.{size_of}
use Rattle.field_layout.proofs.order.offset_in.Given as goal

abbrev pub invariant-loop-before : goal.invariant-loop-before
invariant-loop-before l =
    l.offset + sum_by (λ (field : Placed). size_of field.1) (take_while (λ (field : Placed). not (field.0 == l.place)) (drop l.before-index (wire_order l.def))) ≡ offset_of l.def l.place
