use Rattle.std.proofs.Common.{◌≡◌, ◌++◌, take}
use Rattle.std.specs.List.{flat_map}
use Rattle.x25_check.specs.Check.{check}
use Rattle.field_layout.specs.WireOrder.{Placed, base_order}
use Rattle.field_layout.specs.CrcExtra.{spaced, field_text}
use Rattle.field_layout.proofs.order.crc_extra.Given as goal

abbrev pub invariant-loop-place : goal.invariant-loop-place
invariant-loop-place l = l.check ≡ check (spaced l.def.name ++ flat_map (λ (field : Placed). field_text field.1) (take l.place-index (base_order l.def)))
