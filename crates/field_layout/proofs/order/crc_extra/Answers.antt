use Rattle.std.proofs.Common.{◌<◌, length, ap, ◌∙◌, arith}
use Rattle.std.proofs.lemmas.List.{length-map}
use Rattle.field_layout.specs.WireOrder.{place_of, base_order}
use Rattle.field_layout.proofs.Placing.{base_order_entries}
use Rattle.field_layout.proofs.Walking.{place_in_range, crc_step}
use Rattle.field_layout.proofs.order.crc_extra.Goals as goal

pub field-requires : goal.field-requires
field-requires c =
    let entries = base_order c.args.def.now in
    let inside : c.loop-place.place-index < length entries = omega (arith, ap length c.requires, length-map entries place_of) in
    rw c.requires (place_in_range c.args.def.now entries c.loop-place.place-index (base_order_entries c.args.def.now) inside)

pub loop-place-preserved : goal.loop-place-preserved
loop-place-preserved c =
    c.push_field.ensures ∙ crc_step c.args.def.now c.args.base.now c.loop-place.place-index c.loop-place.check c.field.result.now c.requires c.loop-place-test.true c.loop-place.invariant c.field.ensures
