use Rattle.std.proofs.Common.{◌<◌, length, ap, arith}
use Rattle.std.proofs.lemmas.List.{length-map}
use Rattle.field_layout.specs.WireOrder.{place_of, wire_order}
use Rattle.field_layout.proofs.Placing.{wire_entries}
use Rattle.field_layout.proofs.Walking.{place_in_range, offset_bound, offset_step, offset_found}
use Rattle.field_layout.proofs.order.offset_in.Goals as goal

pub returns-then-before-place-clause-offset : goal.returns-then-before-place-clause-offset
returns-then-before-place-clause-offset c =
    offset_found c.args.def.now c.args.order.now c.args.place c.loop-before.before-index c.loop-before.offset c.requires.in_order c.loop-before.invariant c.loop-before-test.true c.if-before-place.true

pub returns-then-before-place-clause-bound : goal.returns-then-before-place-clause-bound
returns-then-before-place-clause-bound c = omega (arith, c.loop-before.invariant, offset_bound c.args.def.now c.args.place)

pub field-requires : goal.field-requires
field-requires c =
    let wire = wire_order c.args.def.now in
    let inside : c.loop-before.before-index < length wire = omega (arith, ap length c.requires.in_order, length-map wire place_of) in
    rw c.requires.in_order (place_in_range c.args.def.now wire c.loop-before.before-index (wire_entries c.args.def.now) inside)

pub overflow_add-offset : goal.overflow_add-offset
overflow_add-offset c = omega (arith, c.loop-before.invariant, offset_bound c.args.def.now c.args.place)

pub loop-before-preserved : goal.loop-before-preserved
loop-before-preserved c =
    rw c.size-offset.ensures.size (offset_step c.args.def.now c.args.order.now c.args.place c.loop-before.before-index c.loop-before.offset c.field.result.now c.requires.in_order c.loop-before.invariant c.loop-before-test.true c.field.ensures c.if-before-place.false)

pub returns-clause-bound : goal.returns-clause-bound
returns-clause-bound c = omega (arith, c.loop-before.invariant, offset_bound c.args.def.now c.args.place)
