-- The field at each index of the wire order, one line after another.
use Rattle.std.proofs.Common.{get_or, sym, ap, ◌∙◌}
use Rattle.std.specs.Prelude.{slice_get}
use Rattle.field_layout.specs.Definition.{Definition, all_fields}
use Rattle.mav_text.proofs.WireLines.{place_of_field, lines-more}
use Rattle.mav_text.proofs.layouts.put_lines.Goals as goal

pub field-requires : goal.field-requires
field-requires c =
    rw c.def.ensures.same (place_of_field c.args.layout.now c.order-number-items.result.now c.loop-number.number-index c.order-number-items.ensures c.loop-number-test.true)

pub loop-number-preserved : goal.loop-number-preserved
loop-number-preserved c =
    let there = ap (λ (def : Definition). slice_get (all_fields def) (get_or c.order-number-items.result.now c.loop-number.number-index 0)) (sym c.def.ensures.same) ∙ c.field.ensures in
    c.in_ok-put_field.ensures
    ∙ lines-more c.args.layout.now c.order-number-items.result.now c.loop-number.number-index c.order-number-items.ensures c.loop-number-test.true
    c.loop-number.out.items c.args.out.now.items c.field.result.now there c.loop-number.invariant
