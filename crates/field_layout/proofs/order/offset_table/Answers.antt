use Rattle.std.proofs.Common.{sym, zero-add}
use Rattle.std.proofs.lemmas.List.FromFn.{map-range_with_len_more}
use Rattle.field_layout.specs.WireOrder.{offset_of}
use Rattle.field_layout.proofs.order.offset_table.Goals as goal

pub loop-place-preserved : goal.loop-place-preserved
loop-place-preserved c =
    let more = map-range_with_len_more (offset_of c.args.def.now) 0 c.loop-place.place c.loop-place.place (zero-add c.loop-place.place) in
    rw (c.in_ok-push.ensures.items, c.loop-place.invariant, c.offset_in.ensures.offset) (sym more)
