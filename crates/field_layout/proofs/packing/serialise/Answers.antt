use Rattle.std.proofs.Common.{◌≡◌, ◌*◌, ◌≤◌, ℕ, List, Some, length, get_or, map, take, sym, ap, ◌∙◌, arith}
use Rattle.std.specs.Prelude.{slice_get}
use Rattle.std.specs.List.{flat_map}
use Rattle.std.proofs.lemmas.List.{take_all, length-map}
use Rattle.field_layout.specs.Types.{element_size}
use Rattle.field_layout.specs.Definition.{Definition, all_fields, full_len_of}
use Rattle.field_layout.specs.WireOrder.{place_of, wire_order}
use Rattle.field_layout.specs.Payload.{words_at}
use Rattle.field_layout.proofs.Faultless.{short_payload, some_payload}
use Rattle.field_layout.proofs.Placing.{wire_entries}
use Rattle.field_layout.proofs.Walking.{place_in_range}
use Rattle.field_layout.proofs.Serialised.{entry_bytes, within_wire, serialised_more, room_for_field, length-serialised, length-fitting}
use Rattle.field_layout.proofs.packing.serialise.Goals as goal

pub field-requires : goal.field-requires
field-requires c =
    let def = c.args.layout.now in
    let order = c.order-place-items.result.now in
    let i = c.loop-place.place-index in
    rw (c.order-place-items.ensures, c.def-def.ensures.same) (place_in_range def (wire_order def) i (wire_entries def) (within_wire def order i c.order-place-items.ensures c.loop-place-test.true))

pub field-requires-in-loop-place : goal.field-requires-in-loop-place
field-requires-in-loop-place c =
    let def = c.args.layout.now in
    let order = c.order-place-items.result.now in
    let i = c.loop-place.place-index in
    let inside = place_in_range def (wire_order def) i (wire_entries def) (within_wire def order i c.order-place-items.ensures c.loop-place-test.true) in
    let number : get_or order i 0 ≡ get_or (map place_of (wire_order def)) i 0 = ap (λ (l : List ℕ). get_or l i 0) c.order-place-items.ensures in
    omega (arith, inside, number, length-fitting (all_fields def) c.args.values.now c.requires)

pub push_words-requires : goal.push_words-requires
push_words-requires c =
    let def = c.args.layout.now in
    let order = c.order-place-items.result.now in
    let i = c.loop-place.place-index in
    let field = c.field.result.now in
    let got : slice_get (all_fields def) (get_or order i 0) ≡ Some field = ap (λ (d : Definition). slice_get (all_fields d) (get_or order i 0)) (sym c.def-def.ensures.same) ∙ c.field.ensures in
    let room = room_for_field def c.args.values.now order i field c.requires c.order-place-items.ensures c.loop-place-test.true got in
    let so_far : length c.loop-place.payload ≡ length (flat_map (entry_bytes c.args.values.now) (take i (wire_order def))) = ap length c.loop-place.invariant in
    let product : c.size-size.result * length c.field-in-loop-place.result.now ≡ element_size field.ty * length (words_at c.args.values.now (get_or order i 0)) =
    ap (λ (n : ℕ). n * length c.field-in-loop-place.result.now) c.size-size.ensures ∙ ap (λ (l : List ℕ). element_size field.ty * length l) c.field-in-loop-place.ensures in
    omega (arith, room, so_far, product, short_payload c.args.layout.now c.def-def.ensures.faultless)

pub loop-place-preserved : goal.loop-place-preserved
loop-place-preserved c =
    let def = c.args.layout.now in
    let order = c.order-place-items.result.now in
    let i = c.loop-place.place-index in
    let field = c.field.result.now in
    let got : slice_get (all_fields def) (get_or order i 0) ≡ Some field = ap (λ (d : Definition). slice_get (all_fields d) (get_or order i 0)) (sym c.def-def.ensures.same) ∙ c.field.ensures in
    rw (c.push_words.ensures, c.loop-place.invariant, c.size-size.ensures, c.field-in-loop-place.ensures) (sym (serialised_more def c.args.values.now order i field c.order-place-items.ensures c.loop-place-test.true got))

pub returns-clause-short : goal.returns-clause-short
returns-clause-short c =
    let def = c.args.layout.now in
    let past : length (wire_order def) ≤ c.loop-place.place-index = omega (arith, ap length c.order-place-items.ensures, length-map (wire_order def) place_of) in
    let whole : length c.loop-place.payload ≡ full_len_of def = ap length (c.loop-place.invariant ∙ ap (flat_map (entry_bytes c.args.values.now)) (take_all c.loop-place.place-index (wire_order def) past)) ∙ length-serialised def c.args.values.now c.requires in
    omega (arith, whole, short_payload c.args.layout.now c.def-def.ensures.faultless)

pub returns-clause-some : goal.returns-clause-some
returns-clause-some c =
    let def = c.args.layout.now in
    let past : length (wire_order def) ≤ c.loop-place.place-index = omega (arith, ap length c.order-place-items.ensures, length-map (wire_order def) place_of) in
    let whole : length c.loop-place.payload ≡ full_len_of def = ap length (c.loop-place.invariant ∙ ap (flat_map (entry_bytes c.args.values.now)) (take_all c.loop-place.place-index (wire_order def) past)) ∙ length-serialised def c.args.values.now c.requires in
    omega (arith, whole, some_payload def c.def-def.ensures.faultless)
