use Rattle.std.proofs.Common.{◌≡◌, ◌+◌, ◌-◌, ◌≤◌, ◌++◌, ◌∷◌, [], List, ℕ, length, map, sym, ap, ◌∙◌, append_assoc, arith}
use Rattle.std.specs.List.{range_with_len}
use Rattle.std.proofs.lemmas.List.{length-append}
use Rattle.field_layout.specs.Definition.{all_fields}
use Rattle.field_layout.specs.WireOrder.{place_of, base_order}
use Rattle.field_layout.proofs.Walking.{range_to, wire_places}
use Rattle.field_layout.proofs.order.push_extensions.Goals as goal

pub loop-place-preserved : goal.loop-place-preserved
loop-place-preserved c =
    let n = length c.args.def.now.fields in
    let k = c.loop-place.place in
    let above : n ≤ k = omega arith in
    rw (c.in_ok-push.ensures.items, c.loop-place.invariant, range_to n k above) (append_assoc c.args.order.now.items (range_with_len n (k - n)) (k ∷ []))

pub returns : goal.returns
returns c =
    let def = c.args.def.now in
    let n = length def.fields in
    let whole : length (all_fields def) ≡ n + length def.extensions = length-append def.fields def.extensions in
    let count : c.loop-place.place - n ≡ length def.extensions = omega arith in
    c.loop-place.invariant ∙ (ap (λ (l : List ℕ). l ++ range_with_len n (c.loop-place.place - n)) c.requires ∙ (ap (λ (m : ℕ). map place_of (base_order def) ++ range_with_len n m) count ∙ sym (wire_places def)))
