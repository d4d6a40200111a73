use Rattle.std.proofs.Common.{◌≡◌, ◌≤◌, ◌++◌, ◌∷◌, [], List, length, map, take, sym, ap, ◌∙◌, append_assoc, arith}
use Rattle.std.specs.List.{enumerate_from}
use Rattle.std.proofs.lemmas.List.{take_all}
use Rattle.std.proofs.lemmas.List.FromFn.{length-enumerate_from}
use Rattle.field_layout.specs.Types.{element_size}
use Rattle.field_layout.specs.WireOrder.{Placed, place_of, of_size}
use Rattle.field_layout.proofs.Walking.{places_taken, places_left}
use Rattle.field_layout.proofs.order.push_places.Goals as goal
use Rattle.field_layout.proofs.order.push_places.Goals.{then-size+in_ok-push, else-size}

pub loop-place-preserved : goal.loop-place-preserved
loop-place-preserved c =
    let fields = c.args.fields.now in
    let field = c.index-fields-place.result in
    let i = c.loop-place.place in
    let before = map place_of (of_size c.args.size (take i (enumerate_from 0 fields))) in
    elim c.if-size.branch [
      | then-size+in_ok-push w ↦
          let fits : element_size field.ty ≡ c.args.size = sym c.size.ensures ∙ w.if-size.true in
          rw (w.order-is, w.in_ok-push.ensures.items, c.loop-place.invariant, places_taken fields c.args.size i field c.loop-place-test.true (sym c.index-fields-place.is) fits) (append_assoc c.args.order.now.items before (i ∷ []))
      | else-size w ↦
          rw (w.order-is, places_left fields c.args.size i field c.loop-place-test.true (sym c.index-fields-place.is) (λ e. w.if-size.false (c.size.ensures ∙ e))) c.loop-place.invariant
    ]

pub returns : goal.returns
returns c =
    let placed = enumerate_from 0 c.args.fields.now in
    let past : length placed ≤ c.loop-place.place = omega (arith, length-enumerate_from 0 c.args.fields.now) in
    c.loop-place.invariant ∙ ap (λ (l : List Placed). c.args.order.now.items ++ map place_of (of_size c.args.size l)) (take_all c.loop-place.place placed past)
