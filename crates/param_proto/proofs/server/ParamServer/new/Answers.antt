use Rattle.std.proofs.Common.{◌≡◌, ◌≤◌, length, ap, map, sym, subst, ◌∙◌, List, arith}
use Rattle.std.specs.Vec.{with_items}
use Rattle.std.proofs.lemmas.List.{with_items_is}
use Rattle.param_proto.specs.declared.params.Param.{Param}
use Rattle.param_proto.specs.Params.{normal}
use Rattle.param_proto.specs.Places.{IsIndex}
use Rattle.param_proto.proofs.Shapes.{few_of}
use Rattle.param_proto.proofs.IdIndex.{index_normal, length_normal}
use Rattle.param_proto.proofs.server.ParamServer.new.Goals as goal

pub invariant_of-result : goal.invariant_of-result
invariant_of-result c =
    let v = c.args.list in
    let list = v.items in
    let qs = c.normalise_all.new.params in
    let pairs = c.in_ok-places.places.entries in
    let normalised : qs ≡ map normal list = c.normalise_all.ensures ∙ ap (map normal) c.deref_mut.ensures.value in
    let count : length qs ≡ length list = length_normal list qs normalised in
    let few : length c.deref.result.now ≤ 1000 = few_of c.deref.result.now c.in_ok-places.ensures.none in
    let same : length c.deref.result.now ≡ length list = ap length c.deref.ensures.value in
    let items : (with_items v qs).items ≡ qs = with_items_is v qs (count ∙ sym v.ok.0) in
    let index : IsIndex pairs list = subst (λ (ps : List Param). IsIndex pairs ps) c.deref.ensures.value c.in_ok-places.ensures.places in
    record {
      few = rw items (omega (arith, few, same, count));
      places = index_normal pairs list (with_items v qs).items index (items ∙ normalised);
      ordered = omega arith;
      within = omega arith;
    }
