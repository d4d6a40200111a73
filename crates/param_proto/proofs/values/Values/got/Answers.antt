use Rattle.param_proto.proofs.ValueLists.{seen_front, front_length}
use Rattle.param_proto.proofs.values.Values.got.Goals as goal

pub slice_bounds-result-end : goal.slice_bounds-result-end
slice_bounds-result-end c =
    let s = c.self.inside in
    front_length s.taken.items s.params.items c.deref.result.now s.known c.self.invariant.0 c.self.invariant.1 c.deref.ensures.value

pub returns : goal.returns
returns c =
    let s = c.self.inside in
    seen_front s.taken.items s.params.items c.deref.result.now c.args.self.now s.known c.self.invariant.0 c.self.view_is c.self.invariant.1 c.deref.ensures.value
