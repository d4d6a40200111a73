use Rattle.std.proofs.Common.{arith}
use Rattle.param_proto.proofs.ValueLists.{seen_length, seen_pushed, marks_pushed}
use Rattle.param_proto.proofs.values.Values.push.Goals as goal

pub push_reserved-requires : goal.push_reserved-requires
push_reserved-requires c =
    let s = c.self.inside in
    omega (arith, s.params.ok.0, c.self.invariant, c.requires, seen_length s.taken.items s.params.items c.args.self.now c.self.invariant.0 c.self.view_is)

pub push_reserved-requires-2 : goal.push_reserved-requires-2
push_reserved-requires-2 c =
    let s = c.self.inside in
    omega (arith, s.taken.ok.0, c.self.invariant, c.requires, seen_length s.taken.items s.params.items c.args.self.now c.self.invariant.0 c.self.view_is)

pub count_leading-self-inside-requires : goal.count_leading-self-inside-requires
count_leading-self-inside-requires c =
    let s = c.self.inside in
    marks_pushed s.taken.items c.push_reserved-2.new.self.items c.deref.result.now s.known c.self.invariant.1 c.push_reserved-2.ensures.items c.deref.ensures.value

pub returns : goal.returns
returns c =
    let s = c.self.inside in
    seen_pushed s.taken.items c.push_reserved-2.new.self.items s.params.items c.push_reserved.new.self.items c.args.self.now c.args.param c.self.invariant.0 c.self.view_is c.push_reserved-2.ensures.items c.push_reserved.ensures.items
