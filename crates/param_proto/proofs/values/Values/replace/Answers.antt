use Rattle.std.proofs.Common.{arith}
use Rattle.param_proto.proofs.ValueLists.{seen_length, view_set, leading_set}
use Rattle.param_proto.proofs.values.Values.replace.Goals as goal

pub index_mut-requires : goal.index_mut-requires
index_mut-requires c =
    let s = c.self.inside in
    omega (arith, s.params.ok.0, c.self.invariant.0, c.requires, seen_length s.taken.items s.params.items c.args.self.now c.self.invariant.0 c.self.view_is)

pub index_mut-requires-2 : goal.index_mut-requires-2
index_mut-requires-2 c =
    let s = c.self.inside in
    omega (arith, s.taken.ok.0, c.self.invariant.0, c.requires, seen_length s.taken.items s.params.items c.args.self.now c.self.invariant.0 c.self.view_is)

pub count_leading-self-inside-requires : goal.count_leading-self-inside-requires
count_leading-self-inside-requires c =
    let s = c.self.inside in
    rw c.deref.ensures.value (omega (arith, c.self.invariant.1, leading_set s.taken.items c.args.index))

pub returns : goal.returns
returns c =
    let s = c.self.inside in
    rw (← c.self.view_is) (view_set s.taken.items s.params.items c.args.index c.args.param)
