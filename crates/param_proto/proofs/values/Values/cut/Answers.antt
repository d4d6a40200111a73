use Rattle.std.proofs.Common.{◌≤◌, length, take, ap, ◌∙◌, arith}
use Rattle.param_proto.specs.Client.{known_values}
use Rattle.param_proto.proofs.ValueLists.{seen_cut, marks_cut, length_cut}
use Rattle.param_proto.proofs.values.Values.cut.Goals as goal

pub invariant_of-self : goal.invariant_of-self
invariant_of-self c =
    let s = c.self.inside in
    let n = c.from-count.result in
    let within : n ≤ length (known_values c.args.self.now) = omega (arith, c.from-count.ensures, c.requires) in (
      length_cut s.taken.items c.truncate-2.new.self.items s.params.items c.truncate.new.self.items n c.self.invariant.0 c.truncate-2.ensures.items c.truncate.ensures.items,
      marks_cut s.taken.items c.truncate-2.new.self.items s.params.items c.args.self.now n c.self.invariant.0 c.self.view_is within c.truncate-2.ensures.items,
      omega (arith, c.truncate.ensures.capacity, c.self.invariant.2),
      omega (arith, c.truncate-2.ensures.capacity, c.self.invariant.3),
    )

pub returns : goal.returns
returns c =
    let s = c.self.inside in
    seen_cut s.taken.items c.truncate-2.new.self.items s.params.items c.truncate.new.self.items c.args.self.now c.from-count.result c.self.view_is c.truncate-2.ensures.items c.truncate.ensures.items
    ∙ ap (λ n. take n c.args.self.now) c.from-count.ensures
