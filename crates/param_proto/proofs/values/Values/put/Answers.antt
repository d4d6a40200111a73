use Rattle.std.proofs.Common.{◌<◌, ◌≤◌, length, arith}
use Rattle.param_proto.proofs.ValueLists.{seen_length, padding_length, put_inside, put_past}
use Rattle.param_proto.proofs.values.Values.put.Goals as goal

pub replace-requires : goal.replace-requires
replace-requires c =
    let s = c.self.inside in
    omega (arith, s.params.ok.0, c.len.ensures, seen_length s.taken.items s.params.items c.args.self.now c.self.invariant.0 c.self.view_is)

pub pad-requires-clause-past : goal.pad-requires-clause-past
pad-requires-clause-past c =
    let s = c.self.inside in
    omega (arith, s.params.ok.0, c.len.ensures, seen_length s.taken.items s.params.items c.args.self.now c.self.invariant.0 c.self.view_is)

pub push-requires : goal.push-requires
push-requires c =
    let s = c.self.inside in
    let past : length c.args.self.now ≤ c.from-index.result = omega (arith, s.params.ok.0, c.len.ensures, seen_length s.taken.items s.params.items c.args.self.now c.self.invariant.0 c.self.view_is) in
    omega (arith, c.requires, c.from-index.ensures, padding_length c.args.self.now c.pad.new.self c.from-index.result past c.pad.ensures)

pub returns-then-index-len : goal.returns-then-index-len
returns-then-index-len c =
    let s = c.self.inside in
    let inside : c.from-index.result < length c.args.self.now = omega (arith, s.params.ok.0, c.len.ensures, seen_length s.taken.items s.params.items c.args.self.now c.self.invariant.0 c.self.view_is) in
    put_inside c.args.self.now c.replace.new.self c.from-index.result c.args.index c.args.param c.from-index.ensures inside c.replace.ensures

pub returns-else-index-len : goal.returns-else-index-len
returns-else-index-len c =
    let s = c.self.inside in
    let past : length c.args.self.now ≤ c.from-index.result = omega (arith, s.params.ok.0, c.len.ensures, seen_length s.taken.items s.params.items c.args.self.now c.self.invariant.0 c.self.view_is) in
    put_past c.args.self.now c.pad.new.self c.push.new.self c.from-index.result c.args.index c.args.param c.from-index.ensures past c.pad.ensures c.push.ensures
