use Rattle.std.proofs.Common.{◌<◌, length, arith}
use Rattle.std.proofs.lemmas.Bool.Decides.{nat_tests}
use Rattle.param_proto.proofs.ValueLists.{asks_of}
use Rattle.param_proto.proofs.values.Values.asks_all.Goals as goal

pub returns-else-is_empty : goal.returns-else-is_empty
returns-else-is_empty c =
    let s = c.self.inside in
    let some : 0 < length s.params.items = grind (arith, nat_tests, s.params.ok.0) in
    asks_of s.taken.items s.params.items c.args.self.now s.known c.self.invariant.0 c.self.view_is c.self.invariant.1 some
