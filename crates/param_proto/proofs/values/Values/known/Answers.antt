use Rattle.param_proto.proofs.ValueLists.{seen_known}
use Rattle.param_proto.proofs.values.Values.known.Goals as goal

pub returns : goal.returns
returns c =
    let s = c.self.inside in
    seen_known s.taken.items s.params.items c.args.self.now s.known c.self.invariant.0 c.self.view_is c.self.invariant.1
