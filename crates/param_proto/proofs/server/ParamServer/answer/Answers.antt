use Rattle.std.proofs.Common.{◌<◌, ◌≤◌, length, ap, ◌∙◌, arith}
use Rattle.param_proto.specs.Server.{serves}
use Rattle.param_proto.proofs.Waiting.{one_waits, none_at}
use Rattle.param_proto.proofs.server.ParamServer.answer.Goals as goal

pub returns-then-at-len : goal.returns-then-at-len
returns-then-at-len c =
    let s = c.self.inside in
    let inside : c.args.at < length s.params.items = omega (arith, s.params.ok.0, c.len.ensures) in
    rw (← c.self.view_is) (one_waits s.params.items c.args.at inside)

pub returns-else-at-len : goal.returns-else-at-len
returns-else-at-len c =
    let s = c.self.inside in
    let past : length s.params.items ≤ c.args.at = omega (arith, s.params.ok.0, c.len.ensures) in
    c.answer_none.ensures ∙ (rw (← c.self.view_is) (ap (serves s.params.items) (none_at s.params.items c.args.at past)))
