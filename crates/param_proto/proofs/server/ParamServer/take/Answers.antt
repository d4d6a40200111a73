use Rattle.std.proofs.Common.{◌<◌, ◌≡◌, length, arith}
use Rattle.param_proto.proofs.Waiting.{next_taken, rest_waits}
use Rattle.param_proto.proofs.server.ParamServer.take.Goals as goal

pub returns-clause-message : goal.returns-clause-message
returns-clause-message c =
    let s = c.self.inside in
    let before : s.next < s.end = omega (arith, c.self.invariant.ordered, c.if-self.false) in
    let count : c.len.result ≡ length s.params.items = omega (arith, s.params.ok.0, c.len.ensures) in
    rw (← c.self.view_is) (next_taken s.params.items s.next s.end c.len.result c.index.result.now c.value_of.result before c.self.invariant.within c.index.ensures count c.value_of.ensures)

pub returns-clause-server : goal.returns-clause-server
returns-clause-server c =
    let s = c.self.inside in
    let before : s.next < s.end = omega (arith, c.self.invariant.ordered, c.if-self.false) in
    rw (← c.self.view_is) (rest_waits s.params.items s.next s.end c.index.result.now before c.self.invariant.within c.index.ensures)
