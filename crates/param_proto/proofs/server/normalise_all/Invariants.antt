use Rattle.std.proofs.Common.{◌≡◌, ◌++◌, map, take, drop}
use Rattle.param_proto.specs.Params.{normal}
use Rattle.param_proto.proofs.server.normalise_all.Given as goal

abbrev pub invariant-loop-param : goal.invariant-loop-param
invariant-loop-param l = l.params ≡ map normal (take l.param-index l.fn.params) ++ drop l.param-index l.fn.params
