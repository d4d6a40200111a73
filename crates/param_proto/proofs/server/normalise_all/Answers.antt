use Rattle.std.proofs.Common.{◌<◌, length, map, ap, ◌∙◌, append-nil, arith}
use Rattle.std.proofs.Math.ListN.{set}
use Rattle.std.proofs.lemmas.List.{get_or_default, take_all, drop_all}
use Rattle.std.proofs.lemmas.List.Edits.{map_over_more}
use Rattle.param_proto.specs.Params.{normal}
use Rattle.param_proto.proofs.server.normalise_all.Goals as goal

pub loop-param-preserved : goal.loop-param-preserved
loop-param-preserved c =
    let ps = c.loop-param.params in
    let i = c.loop-param.param-index in
    let inside : i < length ps = omega (arith, c.loop-param.auto.params) in
    ap (set ps i) c.normalise.ensures
    ∙ map_over_more normal c.args.params.now ps i _ c.loop-param-test.true c.loop-param.invariant (get_or_default ps i _ _ inside)

pub returns : goal.returns
returns c =
    let xs = c.args.params.now in
    let i = c.loop-param.param-index in
    c.loop-param.invariant ∙ (rw (take_all i xs c.loop-param-test.false, drop_all i xs c.loop-param-test.false) (append-nil (map normal xs)))
