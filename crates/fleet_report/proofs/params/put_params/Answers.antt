use Rattle.fleet_report.proofs.ParamLines.{param_added, params_ended}
use Rattle.fleet_report.proofs.params.put_params.Goals as goal

pub loop-param-preserved : goal.loop-param-preserved
loop-param-preserved c =
    param_added c.args.station c.args.params.now _ _ _ c.loop-param.param-index _ c.loop-param-test.true c.loop-param.invariant c.in_ok-put_param.ensures

pub returns : goal.returns
returns c = params_ended c.args.station c.args.params.now _ _ c.loop-param.param-index c.loop-param-test.false c.loop-param.invariant
