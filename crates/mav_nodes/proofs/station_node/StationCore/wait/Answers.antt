use Rattle.plan_upload.specs.Station.{station_tick}
use Rattle.mav_nodes.proofs.station_node.StationCore.wait.Goals as goal

pub returns-clause-step : goal.returns-clause-step
returns-clause-step c =
    c.step_of.ensures (station_tick c.args.self.now) c.tick-sent.ensures.station c.tick-sent.ensures.answer
