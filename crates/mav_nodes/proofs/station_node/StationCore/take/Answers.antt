use Rattle.plan_upload.specs.Station.{station_step}
use Rattle.mav_nodes.proofs.station_node.StationCore.take.Goals as goal

pub returns : goal.returns
returns c =
    c.step_of.ensures (station_step c.args.self.now c.args.from c.args.message.now) c.step-answer.ensures.station c.step-answer.ensures.answer
