use Rattle.fleet_liveness.proofs.Shorts.{flows_done}
use Rattle.fleet_liveness.proofs.flows.every_flow_with_room.Goals as goal

pub returns : goal.returns
returns c = flows_done
