use Rattle.mav_nodes.specs.Nodes.{drone_receives}
use Rattle.fleet_world.proofs.KeptNames.{drone_receiving}
use Rattle.fleet_world.proofs.Restarting.{stored_done}
use Rattle.fleet_world.proofs.stored_drone.StoredDrone.receive.Goals as goal

pub returns-clause-done : goal.returns-clause-done
returns-clause-done c =
    stored_done c.receive.result (drone_receives c.args.clock c.args.datagram.now) _ c.args.self.now _ c.self.view_is (drone_receiving c.args.clock c.args.datagram.now)
    c.receive.ensures.infallible c.receive.ensures.stored c.receive.ensures.serves.infallible
