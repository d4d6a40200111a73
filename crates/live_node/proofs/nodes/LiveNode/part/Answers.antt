use Rattle.std.proofs.Common.{◌≡◌, inl}
use Rattle.std.proofs.lemmas.List.Elements.{All-nil}
use Rattle.std.specs.Prelude.{true}
use Rattle.live_node.proofs.Hearing.{drone_part_done, station_part_done, drone_part_fails, station_part_fails}
use Rattle.live_node.proofs.GivenUp.{drone_piece_left, station_piece_left}
use Rattle.live_node.proofs.nodes.LiveNode.part.Goals as goal

pub returns-in-Drone-clause-done : goal.returns-in-Drone-clause-done
returns-in-Drone-clause-done g c = drone_part_done c.args.clock c.args.piece.now _ _ _ c.args.self.now c.drone_part.result c.in-Drone.is c.drone_part.ensures.done

pub returns-in-Station-clause-done : goal.returns-in-Station-clause-done
returns-in-Station-clause-done g c = station_part_done c.args.clock c.args.piece.now _ _ _ c.args.self.now c.station_part.result (inl (All-nil (λ kept. kept ≡ true))) c.in-Station.is c.station_part.ensures.done

pub returns-in-Drone-clause-fault : goal.returns-in-Drone-clause-fault
returns-in-Drone-clause-fault g c = drone_part_fails c.args.clock c.args.piece.now _ _ _ c.args.self.now c.drone_part.result c.in-Drone.is c.drone_part.ensures.fault

pub returns-in-Station-clause-fault : goal.returns-in-Station-clause-fault
returns-in-Station-clause-fault g c = station_part_fails c.args.clock c.args.piece.now _ _ c.args.self.now c.station_part.result c.in-Station.is c.station_part.ensures.fault

pub returns-in-Drone-clause-given : goal.returns-in-Drone-clause-given
returns-in-Drone-clause-given g c = drone_piece_left c.args.clock c.args.piece.now _ _ _ _ c.args.self.now c.drone_part.result c.in-Drone.is c.drone_part.ensures.given

pub returns-in-Station-clause-given : goal.returns-in-Station-clause-given
returns-in-Station-clause-given g c = station_piece_left c.args.clock c.args.piece.now _ _ _ _ c.args.self.now c.station_part.result c.in-Station.is
