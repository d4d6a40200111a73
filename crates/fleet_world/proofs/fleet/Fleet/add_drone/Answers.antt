use Rattle.std.proofs.Common.{w32, subst}
use Rattle.std.proofs.lemmas.Int.{to_z-of_z}
use Rattle.drone_sim.specs.declared.points.Point.{Point}
use Rattle.mav_nodes.specs.Nodes.{new_drone}
use Rattle.node_reports.specs.Nodes.{Drone}
use Rattle.fleet_world.specs.StoredDrones.{IsStoredDrone}
use Rattle.fleet_world.specs.WorldView.{Fleet}
use Rattle.fleet_world.proofs.FleetCalls.{fleet_added}
use Rattle.fleet_world.proofs.fleet.Fleet.add_drone.Goals as goal

pub returns-clause-joins : goal.returns-clause-joins
returns-clause-joins c =
    let x = to_z-of_z w32 c.args.x c.ranges.x in
    let y = to_z-of_z w32 c.args.y c.ranges.y in
    fleet_added _ _ (λ (f : Fleet). Drone (new_drone f.key c.args.sys (record { x = c.args.x; y = c.args.y }))) _ _ c.self.view_is (subst (λ (home : Point). IsStoredDrone (new_drone c.self.inside.key c.args.sys home) c.in_ok-drone.drone) (λ i. record { x = x i; y = y i }) c.in_ok-drone.ensures.started) c.in_ok-push.ensures.items
