use Rattle.std.proofs.Common.{◌≡◌, List, Some, position, refl, subst}
use Rattle.node_reports.specs.Nodes.{Node}
use Rattle.fleet_world.specs.WorldState.{is_station_named}
use Rattle.fleet_world.specs.WorldView.{IsFleet, WorldView}
use Rattle.fleet_world.proofs.Ordering.{order_outcome, order_error, order_done, order_fails}
use Rattle.fleet_world.proofs.world.World.order.Goals as goal

pub returns-clause-done : goal.returns-clause-done
returns-clause-done c =
    let index = subst (λ (z : WorldView). (nodes : List Node) → IsFleet nodes z.fleet → Some c.in-Some.index ≡ position (is_station_named c.args.station) nodes) c.self.view_is c.in-Some.ensures.found in
    order_outcome _ c.args.self.now _ _ _ _ _ _ _ c.skip_sent.ensures index (order_done _ _ _ _ _ _ _ _ _ _ _ c.self.view_is c.order_at-outcome.ensures.ordered refl c.report_order.ensures.done)

pub returns-clause-error : goal.returns-clause-error
returns-clause-error c =
    let index = subst (λ (z : WorldView). (nodes : List Node) → IsFleet nodes z.fleet → Some c.in-Some.index ≡ position (is_station_named c.args.station) nodes) c.self.view_is c.in-Some.ensures.found in
    order_error _ c.args.self.now _ _ _ _ c.skip_sent.ensures index (order_fails _ _ _ _ _ _ _ _ c.self.view_is c.order_at-outcome.ensures.ordered refl c.report_order.ensures.error)
