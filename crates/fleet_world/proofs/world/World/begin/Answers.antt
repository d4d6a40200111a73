use Rattle.std.proofs.Common.{◌≡◌, List, Some, position, refl, subst}
use Rattle.node_reports.specs.Nodes.{Node}
use Rattle.fleet_world.specs.WorldState.{is_station_named}
use Rattle.fleet_world.specs.WorldView.{IsFleet, WorldView}
use Rattle.fleet_world.proofs.Ordering.{begin_outcome, begin_error, order_done, order_fails}
use Rattle.fleet_world.proofs.world.World.begin.Goals as goal

pub returns-clause-done : goal.returns-clause-done
returns-clause-done c =
    let index = subst (λ (z : WorldView). (nodes : List Node) → IsFleet nodes z.fleet → Some c.in-Some.index ≡ position (is_station_named c.args.station) nodes) c.self.view_is c.in-Some.ensures.found in
    begin_outcome c.args.self.now _ _ _ _ _ _ c.args.kind c.take_draft-plan.result c.skip_sent.ensures index c.take_draft-plan.ensures.items c.take_draft-plan.ensures.after c.stream-drone.ensures
    _ c.report_order.new.self c.args.report.now c.report_order.new.report (order_done _ _ _ _ _ _ _ _ _ _ _ c.self-2.view_is c.order_at-outcome.ensures.ordered refl c.report_order.ensures.done)

pub returns-clause-error : goal.returns-clause-error
returns-clause-error c =
    let index = subst (λ (z : WorldView). (nodes : List Node) → IsFleet nodes z.fleet → Some c.in-Some.index ≡ position (is_station_named c.args.station) nodes) c.self.view_is c.in-Some.ensures.found in
    begin_error c.args.self.now _ _ _ _ _ _ c.args.kind c.take_draft-plan.result c.skip_sent.ensures index c.take_draft-plan.ensures.items c.take_draft-plan.ensures.after c.stream-drone.ensures _ (order_fails _ _ _ _ _ _ _ _ c.self-2.view_is c.order_at-outcome.ensures.ordered refl c.report_order.ensures.error)
