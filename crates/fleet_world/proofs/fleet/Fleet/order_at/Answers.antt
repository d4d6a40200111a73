use Rattle.std.proofs.Common.{Ok, refl, subst}
use Rattle.node_reports.specs.Nodes.{Station}
use Rattle.fleet_world.specs.WorldView.{IsNode}
use Rattle.fleet_world.proofs.FleetCalls.{ordered, call_counts}
use Rattle.fleet_world.proofs.NodeFaults.{order_followed, order_refused}
use Rattle.fleet_world.proofs.fleet.Fleet.order_at.Goals as goal

pub returns-in_default-clause-ordered : goal.returns-in_default-clause-ordered
returns-in_default-clause-ordered c =
    ordered _ _ _ _ _ _ c.args.order c.self.view_is c.requires c.index_mut.ensures.value refl (Ok c.no_news.result)
    (λ node is. absurd (subst (IsNode (Station node)) c.in_default.is is)) tt

pub returns-clause-ordered : goal.returns-clause-ordered
returns-clause-ordered c =
    ordered _ _ _ _ _ _ c.args.order c.self.view_is c.requires c.index_mut.ensures.value refl c.order.result
    (order_followed c.order.result c.self.inside.clock c.args.order _ _ c.order.new.self _ c.in-Station.is c.order.ensures.accepted c.order.ensures.done)
    (order_refused c.order.result c.self.inside.clock c.args.order _ _ c.order.new.self _ c.in-Station.is c.order.ensures.fault c.order.ensures.unchanged)

pub returns-clause-count : goal.returns-clause-count
returns-clause-count c = call_counts _ _ _ _ _ c.self.view_is refl
