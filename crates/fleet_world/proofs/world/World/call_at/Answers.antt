use Rattle.std.proofs.Common.{◌≡◌, List, Some, slice_get, option_map, subst}
use Rattle.node_reports.specs.Nodes.{Node, node_name}
use Rattle.fleet_world.specs.WorldView.{IsFleet, WorldView}
use Rattle.fleet_world.specs.NodeSteps.{datagram_of}
use Rattle.fleet_world.proofs.WorldCalls.{call_outcome, call_error}
use Rattle.fleet_world.proofs.ListedCalls.{calls_known}
use Rattle.fleet_world.proofs.world.World.call_at.Goals as goal

pub returns-clause-done : goal.returns-clause-done
returns-clause-done c =
    let named = subst (λ (z : WorldView). (nodes : List Node) → IsFleet nodes z.fleet → Some c.name_at-name.result ≡ option_map node_name (slice_get nodes c.args.index)) c.self.view_is c.name_at-name.ensures in
    call_outcome _ _ _ _ _ _ _ _ _ _ _ (calls_known c.args.call.now (datagram_of c.args.self.now.sent c.args.call.now) c.args.self.now.fleet.clock) c.as_slice.ensures.value named c.in_ok-news.ensures.done c.in_ok-news.ensures.kept c.report_news.ensures.done

pub returns-clause-error : goal.returns-clause-error
returns-clause-error c =
    let named = subst (λ (z : WorldView). (nodes : List Node) → IsFleet nodes z.fleet → Some c.name_at-name.result ≡ option_map node_name (slice_get nodes c.args.index)) c.self.view_is c.name_at-name.ensures in
    call_error _ _ _ _ _ _ _ _ c.as_slice.ensures.value named c.in_ok-news.ensures.done c.in_ok-news.ensures.kept c.report_news.ensures.error
