use Rattle.std.proofs.Common.{[], ap, ◌∙◌, sym, subst}
use Rattle.mav_messages.specs.declared.messages.Message.{Message}
use Rattle.mav_nodes.specs.Links.{Link, IsLink, sends}
use Rattle.mav_nodes.specs.Steps.{with_core}
use Rattle.mav_nodes.specs.Nodes.{StationSide, IsStation, station_heartbeat, station_beats}
use Rattle.mav_nodes.specs.Promises.{LinkDid}
use Rattle.mav_nodes.proofs.Cores.{if_ok, if_err, core_did}
use Rattle.mav_nodes.proofs.Ends.{fails_so}
use Rattle.mav_nodes.proofs.station_node.StationNode.heartbeat.Goals as goal

pub returns-clause-done : goal.returns-clause-done
returns-clause-done c =
    if_ok c.send.result (λ news sent node is.
    let inside = subst (IsStation node) (sym c.self.view_is) is in
    let beat = subst (λ (m : Message). LinkDid (sends c.args.clock m node.link) c.send.new.link [] news.items) c.station_heartbeat-message.ensures (sent node.link inside.link) in
    core_did node.core node.services (sends c.args.clock station_heartbeat node.link) c.send.new.link (λ (n : StationSide). IsStation n (record { link = c.send.new.link; station = c.self.inside.station; services = c.self.inside.services })) [] news.items beat (λ link l. record { link = l; core = inside.core; services = inside.services })) c.send.ensures.sent

pub returns-clause-fault : goal.returns-clause-fault
returns-clause-fault c =
    if_err c.send.result (λ fault. fails_so fault (λ (end : Link). IsLink end c.self.inside.link) (λ (end : Link). sends c.args.clock c.station_heartbeat-message.result end) _ (λ (node : StationSide). IsStation node c.args.self.now) (λ (node : StationSide). station_beats c.args.clock node) ⊥ (λ failed. failed.fallible tt)
    (λ node is. (node.link, (subst (IsStation node) (sym c.self.view_is) is).link, λ none. ap (with_core node.core node.services []) (ap (λ (m : Message). sends c.args.clock m node.link) (sym c.station_heartbeat-message.ensures) ∙ none)))) c.send.ensures.fault
