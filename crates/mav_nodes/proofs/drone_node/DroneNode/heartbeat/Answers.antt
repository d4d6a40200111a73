use Rattle.std.proofs.Common.{[], ap, ◌∙◌, sym, subst}
use Rattle.mav_messages.specs.declared.messages.Message.{Message}
use Rattle.drone_sim.specs.Sim.{armed}
use Rattle.mav_nodes.specs.Links.{sends}
use Rattle.mav_nodes.specs.Services.{DroneServices}
use Rattle.mav_nodes.specs.Nodes.{DroneSide, IsDrone, drone_heartbeat}
use Rattle.mav_nodes.specs.Promises.{LinkDid}
use Rattle.mav_nodes.proofs.Cores.{if_ok, core_did}
use Rattle.mav_nodes.proofs.drone_node.DroneNode.heartbeat.Goals as goal

pub returns-clause-done : goal.returns-clause-done
returns-clause-done g c =
    if_ok c.send.result (λ news sent node is.
    let inside = subst (IsDrone node) (sym c.self.view_is) is in
    let beat = subst (λ (m : Message). LinkDid (sends c.args.clock m node.link) c.send.new.link [] news.items) (c.drone_heartbeat-message.ensures ∙ ap drone_heartbeat (c.armed.ensures ∙ ap armed (c.sim.ensures ∙ ap (λ (v : DroneServices). v.sim) inside.services))) (sent node.link inside.link) in
    core_did node.core node.services (sends c.args.clock (drone_heartbeat (armed node.services.sim)) node.link) c.send.new.link (λ (n : DroneSide). IsDrone n (record { link = c.send.new.link; drone = c.self.inside.drone; services = c.self.inside.services })) [] news.items beat (λ link l. record { link = l; core = inside.core; services = inside.services })) c.send.ensures.sent
