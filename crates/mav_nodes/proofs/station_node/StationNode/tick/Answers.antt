use Rattle.std.proofs.Common.{[], sym, subst}
use Rattle.std.proofs.lemmas.Result.{err_from_is_err_and}
use Rattle.mav_nodes.specs.declared.faults.NodeFault.{NodeFault}
use Rattle.mav_nodes.specs.Services.{station_waits}
use Rattle.mav_nodes.specs.Links.{Link, IsLink}
use Rattle.mav_nodes.specs.Steps.{serves}
use Rattle.mav_nodes.specs.Nodes.{StationView}
use Rattle.mav_nodes.specs.Promises.{StationDid, Fails}
use Rattle.mav_nodes.proofs.Ends.{core_tick, ticked, tick_spent}
use Rattle.mav_nodes.proofs.station_node.StationNode.tick.Goals as goal

pub returns-clause-done : goal.returns-clause-done
returns-clause-done c =
    λ node is.
    let mid : StationView = record { link = c.self.inside.link; station = c.self.inside.station; services = c.self.inside.services } in
    let one = c.in_ok-news.news.items in
    ticked c.args.clock node mid c.say.new.self one c.say.new.news.items (subst (λ (v : StationView). StationDid (core_tick c.args.clock node) v [] one) (sym c.self.view_is) (c.in_ok-news.ensures.done node is)) (λ link at.
    c.in_ok-say.ensures.done link (station_waits c.self.inside.services) at c.in_ok-served.ensures)

pub returns-in_err-say-clause-fault : goal.returns-in_err-say-clause-fault
returns-in_err-say-clause-fault c =
    let p = err_from_is_err_and c.from_residual-in_err-say.result c.from_residual-in_err-say.ensures.1 in
    let mid : StationView = record { link = c.self.inside.link; station = c.self.inside.station; services = c.self.inside.services } in
    let one = c.in_ok-news.news.items in
    rw p.1 (tick_spent c.args.clock c.args.self.now mid one p.0
    (λ node is. subst (λ (v : StationView). StationDid (core_tick c.args.clock node) v [] one) (sym c.self.view_is) (c.in_ok-news.ensures.done node is))
    (subst (λ (f : NodeFault). Fails f (λ (link : Link). IsLink link mid.link) (λ (link : Link). serves c.args.clock link mid.station (station_waits mid.services)) ⊥) (sym p.2) (c.in_err-say.ensures.fault (station_waits c.self.inside.services) c.in_ok-served.ensures)))
