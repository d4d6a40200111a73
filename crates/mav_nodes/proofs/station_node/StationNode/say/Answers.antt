use Rattle.std.proofs.Common.{refl, sym, subst, ◌≡◌, None}
use Rattle.mav_nodes.specs.Links.{Link, IsLink}
use Rattle.mav_nodes.specs.Steps.{serves}
use Rattle.mav_nodes.specs.Cores.{IsServed}
use Rattle.mav_nodes.specs.Nodes.{StationSide, StationView}
use Rattle.mav_nodes.specs.Promises.{StationDid}
use Rattle.mav_nodes.proofs.Cores.{if_err}
use Rattle.mav_nodes.proofs.Ends.{fails_so, on_ok}
use Rattle.mav_nodes.proofs.station_node.StationNode.say.Goals as goal

pub returns-clause-done : goal.returns-clause-done
returns-clause-done c =
    on_ok c.say_served.result (λ done link step is served.
    let inside = subst (λ (v : StationView). IsLink link v.link) (sym c.self.view_is) is in
    let was = subst (λ (v : StationView). IsServed step v.services c.args.served) (sym c.self.view_is) served in
    let node : StationSide = record { link = link; core = c.self.inside.station; services = c.self.inside.services } in
    subst (λ (v : StationView). StationDid (serves c.args.clock link v.station step) (record { link = c.say_served.new.link; station = c.self.inside.station; services = c.self.inside.services }) c.args.news.now.items c.say_served.new.news.items) c.self.view_is
    (done node step inside refl was)) c.say_served.ensures.done

pub returns-clause-fault : goal.returns-clause-fault
returns-clause-fault c =
    if_err c.say_served.result (λ fault h step served.
    let was = subst (λ (v : StationView). IsServed step v.services c.args.served) (sym c.self.view_is) served in
    fails_so fault (λ (node : StationSide). IsLink node.link c.self.inside.link) (λ (node : StationSide). serves c.args.clock node.link node.core step) _ (λ (link : Link). IsLink link c.args.self.now.link) (λ (link : Link). serves c.args.clock link c.args.self.now.station step) ⊥ (λ failed. failed.fallible tt)
    (λ link is. (record { link = link; core = c.self.inside.station; services = c.self.inside.services }, subst (λ (v : StationView). IsLink link v.link) (sym c.self.view_is) is, λ none. subst (λ (v : StationView). serves c.args.clock link v.station step ≡ None) c.self.view_is none)) (h step was)) c.say_served.ensures.fault
