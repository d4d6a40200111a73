use Rattle.std.proofs.Common.{[], sym, subst}
use Rattle.plan_upload.specs.Station.{StationState}
use Rattle.mav_nodes.specs.Links.{Outcome}
use Rattle.mav_nodes.specs.Services.{StationServices}
use Rattle.mav_nodes.specs.Steps.{serves}
use Rattle.mav_nodes.specs.Cores.{IsServed}
use Rattle.mav_nodes.specs.Nodes.{StationSide, IsStation, service_step}
use Rattle.mav_nodes.specs.Promises.{StationDid}
use Rattle.mav_nodes.proofs.Ends.{asks}
use Rattle.mav_nodes.proofs.station_node.StationNode.ask.Goals as goal

pub returns-in-Ok-clause-done : goal.returns-in-Ok-clause-done
returns-in-Ok-clause-done c =
    λ node is.
    let inside = subst (IsStation node) (sym c.self.view_is) is in
    let step = service_step node.services c.args.order in
    let served = subst (λ (v : StationServices). IsServed (service_step v c.args.order) c.ask.new.self c.in_ok-served.served) inside.services c.in_ok-served.ensures.done in
    let did = c.in-Ok.ensures.done node.link step inside.link served in
    let here = subst (λ (core : StationState). StationDid (serves c.args.clock node.link core step) c.say.new.self c.new-news.result.items c.say.new.news.items) inside.core did in
    let clean = subst (λ before. StationDid (serves c.args.clock node.link node.core step) c.say.new.self before c.say.new.news.items) c.new-news.ensures.items here in
    subst (λ (o : Outcome StationSide). StationDid o c.say.new.self [] c.say.new.news.items) (sym (asks c.args.clock c.args.order node c.requires)) clean
