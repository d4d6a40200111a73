use Rattle.std.proofs.Common.{List, [], ◌∙◌, ◌≡◌, None, sym, subst}
use Rattle.plan_upload.specs.Station.{StationState}
use Rattle.mav_nodes.specs.declared.news.News.{News}
use Rattle.mav_nodes.specs.Nodes.{StationSide, IsStation, StationView, order_refusal, order_step, station_does, station_obeys}
use Rattle.mav_nodes.specs.Cores.{IsStep, says}
use Rattle.mav_nodes.specs.Promises.{NodeDid, LinkDid}
use Rattle.mav_nodes.proofs.Cores.{stepped, steps_none}
use Rattle.mav_nodes.proofs.Ends.{obeys, unasked, order_fails}
use Rattle.mav_nodes.proofs.station_node.StationNode.order.Goals.{in-Ok, in-Err}
use Rattle.mav_nodes.proofs.station_node.StationNode.order.Goals as goal

pub returns-clause-done : goal.returns-clause-done
returns-clause-done c =
    let unserved = sym c.is_for_services.ensures ∙ c.if-is_for_services.false in
    elim c.match-say.branch [
      | in-Ok w ↦
          rw w.result-is (λ node is.
          let inside = subst (IsStation node) (sym c.self.view_is) is in
          let did = station_does (order_step node.core c.args.order) in
          let after = c.say.new.news.items in
          let step = subst (λ (core : StationState). IsStep (station_does (order_step core c.args.order)) c.step_of-step.new.station c.step_of-step.result) inside.core (c.step_of-step.ensures (order_step c.self.inside.station c.args.order) c.in_ok-answer.ensures.station c.in_ok-answer.ensures.answer) in
          let said = w.in-Ok.ensures.said node.link did.first did.last inside.link step.first step.last in
          let clean = subst (λ (before : List News). LinkDid (says c.args.clock did.first c.step_of-step.result.answer did.last node.link) c.say.new.self before after) c.new-news.ensures.items said in
          subst (λ o. NodeDid o c.say.new.self c.step_of-step.new.station c.self.inside.services [] after) (sym (obeys c.args.clock c.args.order node unserved)) (stepped c.args.clock node.link node.services c.self.inside.services did c.step_of-step.new.station c.step_of-step.result c.say.new.self [] after inside.services step clean))
      | in-Err w ↦ rw w.result-is tt
    ]

pub returns-clause-fault : goal.returns-clause-fault
returns-clause-fault c =
    let unserved = sym c.is_for_services.ensures ∙ c.if-is_for_services.false in
    elim c.match-say.branch [
      | in-Ok w ↦ rw w.result-is tt
      | in-Err w ↦
          rw w.result-is (
            unasked c.args.order c.args.self.now unserved (subst (λ (v : StationView). order_refusal v.station c.args.order ≡ None) c.self.view_is c.in_ok-answer.ensures.accepted),
            order_fails c.args.clock c.self.inside.link c.step_of-step.result.answer _ (λ (node : StationSide). IsStation node c.args.self.now) (λ (node : StationSide). station_obeys c.args.clock c.args.order node) w.in-Err.fault (λ failed. failed.fallible tt) (λ node is.
                let inside = subst (IsStation node) (sym c.self.view_is) is in
                let did = station_does (order_step node.core c.args.order) in
                let step = subst (λ (core : StationState). IsStep (station_does (order_step core c.args.order)) c.step_of-step.new.station c.step_of-step.result) inside.core (c.step_of-step.ensures (order_step c.self.inside.station c.args.order) c.in_ok-answer.ensures.station c.in_ok-answer.ensures.answer) in
                (node.link, inside.link, did.first, did.last, λ none. obeys c.args.clock c.args.order node unserved ∙ steps_none c.args.clock node.link node.services did c.step_of-step.new.station c.step_of-step.result step none)) w.in-Err.ensures.fault,
          )
    ]
