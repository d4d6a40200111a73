use Rattle.std.proofs.Common.{◌++◌, List, inl, sym, ap, ◌∙◌, subst}
use Rattle.std.proofs.lemmas.List.{map-append}
use Rattle.std.proofs.lemmas.Result.{err_from_is_err_and}
use Rattle.mav_messages.specs.declared.messages.Message.{Message}
use Rattle.mav_nodes.specs.News.{Shown, said_by, events_of}
use Rattle.mav_nodes.specs.Links.{Link, IsLink, sends_all}
use Rattle.mav_nodes.specs.Steps.{Side, serves}
use Rattle.mav_nodes.specs.Stores.{HasFailed}
use Rattle.mav_nodes.specs.Promises.{LinkDid}
use Rattle.mav_nodes.proofs.Cores.{if_err, fails_for_memory, answered_all, serves_none}
use Rattle.mav_nodes.proofs.Ends.{on_ok, fails_so}
use Rattle.mav_nodes.proofs.StoreCalls.{keeps_on}
use Rattle.mav_nodes.proofs.node.say_served.Goals as goal

pub returns-in_err-send_all : goal.returns-in_err-send_all
returns-in_err-send_all g c =
    let p = err_from_is_err_and c.from_residual.result c.from_residual.ensures.1 in
    let failed = HasFailed g.K.Keeper.faults g.K.Keeper.is_infallible c.args.keeper.now c.send_all.new.keeper in
    rw (p.1, p.2) (record {
      done = tt;
      keeps = c.in_err-send_all.ensures.keeps;
      fault = λ step served.
          fails_so _ (λ (link : Link). IsLink link c.args.link.now) (λ (link : Link). sends_all c.args.clock c.deref.result.now link) failed (λ (node : Side g.row.C.Denot g.row.V.Denot). IsLink node.link c.args.link.now) (λ (node : Side g.row.C.Denot g.row.V.Denot). serves c.args.clock node.link node.core step) failed (λ h. h)
          (λ node is. (node.link, is, λ none. serves_none c.args.clock node.link node.core step (ap (λ (ms : List Message). sends_all c.args.clock ms node.link) (sym (c.deref.ensures.value ∙ served.answers)) ∙ none))) c.in_err-send_all.ensures.fault;
    })

pub returns : goal.returns
returns g c =
    let one = c.args.news.now.items in
    let two = c.send_all.new.news.items in
    let three = c.tell_all.new.news.items in
    record {
      done = on_ok c.tell_all.result (λ told node step is core served.
          answered_all c.args.clock node.link node.core c.args.core.now step c.args._services.now c.send_all.new.self one two three core served.services
          (subst (λ (ms : List Message). LinkDid (sends_all c.args.clock ms node.link) c.send_all.new.self one two) (c.deref.ensures.value ∙ served.answers) (c.in_ok-send_all.ensures.sent node.link is))
          (ap events_of told ∙ (map-append said_by two c.args.served.last.items ∙ ap (λ (l : List Shown). events_of two ++ l) served.last))) c.tell_all.ensures.told;
      keeps = keeps_on c.in_ok-send_all.ensures.keeps inl;
      fault = if_err c.tell_all.result (λ fault is step served. fails_for_memory fault _ _ _ is) c.tell_all.ensures.fault;
    }
