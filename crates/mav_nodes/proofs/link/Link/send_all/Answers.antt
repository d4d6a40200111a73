use Rattle.std.proofs.Common.{◌+◌, drop, get_or, refl, sym, subst, arith}
use Rattle.std.proofs.lemmas.List.{drop_more, drop_all}
use Rattle.std.proofs.lemmas.Result.{err_from_is_err_and}
use Rattle.mav_messages.specs.declared.messages.Message.{Message}
use Rattle.mav_messages.specs.declared.messages.Message.TheVariants.{Heartbeat}
use Rattle.mav_nodes.specs.declared.faults.NodeFault.{NodeFault}
use Rattle.mav_nodes.specs.Links.{Link as LinkState, IsLink, sends, sends_all}
use Rattle.mav_nodes.specs.Stores.{HasFailed}
use Rattle.mav_nodes.specs.Promises.{Fails}
use Rattle.mav_nodes.proofs.StoreCalls.{serves_same, raised_same, then_failed, keeps_then}
use Rattle.mav_nodes.proofs.SendsAll.{SentSoFar, held_nearly, at_first, one_more, all_sent, none_sent}
use Rattle.mav_nodes.proofs.link.Link.send_all.Goals as goal

-- the element at an index out of range
abbrev no_message : Message
no_message = Heartbeat (record { ty = 0; autopilot = 0; base_mode = 0; custom_mode = 0; system_status = 0; mavlink_version = 0 })

pub loop-index-init : goal.loop-index-init
loop-index-init g c = record {
  within = omega arith;
  keeps = record { stored = λ held. held; given = tt; raised = raised_same c.args.self.now.low; reader = refl; serves = serves_same g.K.Keeper.faults g.K.Keeper.is_infallible c.args.keeper.now };
  sent = λ link is. at_first c.args.clock c.args.messages.now link c.args.self.now c.args.news.now.items is;
}

pub loop-index-preserved : goal.loop-index-preserved
loop-index-preserved g c =
    let faults = g.K.Keeper.faults in
    let sure = g.K.Keeper.is_infallible in
    let messages = c.args.messages.now in
    let index = c.loop-index.index in
    record {
      within = omega (arith, c.loop-index-test.true);
      keeps = keeps_then c.loop-index.invariant.keeps (held_nearly (g.K.Keeper.contents c.loop-index.keeper) (g.C.Core.stored c.args.core.now) c.loop-index.self.low) (λ h. h) c.in_ok-send.ensures.keeps;
      sent = λ link is. one_more c.args.clock (sends_all c.args.clock messages link) _ (drop (index + 1) messages) c.loop-index.self c.send.new.self c.args.news.now.items c.loop-index.news.items c.send.new.news.items
          (subst (λ left. SentSoFar c.args.clock (sends_all c.args.clock messages link) left c.loop-index.self c.args.news.now.items c.loop-index.news.items) (drop_more messages index no_message c.loop-index-test.true) (c.loop-index.invariant.sent link is)) c.in_ok-send.ensures.sent;
    }

pub returns-clause-sent : goal.returns-clause-sent
returns-clause-sent g c =
    λ link is. all_sent c.args.clock (sends_all c.args.clock c.args.messages.now link) (drop c.loop-index.index c.args.messages.now) c.loop-index.self c.args.news.now.items c.loop-index.news.items (drop_all c.loop-index.index c.args.messages.now (omega (arith, c.loop-index-test.false))) (c.loop-index.invariant.sent link is)

pub returns-clause-keeps : goal.returns-clause-keeps
returns-clause-keeps g c = c.loop-index.invariant.keeps

pub returns-in_err-send : goal.returns-in_err-send
returns-in_err-send g c =
    let p = err_from_is_err_and c.from_residual.result c.from_residual.ensures.1 in
    let faults = g.K.Keeper.faults in
    let sure = g.K.Keeper.is_infallible in
    let then = c.loop-index.keeper in
    let now = c.send.new.keeper in
    let messages = c.args.messages.now in
    let index = c.loop-index.index in
    rw p.1 (record {
      sent = tt;
      keeps = rw p.2 (keeps_then c.loop-index.invariant.keeps (held_nearly (g.K.Keeper.contents then) (g.C.Core.stored c.args.core.now) c.loop-index.self.low) (λ h. h) c.in_err-send.ensures.keeps);
      fault = none_sent c.args.clock messages (get_or messages index no_message) (drop (index + 1) messages) c.args.self.now c.loop-index.self c.args.news.now.items c.loop-index.news.items (HasFailed faults sure then now) (HasFailed faults sure c.args.keeper.now now) p.0
          (then_failed faults sure c.args.keeper.now then now c.loop-index.invariant.keeps.serves)
          (λ link is. subst (λ left. SentSoFar c.args.clock (sends_all c.args.clock messages link) left c.loop-index.self c.args.news.now.items c.loop-index.news.items) (drop_more messages index no_message c.loop-index-test.true) (c.loop-index.invariant.sent link is))
          (subst (λ (f : NodeFault). Fails f (λ (link : LinkState). IsLink link c.loop-index.self) (λ (link : LinkState). sends c.args.clock (get_or messages index no_message) link) (HasFailed faults sure then now)) (sym p.2) c.in_err-send.ensures.fault);
    })
