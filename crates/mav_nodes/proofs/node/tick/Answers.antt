use Rattle.std.proofs.Common.{List, [], sym, subst}
use Rattle.std.proofs.lemmas.Result.{err_from_is_err_and}
use Rattle.mav_nodes.specs.declared.faults.NodeFault.{NodeFault}
use Rattle.mav_nodes.specs.declared.news.News.{News}
use Rattle.mav_nodes.specs.Links.{Link, IsLink}
use Rattle.mav_nodes.specs.Stores.{HasFailed}
use Rattle.mav_nodes.specs.Cores.{IsStep, says}
use Rattle.mav_nodes.specs.Promises.{LinkDid, Fails}
use Rattle.mav_nodes.proofs.Cores.{stepped}
use Rattle.mav_nodes.proofs.Keeping.{tick_fails}
use Rattle.mav_nodes.proofs.StoreCalls.{same_held, held_before, from_so, from_raised}
use Rattle.mav_nodes.proofs.node.tick.Goals as goal

pub returns-in_err-say-clause-fault : goal.returns-in_err-say-clause-fault
returns-in_err-say-clause-fault g c =
    let p = err_from_is_err_and c.from_residual.result c.from_residual.ensures.1 in
    let step = c.wait-step.result in
    let failed = HasFailed g.K.Keeper.faults g.K.Keeper.is_infallible c.args.keeper.now c.say.new.keeper in
    rw p.1 (tick_fails c.args.clock g.C.Core.waited c.args.link.now c.args.core.now c.wait-step.new.self c.args._services.now step failed p.0 c.wait-step.ensures.step
    (λ first last. subst (λ (f : NodeFault). Fails f (λ (link : Link). IsLink link c.args.link.now) (λ (link : Link). says c.args.clock first step.answer last link) failed) (sym p.2) (c.in_err-say.ensures.fault first last)))

pub returns-clause-done : goal.returns-clause-done
returns-clause-done g c =
    λ node is.
    let waited = g.C.Core.waited in
    let did = waited node.core in
    let given = c.wait-step.result in
    let after = c.say.new.news.items in
    let step = subst (λ (core : g.row.C.Denot). IsStep (waited core) c.wait-step.new.self given) is.core c.wait-step.ensures.step in
    let said = c.in_ok-say.ensures.said node.link did.first did.last is.link step.first step.last in
    stepped c.args.clock node.link node.services c.args._services.now did c.wait-step.new.self given c.say.new.self [] after is.services step (subst (λ (before : List News). LinkDid (says c.args.clock did.first given.answer did.last node.link) c.say.new.self before after) c.new-news.ensures.items said)

pub returns-in_err-say-clause-keeps : goal.returns-in_err-say-clause-keeps
returns-in_err-say-clause-keeps g c =
    let p = err_from_is_err_and c.from_residual.result c.from_residual.ensures.1 in
    let low = c.args.link.now.low in
    let said = c.in_err-say.ensures.keeps in
    rw (p.1, p.2) (record {
      stored = tt;
      given = λ held.
          let now = same_held (g.K.Keeper.contents c.args.keeper.now) (g.C.Core.stored c.args.core.now) (g.C.Core.stored c.wait-step.new.self) low c.wait-step.ensures.stored held in
          from_so (g.K.Keeper.contents c.say.new.keeper) (g.C.Core.stored c.wait-step.new.self) (g.C.Core.stored c.args.core.now) low c.wait-step.ensures.same
          (from_raised (g.K.Keeper.contents c.say.new.keeper) (g.C.Core.stored c.wait-step.new.self) low c.say.new.self.low said.raised (said.given (held_before (g.K.Keeper.contents c.args.keeper.now) (g.C.Core.stored c.wait-step.new.self) low c.wait-step.result.answer now)));
      raised = said.raised;
      reader = said.reader;
      serves = said.serves;
    })
