use Rattle.std.proofs.Common.{Bool, true, inl, refl, ◌∷◌, [], ap, ◌∙◌, sym, subst}
use Rattle.std.proofs.lemmas.List.{append-nil, map-append}
use Rattle.mav_nodes.specs.declared.news.News.TheVariants.{Dropped as NewsDropped}
use Rattle.mav_nodes.specs.News.{said_by, events_of}
use Rattle.mav_nodes.specs.Links.{Outcome, tries}
use Rattle.mav_nodes.specs.Stores.{HasFailed, IsKept}
use Rattle.mav_nodes.specs.Steps.{Side, steps_noted, serves, hears, IsNode}
use Rattle.mav_nodes.specs.Cores.{rules_of}
use Rattle.mav_nodes.specs.Promises.{NodeDid, IsTried, Fails}
use Rattle.mav_nodes.proofs.Cores.{if_ok, if_err, hears_plan, hears_service, hears_other, hears_dropped}
use Rattle.std.proofs.lemmas.Result.{err_from_is_err_and}
use Rattle.mav_nodes.specs.declared.faults.NodeFault.{NodeFault}
use Rattle.mav_nodes.proofs.StoreCalls.{then_failed, raised_twice, keeps_then, keeps_on, keeps_so}
use Rattle.mav_nodes.proofs.GivenUp.{unchanged, took}
use Rattle.mav_nodes.proofs.Keeping.{kept_so, store_fails, frame_fails, served_fails}
use Rattle.mav_nodes.proofs.node.hear.Goals as goal

pub returns-in-Plan-clause-done : goal.returns-in-Plan-clause-done
returns-in-Plan-clause-done g c =
    if_ok c.take.result (λ kept did node is.
    let frame = c.args.frame.now in
    let next : Side g.row.C.Denot g.row.V.Denot = record node { link = tries frame node.link } in
    let same = hears_plan (rules_of g.C.Core.taken g.V.Services.noted g.V.Services.served kept) c.args.clock node frame c.in-Plan.from c.in-Plan.message (subst (IsTried node.link c.args.frame.now) c.in-Plan.is (c.in_ok-from.ensures.tried node.link is.link)) in
    subst (λ (o : Outcome (Side g.row.C.Denot g.row.V.Denot)). NodeDid o c.take.new.link c.take.new.core c.take.new.services c.args.news.now.items c.take.new.news.items) (sym same) (did next (record { link = c.in_ok-from.ensures.link node.link is.link; core = is.core; services = is.services }))) c.take.ensures.done

pub returns-in-Plan-clause-fault : goal.returns-in-Plan-clause-fault
returns-in-Plan-clause-fault g c =
    let faults = g.K.Keeper.faults in
    let sure = g.K.Keeper.is_infallible in
    let frame = c.args.frame.now in
    let from = c.in-Plan.from in
    let message = c.in-Plan.message in
    if_err c.take.result (λ fault. frame_fails (λ (kept : Bool) (node : Side g.row.C.Denot g.row.V.Denot). steps_noted g.V.Services.noted c.args.clock node.link node.services (g.C.Core.taken kept node.core from message)) (λ (kept : Bool) (node : Side g.row.C.Denot g.row.V.Denot). hears (rules_of g.C.Core.taken g.V.Services.noted g.V.Services.served kept) c.args.clock frame node)
    (λ node. IsNode node c.args.link.now c.args.core.now c.args.services.now) (λ node. IsNode node c.hear.new.self c.args.core.now c.args.services.now) (HasFailed faults sure c.hear.new.keeper c.take.new.keeper) (HasFailed faults sure c.args.keeper.now c.take.new.keeper) fault
    (then_failed faults sure c.args.keeper.now c.hear.new.keeper c.take.new.keeper c.hear.ensures.keeps.serves)
    (λ node is. (record node { link = tries frame node.link }, record { link = c.in_ok-from.ensures.link node.link is.link; core = is.core; services = is.services }, λ kept. hears_plan (rules_of g.C.Core.taken g.V.Services.noted g.V.Services.served kept) c.args.clock node frame from message (subst (IsTried node.link c.args.frame.now) c.in-Plan.is (c.in_ok-from.ensures.tried node.link is.link))))) c.take.ensures.fault

pub returns-in-Other-clause-done : goal.returns-in-Other-clause-done
returns-in-Other-clause-done g c =
    λ node is.
    let frame = c.args.frame.now in
    let before = c.args.news.now.items in
    let same = hears_other (rules_of g.C.Core.taken g.V.Services.noted g.V.Services.served true) c.args.clock node frame (subst (IsTried node.link c.args.frame.now) c.in-Other.is (c.in_ok-from.ensures.tried node.link is.link)) in
    subst (λ (o : Outcome (Side g.row.C.Denot g.row.V.Denot)). NodeDid o c.hear.new.self c.args.core.now c.args.services.now before before) (sym same) (record { link = c.in_ok-from.ensures.link node.link is.link; core = is.core; services = is.services }, sym (append-nil (events_of before)))

pub returns-in_ok-tell_dropped-in-Dropped-clause-done : goal.returns-in_ok-tell_dropped-in-Dropped-clause-done
returns-in_ok-tell_dropped-in-Dropped-clause-done g c =
    λ node is.
    let frame = c.args.frame.now in
    let before = c.args.news.now.items in
    let after = c.tell_dropped.new.news.items in
    let why = c.in-Dropped.answer in
    let same = hears_dropped (rules_of g.C.Core.taken g.V.Services.noted g.V.Services.served true) c.args.clock node frame why (subst (IsTried node.link c.args.frame.now) c.in-Dropped.is (c.in_ok-from.ensures.tried node.link is.link)) in
    subst (λ (o : Outcome (Side g.row.C.Denot g.row.V.Denot)). NodeDid o c.hear.new.self c.args.core.now c.args.services.now before after) (sym same) (record { link = c.in_ok-from.ensures.link node.link is.link; core = is.core; services = is.services }, ap events_of c.in_ok-tell_dropped-in-Dropped.ensures.told ∙ map-append said_by before (NewsDropped why ∷ []))

pub returns-in_ok-serve-in-Service-clause-done : goal.returns-in_ok-serve-in-Service-clause-done
returns-in_ok-serve-in-Service-clause-done g c =
    λ node is.
    let frame = c.args.frame.now in
    let before = c.args.news.now.items in
    let next : Side g.row.C.Denot g.row.V.Denot = record node { link = tries frame node.link } in
    let same = hears_service (rules_of g.C.Core.taken g.V.Services.noted g.V.Services.served true) c.args.clock node frame c.in-Service.from c.in-Service.message (subst (IsTried node.link c.args.frame.now) c.in-Service.is (c.in_ok-from.ensures.tried node.link is.link)) in
    subst (λ (o : Outcome (Side g.row.C.Denot g.row.V.Denot)). NodeDid o c.serve.new.link c.args.core.now c.serve.new.services before c.serve.new.news.items) (sym same) (c.in_ok-serve-in-Service.ensures.done next (record { link = c.in_ok-from.ensures.link node.link is.link; core = is.core; services = is.services }))

pub returns-in_err-serve-in-Service : goal.returns-in_err-serve-in-Service
returns-in_err-serve-in-Service g c =
    let p = err_from_is_err_and c.from_residual-in_err-serve-in-Service.result c.from_residual-in_err-serve-in-Service.ensures.1 in
    let faults = g.K.Keeper.faults in
    let sure = g.K.Keeper.is_infallible in
    let frame = c.args.frame.now in
    let from = c.in-Service.from in
    let message = c.in-Service.message in
    let then = c.hear.new.keeper in
    let now = c.serve.new.keeper in
    let one : Side g.row.C.Denot g.row.V.Denot → Outcome (Side g.row.C.Denot g.row.V.Denot) = λ node. serves c.args.clock node.link node.core (g.V.Services.served node.core node.services from message) in
    rw p.1 (record {
      done = tt;
      unkept = tt;
      keeps = rw p.2 (keeps_then c.in_ok-from.ensures.keeps (λ h. h) (λ left node is. unchanged (g.K.Keeper.contents c.serve.new.keeper) g.C.Core.stored g.C.Core.taken c.args.core.now node.link c.args.frame.now c.args.link.now.low c.serve.new.link.low (raised_twice c.args.link.now.low c.hear.new.self.low c.serve.new.link.low c.in_ok-from.ensures.keeps.raised c.in_err-serve-in-Service.ensures.keeps.raised) left) c.in_err-serve-in-Service.ensures.keeps);
      fault = served_fails one (λ (kept : Bool) (node : Side g.row.C.Denot g.row.V.Denot). hears (rules_of g.C.Core.taken g.V.Services.noted g.V.Services.served kept) c.args.clock frame node)
          (λ node. IsNode node c.args.link.now c.args.core.now c.args.services.now) (λ node. IsNode node c.hear.new.self c.args.core.now c.args.services.now) (HasFailed faults sure then now) (HasFailed faults sure c.args.keeper.now now) p.0
          (then_failed faults sure c.args.keeper.now then now c.hear.ensures.keeps.serves)
          (λ node is. (record node { link = tries frame node.link }, record { link = c.in_ok-from.ensures.link node.link is.link; core = is.core; services = is.services }, hears_service (rules_of g.C.Core.taken g.V.Services.noted g.V.Services.served true) c.args.clock node frame from message (subst (IsTried node.link c.args.frame.now) c.in-Service.is (c.in_ok-from.ensures.tried node.link is.link))))
          (subst (λ (f : NodeFault). Fails f (λ (node : Side g.row.C.Denot g.row.V.Denot). IsNode node c.hear.new.self c.args.core.now c.args.services.now) one (HasFailed faults sure then now)) (sym p.2) c.in_err-serve-in-Service.ensures.fault);
    })

pub returns-in_err-from : goal.returns-in_err-from
returns-in_err-from g c =
    let p = err_from_is_err_and c.from_residual.result c.from_residual.ensures.1 in
    let faults = g.K.Keeper.faults in
    let sure = g.K.Keeper.is_infallible in
    let old = c.args.keeper.now in
    let now = c.hear.new.keeper in
    rw (p.1, p.2) (record {
      done = tt;
      unkept = tt;
      keeps = keeps_so (λ left node is. unchanged (g.K.Keeper.contents c.hear.new.keeper) g.C.Core.stored g.C.Core.taken c.args.core.now node.link c.args.frame.now c.args.link.now.low c.hear.new.self.low (c.in_err-from.ensures.keeps.raised) left) c.in_err-from.ensures.keeps;
      fault = store_fails _ (λ (node : Side g.row.C.Denot g.row.V.Denot). IsNode node c.args.link.now c.args.core.now c.args.services.now) (λ (kept : Bool) (node : Side g.row.C.Denot g.row.V.Denot). hears (rules_of g.C.Core.taken g.V.Services.noted g.V.Services.served kept) c.args.clock c.args.frame.now node) (λ (kept : Bool). IsKept kept (HasFailed faults sure old now)) faults sure old now (HasFailed faults sure old now) (λ failed. failed) c.in_err-from.ensures.fault;
    })

pub returns-in-Plan-clause-unkept : goal.returns-in-Plan-clause-unkept
returns-in-Plan-clause-unkept g c =
    if_ok c.take.result (λ kept is. kept_so kept (then_failed g.K.Keeper.faults g.K.Keeper.is_infallible c.args.keeper.now c.hear.new.keeper c.take.new.keeper c.hear.ensures.keeps.serves) is) c.take.ensures.unkept

pub returns-in-Plan-clause-keeps : goal.returns-in-Plan-clause-keeps
returns-in-Plan-clause-keeps g c =
    keeps_then c.in_ok-from.ensures.keeps (λ h. h)
    (λ left node is. took (g.K.Keeper.contents c.take.new.keeper) g.C.Core.stored g.C.Core.taken c.args.core.now node.link c.args.frame.now c.args.link.now.low c.hear.new.self.low c.in-Plan.from c.in-Plan.message (subst (IsTried node.link c.args.frame.now) c.in-Plan.is (c.in_ok-from.ensures.tried node.link is.link)) c.in_ok-from.ensures.keeps.raised left) c.take.ensures.keeps

pub returns-in_ok-serve-in-Service-clause-unkept : goal.returns-in_ok-serve-in-Service-clause-unkept
returns-in_ok-serve-in-Service-clause-unkept g c = inl refl

pub returns-in_ok-serve-in-Service-clause-keeps : goal.returns-in_ok-serve-in-Service-clause-keeps
returns-in_ok-serve-in-Service-clause-keeps g c =
    keeps_then c.in_ok-from.ensures.keeps (λ h. h)
    (λ left node is. unchanged (g.K.Keeper.contents c.serve.new.keeper) g.C.Core.stored g.C.Core.taken c.args.core.now node.link c.args.frame.now c.args.link.now.low c.serve.new.link.low (raised_twice c.args.link.now.low c.hear.new.self.low c.serve.new.link.low c.in_ok-from.ensures.keeps.raised c.in_ok-serve-in-Service.ensures.keeps.raised) left) c.in_ok-serve-in-Service.ensures.keeps

pub returns-in_err-tell_dropped-in-Dropped : goal.returns-in_err-tell_dropped-in-Dropped
returns-in_err-tell_dropped-in-Dropped g c =
    let p = err_from_is_err_and c.from_residual-in_err-tell_dropped-in-Dropped.result c.from_residual-in_err-tell_dropped-in-Dropped.ensures.1 in
    rw (p.1, p.2, c.in_err-tell_dropped-in-Dropped.ensures.fault) (record {
      done = tt;
      unkept = tt;
      keeps = keeps_on c.in_ok-from.ensures.keeps (λ held node is. unchanged (g.K.Keeper.contents c.hear.new.keeper) g.C.Core.stored g.C.Core.taken c.args.core.now node.link c.args.frame.now c.args.link.now.low c.hear.new.self.low c.in_ok-from.ensures.keeps.raised (inl held));
      fault = tt;
    })

pub returns-in-Other-clause-unkept : goal.returns-in-Other-clause-unkept
returns-in-Other-clause-unkept g c = inl refl

pub returns-in-Other-clause-keeps : goal.returns-in-Other-clause-keeps
returns-in-Other-clause-keeps g c =
    keeps_on c.in_ok-from.ensures.keeps (λ held node is. unchanged (g.K.Keeper.contents c.hear.new.keeper) g.C.Core.stored g.C.Core.taken c.args.core.now node.link c.args.frame.now c.args.link.now.low c.hear.new.self.low c.in_ok-from.ensures.keeps.raised (inl held))

pub returns-in_ok-tell_dropped-in-Dropped-clause-unkept : goal.returns-in_ok-tell_dropped-in-Dropped-clause-unkept
returns-in_ok-tell_dropped-in-Dropped-clause-unkept g c = inl refl

pub returns-in_ok-tell_dropped-in-Dropped-clause-keeps : goal.returns-in_ok-tell_dropped-in-Dropped-clause-keeps
returns-in_ok-tell_dropped-in-Dropped-clause-keeps g c =
    keeps_on c.in_ok-from.ensures.keeps (λ held node is. unchanged (g.K.Keeper.contents c.hear.new.keeper) g.C.Core.stored g.C.Core.taken c.args.core.now node.link c.args.frame.now c.args.link.now.low c.hear.new.self.low c.in_ok-from.ensures.keeps.raised (inl held))
