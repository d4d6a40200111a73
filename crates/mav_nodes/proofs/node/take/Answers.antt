use Rattle.std.proofs.Common.{◌≡◌, ◌⊎◌, ℕ, Bool, true, false, List, [], Option, Some, None, inl, inr, refl, sym, ap, ◌∙◌, subst, arith}
use Rattle.std.specs.Prelude.{IfSome}
use Rattle.mav_ports.specs.Counts.{Rose, next_count}
use Rattle.plan_items.specs.declared.messages.PlanMsg.{PlanMsg}
use Rattle.mav_nodes.specs.Steps.{Side, steps_noted, IsNode}
use Rattle.std.proofs.lemmas.Result.{err_from_is_err_and}
use Rattle.mav_nodes.specs.declared.faults.NodeFault.{NodeFault}
use Rattle.mav_nodes.specs.declared.faults.NodeFault.TheVariants.{StampsSpent, Store, NoMemory}
use Rattle.mav_nodes.specs.Links.{Link, IsLink, Outcome}
use Rattle.mav_nodes.specs.Stores.{Holds, HoldsNearly, HoldsFrom, GivenUp, StoredBefore, EndsStep, HasFailed, HasFailedTwice, IsKept}
use Rattle.mav_nodes.specs.Cores.{IsStep, says}
use Rattle.mav_nodes.specs.Promises.{Fails}
use Rattle.mav_nodes.proofs.Cores.{stepped}
use Rattle.mav_nodes.proofs.StoreCalls.{failed_then, then_failed, serves_both, raised_same, from_raised}
use Rattle.mav_nodes.proofs.Keeping.{kept_so, store_fails, step_fails}
use Rattle.mav_nodes.proofs.node.take.Goals as goal

-- what the store has before the reply
stored_before : {Core : Type 0} (contents : Option (List ℕ)) (stored : Core → ℕ → List ℕ → Type 0) (view core : Core) (given answer : Option PlanMsg) (low : Option ℕ) → view ≡ core → given ≡ answer → (answer ≡ None → Holds contents (stored core) low) → HoldsNearly contents (stored core) low → StoredBefore given contents (stored view) low
stored_before {Core} contents stored view core given answer low same is silent nearly =
    subst (λ (c : Core). StoredBefore given contents (stored c) low) (sym same) (subst (λ (a : Option PlanMsg). StoredBefore a contents (stored core) low) (sym is) (by_answer answer silent))
  where
    by_answer : (a : Option PlanMsg) → (a ≡ None → Holds contents (stored core) low) → StoredBefore a contents (stored core) low
    by_answer None f = f refl
    by_answer (Some message) f = nearly

-- a step that the store keeps is one of its steps
taken_given : {Core : Type 0} (contents : Option (List ℕ)) (stored : Core → ℕ → List ℕ → Type 0) (taken : Bool → Core) (core : Core) (low : Option ℕ)
    → GivenUp contents stored low (λ after. (after ≡ core) ⊎ (after ≡ taken true)) → GivenUp contents stored low (λ after. (after ≡ core) ⊎ ((kept : Bool) × (after ≡ taken kept)))
taken_given {Core} contents stored taken core low h = record { core = h.core; may_be = by_core h.may_be; holds = h.holds }
  where
    by_core : (h.core ≡ core) ⊎ (h.core ≡ taken true) → (h.core ≡ core) ⊎ ((kept : Bool) × (h.core ≡ taken kept))
    by_core (inl e) = inl e
    by_core (inr e) = inr (true, e)

whatever : {P : Type 0} (contents : Option (List ℕ)) (old : List ℕ) → P → IfSome contents (λ kept. kept ≡ old → P)
whatever None old p = tt
whatever (Some kept) old p = λ e. p

twice : (a b c : ℕ) → Rose a b → Rose b c → Rose (next_count a) c
twice a b c first second = omega (arith, first, second)

-- the reply to a step failed: the store has the step, or its save failed too
step_ends : {Core Store A B : Type 0} (fault : NodeFault) (kept : Bool) (contents then : Option (List ℕ)) (stored : Core → ℕ → List ℕ → Type 0) (core : Core) (taken : Bool → Core) (low : Option ℕ) (faults : Store → ℕ) (sure : Store → Type 0) (a b c : Store) (Is : A → Type 0) (does : A → Outcome B) → IsKept kept (HasFailed faults sure a b) → Fails fault Is does (HasFailed faults sure b c) → HoldsFrom then (stored (taken kept)) low → EndsStep fault contents then stored core (taken true) low (faults a) (faults c)
step_ends fault true contents then stored core taken low faults sure a b c Is does is failed holds = inr holds
step_ends StampsSpent false contents then stored core taken low faults sure a b c Is does is failed holds = inl tt
step_ends NoMemory false contents then stored core taken low faults sure a b c Is does is failed holds = inl tt
step_ends Store false contents then stored core taken low faults sure a b c Is does (inl e) failed holds = absurd (cc)
step_ends Store false contents then stored core taken low faults sure a b c Is does (inr first) failed holds = inl (λ old at. whatever contents old (twice (faults a) (faults b) (faults c) first.count failed.count))

pub returns-in_err-kept : goal.returns-in_err-kept
returns-in_err-kept g c =
    let p = err_from_is_err_and c.from_residual.result c.from_residual.ensures.1 in
    let faults = g.K.Keeper.faults in
    let sure = g.K.Keeper.is_infallible in
    let old = c.args.keeper.now in
    let now = c.save_step.new.keeper in
    rw (p.1, p.2) (record {
      done = tt;
      unkept = tt;
      keeps = record {
        stored = tt;
        given = λ held. taken_given (g.K.Keeper.contents now) g.C.Core.stored (λ kept. (g.C.Core.taken kept c.args.core.now c.args.from c.args.message.now).core) c.args.core.now c.args.link.now.low
            (subst (λ (low : Option ℕ). GivenUp (g.K.Keeper.contents now) g.C.Core.stored low (λ after. (after ≡ c.args.core.now) ⊎ (after ≡ (g.C.Core.taken true c.args.core.now c.args.from c.args.message.now).core))) c.low.ensures.low
            (c.in_err-kept.ensures.given (subst (Holds (g.K.Keeper.contents old) (g.C.Core.stored c.args.core.now)) (sym c.low.ensures.low) held)));
        raised = raised_same c.args.link.now.low;
        reader = refl;
        serves = c.save_step.ensures.serves;
      };
      fault = store_fails _ (λ (node : Side g.row.C.Denot g.row.V.Denot). IsNode node c.args.link.now c.args.core.now c.args.services.now) (λ (kept : Bool) (node : Side g.row.C.Denot g.row.V.Denot). steps_noted g.V.Services.noted c.args.clock node.link node.services (g.C.Core.taken kept node.core c.args.from c.args.message.now)) (λ (kept : Bool). IsKept kept (HasFailed faults sure old now)) faults sure old now (HasFailed faults sure old now) (λ failed. failed) c.in_err-kept.ensures.fault;
      ends = λ held. inl (subst (λ (low : Option ℕ). HasFailedTwice c.in_err-kept.field-0.0 (g.K.Keeper.contents old) (g.C.Core.stored c.args.core.now) low (faults old) (faults now)) c.low.ensures.low c.in_err-kept.ensures.twice);
    })

pub returns-in_err-say-clause-fault : goal.returns-in_err-say-clause-fault
returns-in_err-say-clause-fault g c =
    let p = err_from_is_err_and c.from_residual-in_err-say.result c.from_residual-in_err-say.ensures.1 in
    let kept = c.in_ok-kept.kept in
    let step = c.take-step.result in
    let faults = g.K.Keeper.faults in
    let sure = g.K.Keeper.is_infallible in
    let old = c.args.keeper.now in
    let then = c.save_step.new.keeper in
    let now = c.say.new.keeper in
    rw p.1 (step_fails c.args.clock (λ kept core. g.C.Core.taken kept core c.args.from c.args.message.now) g.V.Services.noted kept c.args.link.now c.args.core.now c.take-step.new.self c.args.services.now step (HasFailed faults sure then now) (HasFailed faults sure old now) p.0 c.take-step.ensures
    (kept_so kept (λ failed. failed_then faults sure old then now failed c.say.ensures.keeps.serves) c.in_ok-kept.ensures.unkept)
    (then_failed faults sure old then now c.save_step.ensures.serves)
    (λ first last. subst (λ (f : NodeFault). Fails f (λ (link : Link). IsLink link c.args.link.now) (λ (link : Link). says c.args.clock first step.answer last link) (HasFailed faults sure then now)) (sym p.2) (c.in_err-say.ensures.fault first last)))

pub returns-in_err-say-clause-ends : goal.returns-in_err-say-clause-ends
returns-in_err-say-clause-ends g c =
    let p = err_from_is_err_and c.from_residual-in_err-say.result c.from_residual-in_err-say.ensures.1 in
    let kept = c.in_ok-kept.kept in
    let contents = g.K.Keeper.contents c.save_step.new.keeper in
    let now = g.K.Keeper.contents c.say.new.keeper in
    let step = c.take-step.result in
    let core = c.take-step.new.self in
    let taken : Bool → g.row.C.Denot = λ b. (g.C.Core.taken b c.args.core.now c.args.from c.args.message.now).core in
    let did = g.C.Core.taken kept c.args.core.now c.args.from c.args.message.now in
    let said = c.in_err-say.ensures.keeps in
    rw (p.1, p.2) (λ held.
    let before = subst (Holds (g.K.Keeper.contents c.args.keeper.now) (g.C.Core.stored c.args.core.now)) (sym c.low.ensures.low) held in
    let holds = from_raised now (g.C.Core.stored core) c.args.link.now.low c.say.new.self.low said.raised
    (said.given (subst (λ (low : Option ℕ). StoredBefore step.answer contents (g.C.Core.stored core) low) c.low.ensures.low
    (stored_before contents g.C.Core.stored core did.core step.answer did.answer c.low.result c.take-step.ensures.core c.take-step.ensures.answer (λ none. c.in_ok-kept.ensures.silent none before) (c.in_ok-kept.ensures.nearly before)))) in
    step_ends c.in_err-say.field-0.0 kept (g.K.Keeper.contents c.args.keeper.now) now g.C.Core.stored c.args.core.now taken c.args.link.now.low g.K.Keeper.faults g.K.Keeper.is_infallible c.args.keeper.now c.save_step.new.keeper c.say.new.keeper (λ (link : Link). IsLink link c.args.link.now) (λ (link : Link). says c.args.clock [] step.answer [] link) c.in_ok-kept.ensures.unkept (c.in_err-say.ensures.fault [] [])
    (subst (λ (one : g.row.C.Denot). HoldsFrom now (g.C.Core.stored one) c.args.link.now.low) c.take-step.ensures.core holds))

pub returns-clause-done : goal.returns-clause-done
returns-clause-done g c =
    λ node is.
    let kept = c.in_ok-kept.kept in
    let step = c.take-step.result in
    let did = g.C.Core.taken kept node.core c.args.from c.args.message.now in
    let s = subst (λ (core : g.row.C.Denot). IsStep (g.C.Core.taken kept core c.args.from c.args.message.now) c.take-step.new.self step) is.core c.take-step.ensures in
    let noted = c.note.ensures did.first s.first ∙ ap (λ (v : g.row.V.Denot). g.V.Services.noted v did.first) is.services in
    stepped c.args.clock node.link (g.V.Services.noted node.services did.first) c.note.new.self did c.take-step.new.self step c.say.new.self c.args.news.now.items c.say.new.news.items noted s (c.in_ok-say.ensures.said node.link did.first did.last is.link s.first s.last)

pub returns-clause-unkept : goal.returns-clause-unkept
returns-clause-unkept g c =
    kept_so c.in_ok-kept.kept (λ failed. failed_then g.K.Keeper.faults g.K.Keeper.is_infallible c.args.keeper.now c.save_step.new.keeper c.say.new.keeper failed c.say.ensures.keeps.serves) c.in_ok-kept.ensures.unkept

pub returns-in_err-say-clause-keeps : goal.returns-in_err-say-clause-keeps
returns-in_err-say-clause-keeps g c =
    let p = err_from_is_err_and c.from_residual-in_err-say.result c.from_residual-in_err-say.ensures.1 in
    let faults = g.K.Keeper.faults in
    let sure = g.K.Keeper.is_infallible in
    let contents = g.K.Keeper.contents c.save_step.new.keeper in
    let now = g.K.Keeper.contents c.say.new.keeper in
    let step = c.take-step.result in
    let core = c.take-step.new.self in
    let did = g.C.Core.taken c.in_ok-kept.kept c.args.core.now c.args.from c.args.message.now in
    let said = c.in_err-say.ensures.keeps in
    rw (p.1, p.2) (record {
      stored = tt;
      given = λ held.
          let before = subst (Holds (g.K.Keeper.contents c.args.keeper.now) (g.C.Core.stored c.args.core.now)) (sym c.low.ensures.low) held in
          record {
            core = core;
            may_be = inr (c.in_ok-kept.kept, c.take-step.ensures.core);
            holds = from_raised now (g.C.Core.stored core) c.args.link.now.low c.say.new.self.low said.raised
                (said.given (subst (λ (low : Option ℕ). StoredBefore step.answer contents (g.C.Core.stored core) low) c.low.ensures.low
                (stored_before contents g.C.Core.stored core did.core step.answer did.answer c.low.result c.take-step.ensures.core c.take-step.ensures.answer (λ none. c.in_ok-kept.ensures.silent none before) (c.in_ok-kept.ensures.nearly before))));
          };
      raised = said.raised;
      reader = said.reader;
      serves = serves_both faults sure c.args.keeper.now c.save_step.new.keeper c.say.new.keeper c.save_step.ensures.serves said.serves;
    })

pub returns-clause-keeps : goal.returns-clause-keeps
returns-clause-keeps g c =
    let faults = g.K.Keeper.faults in
    let sure = g.K.Keeper.is_infallible in
    let contents = g.K.Keeper.contents c.save_step.new.keeper in
    let step = c.take-step.result in
    let did = g.C.Core.taken c.in_ok-kept.kept c.args.core.now c.args.from c.args.message.now in
    let said = c.in_ok-say.ensures.keeps in
    record {
      stored = λ held.
          let before = subst (Holds (g.K.Keeper.contents c.args.keeper.now) (g.C.Core.stored c.args.core.now)) (sym c.low.ensures.low) held in
          said.stored (subst (λ (low : Option ℕ). StoredBefore step.answer contents (g.C.Core.stored c.take-step.new.self) low) c.low.ensures.low
          (stored_before contents g.C.Core.stored c.take-step.new.self did.core step.answer did.answer c.low.result c.take-step.ensures.core c.take-step.ensures.answer (λ none. c.in_ok-kept.ensures.silent none before) (c.in_ok-kept.ensures.nearly before)));
      given = tt;
      raised = said.raised;
      reader = said.reader;
      serves = serves_both faults sure c.args.keeper.now c.save_step.new.keeper c.say.new.keeper c.save_step.ensures.serves said.serves;
    }
