use Rattle.std.proofs.Common.{◌≡◌, ◌⊎◌, ◌<◌, ℕ, List, [], Option, Some, None, Result, Ok, Err, true, inl, inr, false, refl, sym, ◌∙◌, subst, arith, ◌^◌}
use Rattle.std.specs.Prelude.{IfSome, unwrap_or}
use Rattle.std.proofs.lemmas.Result.{err_from_is_err_and}
use Rattle.mav_ports.specs.Counts.{Rose, next_count}
use Rattle.plan_store.specs.Keeps.{replace_known, KeptOrReplaced}
use Rattle.plan_store.specs.declared.keepers.KeepFault.{KeepFault}
use Rattle.plan_store.specs.declared.keepers.KeepFault.TheVariants.{Store as KeptStore, NoMemory as KeptNoMemory}
use Rattle.plan_store.specs.declared.saves.Stored.{Stored}
use Rattle.plan_store.specs.declared.saves.Stored.TheVariants.{New, Old}
use Rattle.mav_nodes.specs.Stores.{Holds, HoldsNearly, GivenUp, AreStored, HasFailedAt, HasFailedTwice, fault_of}
use Rattle.mav_nodes.proofs.StoreCalls.{serves_same, same_held, replaced, nearly_from}
use Rattle.mav_nodes.proofs.stores.save_step.Goals as goal

new_held : (contents now : Option (List ℕ)) (stored : ℕ → List ℕ → Type 0) (low : Option ℕ) (bytes : List ℕ) → now ≡ replace_known contents bytes → stored (unwrap_or low 0) bytes → HoldsNearly now stored low
new_held contents now stored None bytes e h = replaced contents now (λ b. (b ≡ []) ⊎ stored 0 b) bytes e (inr h)
new_held contents now stored (Some low) bytes e h = replaced contents now (stored low) bytes e h

old_held : (contents now : Option (List ℕ)) (before after : ℕ → List ℕ → Type 0) (low : Option ℕ) (bytes : List ℕ) → now ≡ replace_known contents bytes → AreStored before low bytes → ((n : ℕ) (b : List ℕ) → before n b → after n b) → Holds now after low
old_held contents now before after None bytes e h f = replaced contents now (λ b. b ≡ []) bytes e h
old_held contents now before after (Some low) bytes e h f = replaced contents now (after low) bytes e (f low bytes h)

nearly : (contents : Option (List ℕ)) (stored : ℕ → List ℕ → Type 0) (low : Option ℕ) → Holds contents stored low → HoldsNearly contents stored low
nearly None stored None h = tt
nearly (Some kept) stored None h = inl h
nearly contents stored (Some low) h = h

-- a save of what a step changes failed
step_given : {Core : Type 0} (contents now : Option (List ℕ)) (stored : Core → ℕ → List ℕ → Type 0) (core after : Core) (bytes : List ℕ) (low : Option ℕ) → KeptOrReplaced contents now bytes → stored after (unwrap_or low 0) bytes → Holds contents (stored core) low → GivenUp now stored low (λ c. (c ≡ core) ⊎ (c ≡ after))
step_given contents now stored core after bytes low (inl e) is held = record {
  core = core;
  may_be = inl refl;
  holds = inl (subst (λ (c : Option (List ℕ)). Holds c (stored core) low) (sym e) held);
}
step_given contents now stored core after bytes low (inr e) is held = record {
  core = after;
  may_be = inr refl;
  holds = nearly_from now (stored after) low (new_held contents now (stored after) low bytes e is);
}

bound_fits : (low : Option ℕ) → IfSome low (λ n. n < 2 ^ 48) → unwrap_or low 0 < 2 ^ 48
bound_fits None h = omega arith
bound_fits (Some low) h = h

not_store : (result : Result Stored KeepFault) → result ≡ Err KeptStore → (result ≡ Ok New) ⊎ (result ≡ Err KeptNoMemory) → ⊥
not_store result e (inl f) = cc
not_store result e (inr f) = cc

not_old : (result : Result Stored KeepFault) → result ≡ Ok Old → (result ≡ Ok New) ⊎ (result ≡ Err KeptNoMemory) → ⊥
not_old result e (inl f) = cc
not_old result e (inr f) = cc

joined : (result : Result Stored KeepFault) (x y : Stored) → result ≡ Ok x → x ≡ y → result ≡ Ok y
joined result x y e f = cc

some_new : {A : Type 0} (o : Option A) (a : A) → o ≡ Some a → o ≡ None → ⊥
some_new o a e f = cc

fails_so : {Store : Type 0} (faults : Store → ℕ) (sure : Store → Type 0) (old now : Store) (result : Result Stored KeepFault) (fault : KeepFault) → result ≡ Err fault → (result ≡ Err KeptStore → Rose (faults old) (faults now)) → (sure old → sure now × ((result ≡ Ok New) ⊎ (result ≡ Err KeptNoMemory))) → HasFailedAt (fault_of fault) faults sure old now
fails_so faults sure old now result KeptStore e rose safe = record { count = rose e; fallible = λ s. not_store result e (safe s).1 }
fails_so faults sure old now result KeptNoMemory e rose safe = tt

-- what a store may have of a core is one list of bytes
same_stored : (stored : ℕ → List ℕ → Type 0) (low : Option ℕ) (a b : List ℕ) → ((n : ℕ) (x y : List ℕ) → stored n x → stored n y → x ≡ y) → AreStored stored low a → AreStored stored low b → a ≡ b
same_stored stored None a b one x y = x ∙ sym y
same_stored stored (Some low) a b one x y = one low a b x y

failed_twice : (contents : Option (List ℕ)) (stored : ℕ → List ℕ → Type 0) (low : Option ℕ) (old : List ℕ) (before now : ℕ) (result : Result Stored KeepFault) (fault : KeepFault) → result ≡ Err fault → AreStored stored low old → ((n : ℕ) (x y : List ℕ) → stored n x → stored n y → x ≡ y) → (result ≡ Err KeptStore → IfSome contents (λ kept. kept ≡ old → Rose (next_count before) now)) → HasFailedTwice (fault_of fault) contents stored low before now
failed_twice contents stored low old before now result KeptStore e is one both = λ other at. subst (λ (bytes : List ℕ). IfSome contents (λ kept. kept ≡ bytes → Rose (next_count before) now)) (same_stored stored low old other one is at) (both e)
failed_twice contents stored low old before now result KeptNoMemory e is one both = tt

pub image_after-requires : goal.image_after-requires
image_after-requires g c = rw c.unwrap_or.ensures (bound_fits c.args.low c.requires)

pub returns-in_err-new : goal.returns-in_err-new
returns-in_err-new g c =
    let p = err_from_is_err_and c.from_residual.result c.from_residual.ensures.1 in
    rw (p.1, p.2) (record { nearly = tt; silent = tt; given = λ held. record { core = c.args.core.now; may_be = inl refl; holds = inl held }; unkept = tt; serves = serves_same g.K.Keeper.faults g.K.Keeper.is_infallible c.args.keeper.now; fault = tt; twice = tt })

pub returns-in_err-old : goal.returns-in_err-old
returns-in_err-old g c =
    let p = err_from_is_err_and c.from_residual-in_err-old.result c.from_residual-in_err-old.ensures.1 in
    rw (p.1, p.2) (record { nearly = tt; silent = tt; given = λ held. record { core = c.args.core.now; may_be = inl refl; holds = inl held }; unkept = tt; serves = serves_same g.K.Keeper.faults g.K.Keeper.is_infallible c.args.keeper.now; fault = tt; twice = tt })

pub returns-in_default : goal.returns-in_default
returns-in_default g c =
    let held = same_held (g.K.Keeper.contents c.args.keeper.now) (g.C.Core.stored c.args.core.now) (g.C.Core.stored (g.C.Core.taken true c.args.core.now c.args.from c.args.message.now).core) c.args.low (c.in_ok-new.ensures.same c.in_default.is) in
    record {
      nearly = λ h. nearly (g.K.Keeper.contents c.args.keeper.now) (g.C.Core.stored (g.C.Core.taken true c.args.core.now c.args.from c.args.message.now).core) c.args.low (held h);
      silent = λ none. held;
      given = tt;
      unkept = inl refl;
      serves = serves_same g.K.Keeper.faults g.K.Keeper.is_infallible c.args.keeper.now;
      fault = tt;
      twice = tt;
    }

pub returns-in_err-save_or_load : goal.returns-in_err-save_or_load
returns-in_err-save_or_load g c =
    let p = err_from_is_err_and c.from_residual-in_err-save_or_load.result c.from_residual-in_err-save_or_load.ensures.1 in
    let faults = g.K.Keeper.faults in
    let sure = g.K.Keeper.is_infallible in
    let then = c.save_or_load.new.keeper in
    rw (p.1, p.2) (record {
      nearly = tt;
      silent = tt;
      given = λ held. step_given (g.K.Keeper.contents c.args.keeper.now) (g.K.Keeper.contents then) g.C.Core.stored c.args.core.now (g.C.Core.taken true c.args.core.now c.args.from c.args.message.now).core c.in-Some.new.items c.args.low (rw c.deref-2.ensures.value at c.save_or_load.ensures.either) (rw (c.unwrap_or.ensures, c.in-Some.is) at c.in_ok-new.ensures.bytes) held;
      unkept = tt;
      serves = record { count = c.save_or_load.ensures.count; infallible = λ h. (c.save_or_load.ensures.infallible h).0 };
      fault = fails_so faults sure c.args.keeper.now then c.save_or_load.result c.in_err-save_or_load.field-0.0 c.in_err-save_or_load.was c.save_or_load.ensures.fault c.save_or_load.ensures.infallible;
      twice = failed_twice (g.K.Keeper.contents c.args.keeper.now) (g.C.Core.stored c.args.core.now) c.args.low c.in_ok-old.old.items (faults c.args.keeper.now) (faults then) c.save_or_load.result c.in_err-save_or_load.field-0.0 c.in_err-save_or_load.was c.in_ok-old.ensures (c.in_ok-new.ensures.one (some_new c.in_ok-new.field-0 c.in-Some.new c.in-Some.is)) (rw c.deref.ensures.value at c.save_or_load.ensures.both_failed);
    })

pub returns-in-New : goal.returns-in-New
returns-in-New g c =
    let some = some_new c.in_ok-new.field-0 c.in-Some.new c.in-Some.is in
    let is = joined c.save_or_load.result c.in_ok-save_or_load.field-0 New c.in_ok-save_or_load.was c.in-New.is in
    record {
      nearly = λ h. new_held (g.K.Keeper.contents c.args.keeper.now) (g.K.Keeper.contents c.save_or_load.new.keeper) (g.C.Core.stored (g.C.Core.taken true c.args.core.now c.args.from c.args.message.now).core) c.args.low c.in-Some.new.items (rw c.deref-2.ensures.value at (c.save_or_load.ensures.new is)) (rw (c.unwrap_or.ensures, c.in-Some.is) at c.in_ok-new.ensures.bytes);
      silent = λ none. absurd (c.in_ok-new.ensures.changed some true none);
      given = tt;
      unkept = inl refl;
      serves = record { count = c.save_or_load.ensures.count; infallible = λ h. (c.save_or_load.ensures.infallible h).0 };
      fault = tt;
      twice = tt;
    }

pub returns : goal.returns
returns g c =
    let some = some_new c.in_ok-new.field-0 c.in-Some.new c.in-Some.is in
    let is = joined c.save_or_load.result c.in_ok-save_or_load.field-0 Old c.in_ok-save_or_load.was c.in-Old.is in
    record {
      nearly = λ h. nearly _ _ c.args.low (old_held (g.K.Keeper.contents c.args.keeper.now) (g.K.Keeper.contents c.save_or_load.new.keeper) (g.C.Core.stored c.args.core.now) (g.C.Core.stored (g.C.Core.taken false c.args.core.now c.args.from c.args.message.now).core) c.args.low c.in_ok-old.old.items (rw c.deref.ensures.value at (c.save_or_load.ensures.old is)) c.in_ok-old.ensures c.image_after.ensures.unkept);
      silent = λ none. absurd (c.in_ok-new.ensures.changed some false none);
      given = tt;
      unkept = inr (record { count = c.save_or_load.ensures.old_rose is; fallible = λ h. not_old c.save_or_load.result is (c.save_or_load.ensures.infallible h).1 });
      serves = record { count = c.save_or_load.ensures.count; infallible = λ h. (c.save_or_load.ensures.infallible h).0 };
      fault = tt;
      twice = tt;
    }
