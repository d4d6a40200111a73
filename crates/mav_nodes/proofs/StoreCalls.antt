-- Calls of a store, one after another.
use Rattle.std.proofs.Common.{◌≡◌, ◌≤◌, ◌⊎◌, ℕ, List, Option, Some, None, Result, Ok, Err, inl, inr, refl, ◌∙◌, sym, subst, arith}
use Rattle.std.specs.Prelude.{IfNone, IfSome, IfErr, OnOk, unwrap_or}
use Rattle.std.specs.Result.{result_err}
use Rattle.plan_items.specs.declared.messages.PlanMsg.{PlanMsg}
use Rattle.plan_store.specs.Keeps.{replace_known, KeptOrReplaced}
use Rattle.mav_nodes.specs.declared.faults.NodeFault.{NodeFault}
use Rattle.mav_nodes.specs.Links.{LinkView}
use Rattle.mav_nodes.specs.Stores.{Holds, HoldsNearly, HoldsFrom, StoredBefore, IsRaised, Serves, HasFailed}
use Rattle.mav_nodes.specs.Promises.{LinkKeeps}

pub serves_same : {Store : Type 0} (faults : Store → ℕ) (sure : Store → Type 0) (store : Store) → Serves faults sure store store
serves_same faults sure store = record { count = omega arith; infallible = λ h. h }

pub serves_both : {Store : Type 0} (faults : Store → ℕ) (sure : Store → Type 0) (a b c : Store) → Serves faults sure a b → Serves faults sure b c → Serves faults sure a c
serves_both faults sure a b c first second = record {
  count = omega (arith, first.count, second.count);
  infallible = λ h. second.infallible (first.infallible h);
}

pub failed_then : {Store : Type 0} (faults : Store → ℕ) (sure : Store → Type 0) (a b c : Store) → HasFailed faults sure a b → Serves faults sure b c → HasFailed faults sure a c
failed_then faults sure a b c failed serves = record { count = omega (arith, failed.count, serves.count); fallible = failed.fallible }

pub then_failed : {Store : Type 0} (faults : Store → ℕ) (sure : Store → Type 0) (a b c : Store) → Serves faults sure a b → HasFailed faults sure b c → HasFailed faults sure a c
then_failed faults sure a b c serves failed = record {
  count = omega (arith, serves.count, failed.count);
  fallible = λ h. failed.fallible (serves.infallible h);
}

-- ---- low bounds

pub raised_same : (low : Option ℕ) → IsRaised low low
raised_same low = inl refl

not_lower : (a b c : Option ℕ) (bound : ℕ) → b ≡ a → c ≡ Some bound → unwrap_or b 0 ≤ bound → IsRaised a c
not_lower a b c bound e is le = inr (bound, is, subst (λ (low : Option ℕ). unwrap_or low 0 ≤ bound) e le)

pub raised_twice : (a b c : Option ℕ) → IsRaised a b → IsRaised b c → IsRaised a c
raised_twice a b c (inl e) (inl f) = inl (f ∙ e)
raised_twice a b c (inl e) (inr h) = not_lower a b c h.0 e h.1 h.2
raised_twice a b c (inr h) (inl f) = inr (h.0, f ∙ h.1, h.2)
raised_twice a b c (inr h) (inr k) =
    let le = subst (λ (low : Option ℕ). unwrap_or low 0 ≤ k.0) h.1 k.2 in
    inr (k.0, k.1, omega (arith, h.2, le))

-- what is stored with a bound that was raised, is stored with a later one than before
pub from_raised : (contents : Option (List ℕ)) (stored : ℕ → List ℕ → Type 0) (a b : Option ℕ) → IsRaised a b → HoldsFrom contents stored b → HoldsFrom contents stored a
from_raised contents stored a b (inl e) h = subst (HoldsFrom contents stored) e h
from_raised contents stored a b (inr r) (inl held) = inr (r.0, r.2, subst (Holds contents stored) r.1 held)
from_raised contents stored a b (inr r) (inr h) =
    let le = subst (λ (low : Option ℕ). unwrap_or low 0 ≤ h.0) r.1 h.1 in
    inr (h.0, omega (arith, r.2, le), h.2)

no_bound : (contents : Option (List ℕ)) (stored : ℕ → List ℕ → Type 0) → Holds contents stored None → HoldsNearly contents stored None
no_bound None stored h = tt
no_bound (Some kept) stored h = inl h

pub nearly_from : (contents : Option (List ℕ)) (stored : ℕ → List ℕ → Type 0) (low : Option ℕ) → HoldsNearly contents stored low → HoldsFrom contents stored low
nearly_from None stored None h = inl tt
nearly_from (Some kept) stored None (inl e) = inl e
nearly_from (Some kept) stored None (inr h) = inr (0, omega arith, h)
nearly_from contents stored (Some low) h = inl h

pub same_held : (contents : Option (List ℕ)) (before after : ℕ → List ℕ → Type 0) (low : Option ℕ) → ((n : ℕ) (b : List ℕ) → before n b → after n b) → Holds contents before low → Holds contents after low
same_held contents before after None f h = h
same_held None before after (Some low) f h = tt
same_held (Some kept) before after (Some low) f h = f low kept h

known_so : (contents : Option (List ℕ)) (P Q : List ℕ → Type 0) → ((b : List ℕ) → P b → Q b) → IfSome contents P → IfSome contents Q
known_so None P Q f h = tt
known_so (Some kept) P Q f h = f kept h

pub from_so : (contents : Option (List ℕ)) (before after : ℕ → List ℕ → Type 0) (low : Option ℕ) → ((n : ℕ) (b : List ℕ) → before n b → after n b) → HoldsFrom contents before low → HoldsFrom contents after low
from_so contents before after low f (inl h) = inl (same_held contents before after low f h)
from_so contents before after low f (inr h) = inr (h.0, h.1, known_so contents (before h.0) (after h.0) (f h.0) h.2)

pub held_before : (contents : Option (List ℕ)) (stored : ℕ → List ℕ → Type 0) (low : Option ℕ) (answer : Option PlanMsg) → Holds contents stored low → StoredBefore answer contents stored low
held_before contents stored low None h = h
held_before contents stored None (Some message) h = no_bound contents stored h
held_before contents stored (Some low) (Some message) h = h

pub before_from : (contents : Option (List ℕ)) (stored : ℕ → List ℕ → Type 0) (low : Option ℕ) (answer : Option PlanMsg) → StoredBefore answer contents stored low → HoldsFrom contents stored low
before_from contents stored low None h = inl h
before_from contents stored low (Some message) h = nearly_from contents stored low h

-- what a store has of bytes that were saved
pub replaced : (contents now : Option (List ℕ)) (P : List ℕ → Type 0) (bytes : List ℕ) → now ≡ replace_known contents bytes → P bytes → IfSome now P
replaced None now P bytes e h = rw e tt
replaced (Some kept) now P bytes e h = rw e h

-- a save of a later bound failed
pub bound_given : (contents now : Option (List ℕ)) (stored : ℕ → List ℕ → Type 0) (bound : ℕ) (bytes : List ℕ) (low : Option ℕ) → KeptOrReplaced contents now bytes → stored bound bytes → unwrap_or low 0 ≤ bound → HoldsNearly contents stored low → HoldsFrom now stored low
bound_given contents now stored bound bytes low (inl e) is le held = nearly_from now stored low (subst (λ (c : Option (List ℕ)). HoldsNearly c stored low) (sym e) held)
bound_given contents now stored bound bytes low (inr e) is le held = inr (bound, le, replaced contents now (stored bound) bytes e is)

-- it has what it had, or exactly that bound
pub exact_given : (contents now : Option (List ℕ)) (P : List ℕ → Type 0) (bytes : List ℕ) → KeptOrReplaced contents now bytes → P bytes → (now ≡ contents) ⊎ IfSome now P
exact_given contents now P bytes (inl e) is = inl e
exact_given contents now P bytes (inr e) is = inr (replaced contents now P bytes e is)

-- ---- calls of a link

-- a call of a link after one that didn't fail
pub keeps_then : {Store : Type 0} {fault : Option NodeFault} {P Q M R K L N : Type 0} {x y z : LinkView} {faults : Store → ℕ} {sure : Store → Type 0} {a b c : Store} → LinkKeeps None P Q K x y faults sure a b → (Q → M) → (N → L) → LinkKeeps fault M R N y z faults sure b c → LinkKeeps fault P R L x z faults sure a c
keeps_then {Store} {fault} {P} {Q} {M} {R} {K} {L} {N} {x} {y} {z} {faults} {sure} {a} {b} {c} first so leaves second = record {
  stored = both fault second.stored;
  given = left fault second.given;
  raised = raised_twice x.low y.low z.low first.raised second.raised;
  reader = second.reader ∙ first.reader;
  serves = serves_both faults sure a b c first.serves second.serves;
}
  where
    both : (f : Option NodeFault) → IfNone f (M → R) → IfNone f (P → R)
    both None h = λ p. h (so (first.stored p))
    both (Some f) h = tt

    left : (f : Option NodeFault) → IfSome f (λ _. M → N) → IfSome f (λ _. P → L)
    left None h = tt
    left (Some f) h = λ p. leaves (h (so (first.stored p)))

-- what comes after it touches neither the link nor the store
pub keeps_on : {Store : Type 0} {fault : Option NodeFault} {P Q K L : Type 0} {x y : LinkView} {faults : Store → ℕ} {sure : Store → Type 0} {a b : Store} → LinkKeeps None P Q K x y faults sure a b → (Q → L) → LinkKeeps fault P Q L x y faults sure a b
keeps_on {Store} {fault} {P} {Q} {K} {L} k leaves = record { stored = either fault; given = left fault; raised = k.raised; reader = k.reader; serves = k.serves }
  where
    either : (f : Option NodeFault) → IfNone f (P → Q)
    either None = k.stored
    either (Some f) = tt

    left : (f : Option NodeFault) → IfSome f (λ _. P → L)
    left None = tt
    left (Some f) = λ p. leaves (k.stored p)

-- it leaves what this says
pub keeps_so : {Store : Type 0} {fault : Option NodeFault} {P Q K L : Type 0} {x y : LinkView} {faults : Store → ℕ} {sure : Store → Type 0} {a b : Store} → (K → L) → LinkKeeps fault P Q K x y faults sure a b → LinkKeeps fault P Q L x y faults sure a b
keeps_so {Store} {fault} {P} {Q} {K} {L} leaves k = record { stored = k.stored; given = left fault k.given; raised = k.raised; reader = k.reader; serves = k.serves }
  where
    left : (f : Option NodeFault) → IfSome f (λ _. P → K) → IfSome f (λ _. P → L)
    left None h = tt
    left (Some f) h = λ p. leaves (h p)

-- if a call returns well
pub kept_ok : {A Store : Type 0} {P Q K : Type 0} {x y : LinkView} {faults : Store → ℕ} {sure : Store → Type 0} {a b : Store} (r : Result A NodeFault) → LinkKeeps (result_err r) P Q K x y faults sure a b → OnOk r (P → Q)
kept_ok (Ok one) k = k.stored
kept_ok (Err fault) k = tt

-- and if it fails
pub given_up : {A Store : Type 0} {P Q K : Type 0} {x y : LinkView} {faults : Store → ℕ} {sure : Store → Type 0} {a b : Store} (r : Result A NodeFault) → LinkKeeps (result_err r) P Q K x y faults sure a b → IfErr r (λ _. P → K)
given_up (Ok one) k = tt
given_up (Err fault) k = k.given
