-- What one more entry does to the low bound that a store has after a history.
use Rattle.std.proofs.Common.{◌≡◌, ◌≢◌, ℕ, ◌+◌, ◌<◌, ◌≤◌, max, nat_lt, List, [], ◌∷◌, ◌++◌, Option, Some, None, sym, subst, ◌∙◌, refl, arith}
use Rattle.std.specs.Prelude.{unwrap_or}
use Rattle.std.proofs.lemmas.List.Sums.{fold_push}
use Rattle.mav_frame.specs.Packet.{SignatureBlock}
use Rattle.mav_sign.specs.declared.admission.Admit.{Admit}
use Rattle.mav_sign.specs.declared.admission.Admit.TheVariants.{Admitted, Unsigned, BadSignature, BelowFloor, NotLater, TooOld, TooManyStreams}
use Rattle.mav_sign.specs.History.{Entry, tried, sent, started, greatest_stamp}
use Rattle.mav_nodes.specs.LowBounds.{headroom, bound_for, raised, raised_if, raised_at, stored_low}
use Rattle.fleet_invariants.proofs.Tests.{by_test, less, not_less}

pub stored_more : (history : List Entry) (entry : Entry) → stored_low (history ++ entry ∷ []) ≡ raised_at (stored_low history) entry
stored_more history entry = fold_push raised_at None history entry

-- ---- whether one is stored

-- it stays stored
raised_stays : (low : Option ℕ) (stamp : ℕ) → raised low stamp ≡ None → low ≡ None
raised_stays None stamp none = refl
raised_stays (Some bound) stamp none =
    by_test (λ (o : Option ℕ). o ≡ None → ◌≡◌ {A = Option ℕ} (Some bound) None) (nat_lt bound stamp) (Some (bound_for stamp)) (Some bound) (λ _ wrong. absurd (cc)) (λ _ same. same) none

answer_stays : (low : Option ℕ) (answer : Admit) (block : Option SignatureBlock) → raised_if low answer block ≡ None → low ≡ None
answer_stays low Admitted None none = none
answer_stays low Admitted (Some block) none = raised_stays low block.stamp none
answer_stays low Unsigned block none = none
answer_stays low BadSignature block none = none
answer_stays low (BelowFloor floor) block none = none
answer_stays low (NotLater last) block none = none
answer_stays low (TooOld local) block none = none
answer_stays low TooManyStreams block none = none

entry_stays : (low : Option ℕ) (entry : Entry) → raised_at low entry ≡ None → low ≡ None
entry_stays low (tried packet answer) none = answer_stays low answer packet.block none
entry_stays low (sent stamp) none = raised_stays low stamp none
entry_stays low (started bound) none = absurd (cc)

pub stored_stays : (history : List Entry) (entry : Entry) → stored_low (history ++ entry ∷ []) ≡ None → stored_low history ≡ None
stored_stays history entry none = entry_stays (stored_low history) entry (sym (stored_more history entry) ∙ none)

-- and is, once a timestamp is admitted or sent
pub raised_some : (low : Option ℕ) (stamp : ℕ) → 1 ≤ stamp → raised low stamp ≢ None
raised_some None stamp some =
    by_test (λ (o : Option ℕ). o ≢ None) (nat_lt 0 stamp) (Some (bound_for stamp)) None (λ _ wrong. absurd (cc)) (λ e _. absurd (let none = not_less _ _ e in omega arith))
raised_some (Some bound) stamp some = λ none. absurd (let wrong = raised_stays (Some bound) stamp none in cc)

-- ---- how great it is

-- no timestamp is above it, and it isn't far above the greatest
pub record Bounds (low : Option ℕ) (local : ℕ) : Type 0 where
  pub within : local ≤ unwrap_or low 0
  pub near : unwrap_or low 0 ≤ local + headroom

pub bounds_same : (low after : Option ℕ) (local later : ℕ) → after ≡ low → later ≡ local → Bounds low local → Bounds after later
bounds_same low after local later same is b = subst (λ (o : Option ℕ). Bounds o later) (sym same) (subst (Bounds low) (sym is) b)

above : (local bound stamp : ℕ) → local ≤ bound → bound < stamp → stamp ≤ greatest_stamp → max local stamp ≤ bound_for stamp
above local bound stamp h k l = grind arith

not_far : (local stamp : ℕ) → bound_for stamp ≤ max local stamp + headroom
not_far local stamp = grind arith

stays_above : (local bound stamp : ℕ) → local ≤ bound → stamp ≤ bound → max local stamp ≤ bound
stays_above local bound stamp h k = grind arith

stays_near : (local bound stamp : ℕ) → bound ≤ local + headroom → bound ≤ max local stamp + headroom
stays_near local bound stamp h = grind arith

pub bounds_raised : (low : Option ℕ) (local stamp : ℕ) → stamp ≤ greatest_stamp → Bounds low local → Bounds (raised low stamp) (max local stamp)
bounds_raised low local stamp fits b =
    by_test (λ (o : Option ℕ). Bounds o (max local stamp)) (nat_lt (unwrap_or low 0) stamp) (Some (bound_for stamp)) low
    (λ e. record { within = above local (unwrap_or low 0) stamp b.within (less _ _ e) fits; near = not_far local stamp })
    (λ e. record { within = stays_above local (unwrap_or low 0) stamp b.within (not_less _ _ e); near = stays_near local (unwrap_or low 0) stamp b.near })
