-- Own entries stay where they stand.
use Rattle.std.proofs.Common.{◌≡◌, ℕ, zero, suc, ◌<◌, ◌≤◌, List, [], ◌∷◌, ◌++◌, length, drop, Some, None, refl, sym, ap, ◌∙◌, subst, arith, append_assoc, length-append}
use Rattle.std.specs.List.{slice_get}
use mathlib.Core.List.{IsPrefix}
use Rattle.turnstile.specs.declared.participant.ParticipantState.{ParticipantState}
use Rattle.turnstile.specs.Steps.{with_entries, after, releases}
use Rattle.turnstile.specs.Journals.{StandAt, positions_from}
use Rattle.turnstile.specs.Moments.{OwnEntriesStand, KeepsOwn}
use Rattle.turnstile.proofs.Preservation.{drop_all}

module _ {E : Type 0} where
  kept_there : (history more : List E) (k : ℕ) (e : E) → slice_get history k ≡ Some e → slice_get (history ++ more) k ≡ Some e
  kept_there [] more k e h = absurd (let bad : None ≡ Some e = h in cc)
  kept_there (x ∷ xs) more zero e h = h
  kept_there (x ∷ xs) more (suc k) e h = kept_there xs more k e h

  within : (history : List E) (k : ℕ) (e : E) → slice_get history k ≡ Some e → k < length history
  within [] k e h = absurd (let bad : None ≡ Some e = h in cc)
  within (x ∷ xs) zero e h = omega arith
  within (x ∷ xs) (suc k) e h = let r = within xs k e h in omega arith

  next_there : (history more : List E) (e : E) → slice_get (history ++ e ∷ more) (length history) ≡ Some e
  next_there [] more e = refl
  next_there (x ∷ xs) more e = next_there xs more e

  pub stands_longer : (history more : List E) (low : ℕ) (ks : List ℕ) (es : List E) → StandAt history low ks es → StandAt (history ++ more) low ks es
  stands_longer history more low [] [] h = tt
  stands_longer history more low [] (e ∷ es) h = absurd h
  stands_longer history more low (k ∷ ks) [] h = absurd h
  stands_longer history more low (k ∷ ks) (e ∷ es) h = (h.0, kept_there history more k e h.1, stands_longer history more (suc k) ks es h.2)

  stands_next : (history more : List E) (low : ℕ) → low ≤ length history → StandAt (history ++ more) low (positions_from (length history) more) more
  stands_next history [] low l = tt
  stands_next history (e ∷ es) low l =
      let longer : length (history ++ e ∷ []) ≡ suc (length history) = let n = length-append history (e ∷ []) in omega arith in
      let rest = subst (λ (n : ℕ). StandAt ((history ++ e ∷ []) ++ es) (suc (length history)) (positions_from n es) es) longer (stands_next (history ++ e ∷ []) es (suc (length history)) (omega arith)) in
      (l, next_there history es e, subst (λ (z : List E). StandAt z (suc (length history)) (positions_from (suc (length history)) es) es) (append_assoc history (e ∷ []) es) rest)

  -- the new entries come after all that was there
  pub stands_append : (history more : List E) (low : ℕ) (ks : List ℕ) (es : List E) → low ≤ length history → StandAt history low ks es → StandAt (history ++ more) low (ks ++ positions_from (length history) more) (es ++ more)
  stands_append history more low [] [] l h = stands_next history more low l
  stands_append history more low [] (d ∷ es) l h = absurd h
  stands_append history more low (k ∷ ks) [] l h = absurd h
  stands_append history more low (k ∷ ks) (d ∷ es) l h = let w = within history k d h.1 in (h.0, kept_there history more k d h.1, stands_append history more (suc k) ks es (omega arith) h.2)

  pub stand_in_more : (v w : ParticipantState E) → KeepsOwn v w → IsPrefix v.seen w.seen → OwnEntriesStand v → OwnEntriesStand w
  stand_in_more v w same p h =
      subst (λ (z : List ℕ × List E). StandAt w.seen 0 z.0 z.1) (λ i. (sym same.positions i, sym same.own i))
      (subst (λ (l : List E). StandAt l 0 v.positions v.own) p.1 (stands_longer v.seen p.0 0 v.positions v.own h))

  pub stand_after_release : (v : ParticipantState E) (history : List E) → IsPrefix v.seen history → OwnEntriesStand v → OwnEntriesStand (after (releases (drop (length v.seen) history)) v)
  stand_after_release v history new h =
      subst (λ (l : List E). OwnEntriesStand (with_entries v l)) (sym (ap (drop (length v.seen)) (sym new.1) ∙ drop_all v.seen new.0)) (stands_append v.seen new.0 0 v.positions v.own (omega arith) h)
