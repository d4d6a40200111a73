-- The handles that `new` makes.
use Rattle.std.proofs.Common.{◌≡◌, ℕ, ◌+◌, List, [], ◌∷◌, ◌++◌, length, replicate, get_or, All, true, false, Option, refl, sym, ap, ◌∙◌, subst, arith}
use Rattle.std.proofs.lemmas.List.{replicate-append-replicate, length-replicate, get_or-replicate}
use Rattle.atomic_table.specs.Seated.{TableId}
use Rattle.atomic_table.specs.Table.{Me}
use Rattle.turnstile.specs.declared.participant.ParticipantState.{ParticipantState}
use Rattle.turnstile.specs.Steps.{new_participant}
use Rattle.turnstile.specs.Moments.{IsOutside, IsHandle}
use Rattle.turnstile.specs.Participants.{Participant, participant_of, opened, Lock, CanEnter}

abbrev Own : Type 0 → Type 0 → Type 0
Own V E = Me (Option V) (ParticipantState E)

module _ {V E : Type 0} where
  pub new_outside : (m : Own V E) (opening : List E) (n : ℕ) → m ≡ (new_participant opening n, []) → IsOutside m
  new_outside m opening n e = subst (λ (z : Own V E). IsOutside z) (sym e) record { no_ticket = refl; no_turn = refl; no_slot = refl }

  pub new_handle : (m : Own V E) (opening : List E) → m ≡ (new_participant opening 1, []) → IsHandle m
  new_handle m opening e =
      subst (λ (z : Own V E). IsHandle z) (sym e) record { one = refl; own = tt; outside = λ _. record { no_ticket = refl; no_turn = refl; no_slot = refl }; inside = λ h. absurd (let bad : false ≡ true = h in cc) }

  pub one_more : (id here : TableId) (m : Own V E) (opening : List E) (n k : ℕ) (items items' : List (Participant E)) → id ≡ here → m ≡ (new_participant opening 1, [])
      → items ≡ replicate n (opened here opening) → items' ≡ items ++ participant_of id m.0 ∷ [] → n + 1 ≡ k → items' ≡ replicate k (opened here opening)
  one_more id here m opening n k items items' of me old new e =
      new
      ∙ (ap (λ (z : List (Participant E)). z ++ participant_of id m.0 ∷ []) old
      ∙ (ap (λ (z : TableId × Own V E). replicate n (opened here opening) ++ participant_of z.0 z.1.0 ∷ []) (λ i. (of i, me i))
      ∙ (replicate-append-replicate n 1 (opened here opening) ∙ ap (λ (j : ℕ). replicate j (opened here opening)) e)))

module _ {E : Type 0} where
  pub all_ready : (l : Lock E) (opening : List E) (k : ℕ) (items : List (Participant E)) → items ≡ replicate k (opened l.id opening) → All (CanEnter l) items
  all_ready l opening k items e i d h =
      subst (CanEnter l) (sym (ap (λ (z : List (Participant E)). get_or z i d) e ∙ get_or-replicate k i (opened l.id opening) d (let n = ap length e in let m = length-replicate k (opened l.id opening) in omega arith)))
      record { of = refl; outside = refl }
