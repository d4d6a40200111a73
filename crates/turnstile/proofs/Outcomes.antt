-- What a step tells the participant that made it.
use Rattle.std.proofs.Common.{◌≡◌, ℕ, ◌+◌, ◌%◌, ◌^◌, ◌==◌, Bool, true, false, List, [], ◌∷◌, length, drop, All, Option, Some, None, MatchBool, sym, refl, ap, ◌∙◌, subst}
use mathlib.Core.List.{IsPrefix}
use Rattle.atomic_table.specs.Table.{Me, step, rest, Allows, Final, Seen}
use mathlib.Core.Option.{none, some, some-injective}
use lib.ListN.{get_elem?}
use Rattle.turnstile.specs.declared.participant.ParticipantState.{ParticipantState}
use Rattle.turnstile.specs.Steps.{polled, released, releases, after}
use Rattle.turnstile.specs.Invariant.{TurnInvariant}
use Rattle.turnstile.specs.Moments.{IsInside, IsWaiting}
use Rattle.turnstile.proofs.Preservation.{eq_is, release_keeps, ends}

module _ {V E : Type 0} (journal : V → List E) where
  abbrev M : Type 0
  M = Me (Option V) (ParticipantState E)

  -- what a poll tells that found the number of the ticket
  pub record IsServed (m n : M) : Type 0 where
    pub value : V
    pub slot : n.1 ≡ (0, Some value) ∷ []
    pub begins : IsPrefix m.0.seen (journal value)
    pub view : n.0 ≡ record m.0 { seen = journal value; has_turn = true }

  matched : (b : Bool) (A B : Type 0) → b ≡ true → MatchBool b A B → A
  matched true A B e h = h
  matched false A B e h = absurd (let bad : false ≡ true = e in cc)

  unmatched : (b : Bool) (A B : Type 0) → b ≡ false → MatchBool b A B → B
  unmatched true A B e h = absurd (let bad : true ≡ false = e in cc)
  unmatched false A B e h = h

  pub poll_served : (m n : M) (r number : ℕ) → polled journal (step 0 0 0 0 none) m r n → IsWaiting number m → r ≡ number → IsServed m n
  poll_served m n r number told wait same =
      let t = wait.ticket.0 in
      let got = matched (r == t % 2 ^ 64) _ _ (eq_is r (t % 2 ^ 64) (same ∙ sym wait.ticket.2)) (told t wait.ticket.1) in
      record { value = got.0; slot = got.3 ∙ ap (λ (l : List (ℕ × Option V)). (0, Some got.0) ∷ l) wait.no_slot; begins = got.1; view = got.2 }

  pub holds_it : (n : M) (x : Option V) → n.1 ≡ (0, x) ∷ [] → n.1 ≡ (0, x) ∷ rest n.1
  holds_it n x e = e ∙ ap (λ (l : List (ℕ × Option V)). (0, x) ∷ l) (sym (ap rest e))

  pub released_state : (m n k : M) (x : V) → n ≡ (m.0, (0, Some x) ∷ rest m.1) → IsInside m → ((y : V) → n.1 ≡ (0, Some y) ∷ [] → k ≡ (after (releases (drop (length n.0.seen) (journal y))) n.0, []))
      → k ≡ (after (releases (drop (length m.0.seen) (journal x))) m.0, [])
  released_state m n k x is in_turn told =
      let held : M = (m.0, (0, Some x) ∷ []) in
      let same : n ≡ held = is ∙ ap (λ (l : List (ℕ × Option V)). (m.0, (0, Some x) ∷ l)) (ap rest in_turn.slot) in
      let gone : ParticipantState E → M = λ v. (after (releases (drop (length v.seen) (journal x))) v, []) in
      told x (ap (λ (z : M). z.1) same) ∙ ap gone (ap (λ (z : M). z.0) same)

  module _ (opening handles : ℕ) where
    pub release_allowed : (slots id : ℕ) (m n : M) (x : V) → n ≡ (m.0, (0, Some x) ∷ rest m.1) → IsInside m → IsPrefix m.0.seen (journal x)
        → Allows (TurnInvariant journal opening handles) slots id n 1 (λ k. (k + 1) % 2 ^ 64) (released journal (step slots 1 1 0 none) n)
    release_allowed slots id m n x is in_turn new =
        let held : M = (m.0, (0, Some x) ∷ []) in
        let same : n ≡ held = is ∙ ap (λ (l : List (ℕ × Option V)). (m.0, (0, Some x) ∷ l)) (ap rest in_turn.slot) in
        let P : M → Type 0 = λ z. Allows (TurnInvariant journal opening handles) slots id z 1 (λ k. (k + 1) % 2 ^ 64) (released journal (step slots 1 1 0 none) z) in
        subst P (sym same) (release_keeps journal opening handles slots id held x new.0 in_turn.ticket in_turn.has_turn refl (sym new.1))

    -- what the value has at the end
    pub record EndedWith (v : ParticipantState E) (x : V) : Type 0 where
      pub seen : IsPrefix v.seen (journal x)
      pub merged : All (λ l. IsPrefix l (journal x)) v.merged
      pub added : length (journal x) ≡ opening + length v.own

    pub ends_with : (id : ℕ) (v : ParticipantState E) (ws : List ℕ) (xs : List (Option V)) (r : Option V) (y : V) → v.ticket ≡ None → v.has_turn ≡ false → v.represents ≡ handles → Final (Seen (TurnInvariant journal opening handles) id v) ws xs
        → get_elem? xs 0 ≡ some r → r ≡ Some y → EndedWith v y
    ends_with id v ws xs r y none_yet out all f found is =
        let e = ends journal opening handles id v ws xs none_yet out all f in
        let both : Some e.value ≡ Some y = some-injective (Some e.value) r (sym e.home ∙ found) ∙ is in
        let same : e.value ≡ y = cc in
        subst (λ (z : V). EndedWith v z) same record { seen = e.seen; merged = e.merged; added = e.added }

    pub never_out : (id : ℕ) (v : ParticipantState E) (ws : List ℕ) (xs : List (Option V)) (r : Option V) → v.ticket ≡ None → v.has_turn ≡ false → v.represents ≡ handles → Final (Seen (TurnInvariant journal opening handles) id v) ws xs
        → get_elem? xs 0 ≡ some r → r ≡ None → ⊥
    never_out id v ws xs r none_yet out all f found is =
        let e = ends journal opening handles id v ws xs none_yet out all f in
        let both : Some e.value ≡ None = some-injective (Some e.value) r (sym e.home ∙ found) ∙ is in cc
