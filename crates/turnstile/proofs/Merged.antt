-- The loop that merges all handles into one participant.
use Rattle.std.proofs.Common.{◌≡◌, ℕ, ◌+◌, ◌<◌, List, [], ◌∷◌, ◌++◌, length, All, get_or, Option, refl, sym, ap, ◌∙◌, subst, arith, length-append}
use Rattle.std.specs.List.{sum_by}
use Rattle.std.proofs.lemmas.List.Elements.{All-push}
use Rattle.std.proofs.lemmas.List.Sums.{sum_by-append}
use Rattle.std.proofs.lemmas.List.{get_or_append_left, get_or-append-add}
use Rattle.std.proofs.Math.Seq.{get_or-append_seam}
use mathlib.Core.List.{IsPrefix}
use Rattle.atomic_table.specs.Seated.{TableId}
use Rattle.atomic_table.specs.Table.{Me}
use Rattle.turnstile.specs.declared.participant.ParticipantState.{ParticipantState}
use Rattle.turnstile.specs.Steps.{after, joins}
use Rattle.turnstile.specs.Moments.{IsOutside, IsHandle}
use Rattle.turnstile.specs.Participants.{Lock, Participant, participant_of, CanEnter}
use Rattle.turnstile.specs.Merging.{Extends, Continues, IsMerged}

module _ {A : Type 0} (P : A → Type 0) where
  all_init : (xs : List A) (y : A) → All P (xs ++ y ∷ []) → All P xs
  all_init xs y h k d l = subst P (get_or_append_left xs (y ∷ []) d k l) (h k d (omega (arith, length-append xs (y ∷ []))))

  all_suffix : (xs ys : List A) → All P (xs ++ ys) → All P ys
  all_suffix xs ys h k d l = subst P (get_or-append-add xs ys k d) (h (length xs + k) d (omega (arith, length-append xs ys)))

  all_last : (xs : List A) (y : A) → All P (xs ++ y ∷ []) → P y
  all_last xs y h = subst P (get_or-append_seam xs y [] y) (h (length xs) y (omega (arith, length-append xs (y ∷ []))))

abbrev Own : Type 0 → Type 0 → Type 0
Own V E = Me (Option V) (ParticipantState E)

abbrev own_count : {E : Type 0} → Participant E → ℕ
own_count p = length p.own

module _ {V E : Type 0} where
  -- a handle that can enter is outside
  pub record IsReady (l : Lock E) (id : TableId) (m : Own V E) : Type 0 where
    pub of : id ≡ l.id
    pub outside : IsOutside m

  pub ready : (l : Lock E) (id : TableId) (m : Own V E) (p : Participant E) → participant_of id m.0 ≡ p → IsHandle m → CanEnter l p → IsReady l id m
  ready l id m p view h can = record { of = ap (λ (q : Participant E). q.lock) view ∙ can.of; outside = h.outside (ap (λ (q : Participant E). q.has_turn) view ∙ can.outside) }

  pub last_ready : (l : Lock E) (id : TableId) (m : Own V E) (p : Participant E) (left seats : List (Participant E)) → seats ≡ left ++ p ∷ [] → All (CanEnter l) seats → participant_of id m.0 ≡ p → IsHandle m → IsReady l id m
  last_ready l id m p left seats e h view handle = ready l id m p view handle (all_last (CanEnter l) left p (subst (λ (s : List (Participant E)). All (CanEnter l) s) e h))

  pub first_merged : (l : Lock E) (id : TableId) (m : Own V E) (p : Participant E) (left seats : List (Participant E)) → seats ≡ left ++ p ∷ [] → All (CanEnter l) seats → participant_of id m.0 ≡ p → IsHandle m → IsMerged l id m left seats
  first_merged l id m p left seats e h view handle =
      let h' : All (CanEnter l) (left ++ p ∷ []) = subst (λ (s : List (Participant E)). All (CanEnter l) s) e h in
      let r = last_ready l id m p left seats e h view handle in
      let one = handle.one in
      let own : length m.0.own ≡ own_count p = ap own_count view in
      let seen : m.0.seen ≡ p.seen = ap (λ (q : Participant E). q.seen) view in
      record {
        of = r.of;
        outside = r.outside;
        others = all_init (CanEnter l) left p h';
        counts = (let s = length-append left (p ∷ []) in omega arith) ∙ ap length (sym e);
        owns = (let s = sum_by-append own_count left (p ∷ []) in omega arith) ∙ ap (sum_by own_count) (sym e);
        began = λ history known rest. subst (λ (s : List (Participant E)). All (Continues history) s) (sym e)
            (All-push (Continues history) left p rest (subst (λ (xs : List E). IsPrefix xs history) seen known.seen));
      }

  pub more_merged : (l : Lock E) (id id' : TableId) (m m' : Own V E) (other : TableId) (n : Own V E) (p : Participant E) (left before seats : List (Participant E)) → before ≡ left ++ p ∷ [] → IsMerged l id m before seats
      → participant_of other n.0 ≡ p → IsHandle n → id' ≡ id → m' ≡ (after (joins n.0) m.0, []) → IsMerged l id' m' left seats
  more_merged l id id' m m' other n p left before seats e g view handle of me =
      let others : All (CanEnter l) (left ++ p ∷ []) = subst (λ (s : List (Participant E)). All (CanEnter l) s) e g.others in
      let both : ParticipantState E = after (joins n.0) m.0 in
      let seen : n.0.seen ≡ p.seen = ap (λ (q : Participant E). q.seen) view in
      let own : length m'.0.own ≡ length m.0.own + length n.0.own = ap (λ (z : Own V E). length z.0.own) me ∙ length-append m.0.own n.0.own in
      let its : length n.0.own ≡ own_count p = ap own_count view in
      let count : m'.0.represents ≡ m.0.represents + n.0.represents = ap (λ (z : Own V E). z.0.represents) me in
      let one = handle.one in
      let s = sum_by-append own_count left (p ∷ []) in
      let t = length-append left (p ∷ []) in
      let s' : sum_by own_count before ≡ sum_by own_count (left ++ p ∷ []) = ap (sum_by own_count) e in
      let t' : length before ≡ length (left ++ p ∷ []) = ap length e in
      let gc = g.counts in let go = g.owns in record {
        of = of ∙ g.of;
        outside = subst (λ (z : Own V E). IsOutside z) (sym me) record { no_ticket = refl; no_turn = refl; no_slot = refl };
        others = all_init (CanEnter l) left p others;
        counts = omega arith;
        owns = omega arith;
        began = λ history known rest.
            let k : Extends history both = subst (λ (z : Own V E). Extends history z.0) me known in
            let mine : Continues history p = subst (λ (xs : List E). IsPrefix xs history) seen (k.merged 0 [] (omega arith)) in
            let earlier : (j : ℕ) (d : List E) → j < length m.0.merged → IsPrefix (get_or m.0.merged j d) history = all_suffix (λ xs. IsPrefix xs history) (n.0.seen ∷ n.0.merged) m.0.merged k.merged in
            g.began history record { seen = k.seen; merged = earlier } (subst (λ (z : List (Participant E)). All (Continues history) z) (sym e) (All-push (Continues history) left p rest mine));
      }

  -- once no handle is left
  pub record IsWhole (l : Lock E) (id : TableId) (m : Own V E) (seats : List (Participant E)) : Type 0 where
    pub of : id ≡ l.id
    pub outside : IsOutside m
    pub counts : m.0.represents ≡ length seats
    pub owns : length m.0.own ≡ sum_by own_count seats
    pub began : (history : List E) → Extends history m.0 → All (Continues history) seats

  pub all_merged : (l : Lock E) (id : TableId) (m : Own V E) (left seats : List (Participant E)) → IsMerged l id m left seats → length left ≡ 0 → IsWhole l id m seats
  all_merged l id m [] seats g e =
      let gc = g.counts in let go = g.owns in
      record { of = g.of; outside = g.outside; counts = omega arith; owns = omega arith; began = λ history known. g.began history known (λ k d h. absurd (omega arith)) }
  all_merged l id m (x ∷ left) seats g e = absurd (omega arith)
