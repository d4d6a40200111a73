-- Each step keeps the invariant of the lock.
use Rattle.std.proofs.Common.{◌≡◌, ℕ, zero, suc, ◌+◌, ◌%◌, ◌^◌, ◌<◌, ◌≤◌, ◌≢◌, ◌==◌, Bool, true, false, is_some, List, [], ◌∷◌, ◌++◌, length, drop, All, get_or, set, Option, Some, None, MatchBool, if◌then◌else◌, sym, refl, ap, ◌∙◌, subst, ⊎_elim, inl, inr, arith, append-nil, append_assoc, length-append}
use mathlib.Core.Logic.{dite}
use mathlib.Core.List.{IsPrefix}
use mathlib.Core.Option as maybe
use native.Mathlib.Decide.{ℕ_discrete}
use lib.ListN.{get_elem?}
use lib.Seq.{set-get_or}
use Rattle.std.proofs.lemmas.Bool.Decides.{nat_tests}
use Rattle.std.proofs.lemmas.List.Elements.{All-append, All-cons}
use Rattle.atomic_table.specs.Table.{rest, put_back, State, Me, step, keeps, takes, gives, stepped, Allows, Splits, Joins, Final, Seen}
use Rattle.atomic_table.proofs.Lists.{at_set, at_snoc, set_again, set_here, set_else, at_longer, one_turn}
use Rattle.turnstile.specs.declared.participant.ParticipantState.{ParticipantState}
use Rattle.turnstile.specs.Steps.{with_entries, after, splits, joins, split_off, retired, ticket_taken, polled, released}
use Rattle.turnstile.specs.Invariant.{tickets_held, total, own_entries, Each, IsConsistent, IsLocated, TurnInvariant}
use Rattle.turnstile.proofs.Totals.{total_set, total_snoc, total_le, each_set, two_le, only_one}

some_same : (a b : ℕ) → Some a ≡ Some b → a ≡ b
some_same a b e = cc

mod_step : (n : ℕ) → (n % 2 ^ 64 + 1) % 2 ^ 64 ≡ (n + 1) % 2 ^ 64
mod_step n = omega arith

eq_of : (a b : ℕ) → (a == b) ≡ true → a ≡ b
eq_of a b h = grind (arith, nat_tests)

pub eq_is : (a b : ℕ) → a ≡ b → (a == b) ≡ true
eq_is a b h = grind (arith, nat_tests)

told : (b : Bool) (A B : Type 0) → (b ≡ true → A) → (b ≡ false → B) → MatchBool b A B
told true A B f g = f refl
told false A B f g = g refl

not_true : (b : Bool) → (b ≡ true → ⊥) → b ≡ false
not_true true h = absurd (h refl)
not_true false h = refl

none_some : {P : Type 0} (o : Option ℕ) (t : ℕ) → o ≡ None → o ≡ Some t → P
none_some o t a b = absurd (let bad : None ≡ Some t = sym a ∙ b in cc)

false_true : {P : Type 0} (b : Bool) → b ≡ false → b ≡ true → P
false_true b p q = absurd (let bad : false ≡ true = sym p ∙ q in cc)

module _ {A : Type 0} where
  inside : (l : List A) (i : ℕ) (a : A) → get_elem? l i ≡ maybe.some a → i < length l
  inside [] i a e = absurd (maybe.some-ne-none a (sym e))
  inside (x ∷ xs) zero a e = omega arith
  inside (x ∷ xs) (suc i) a e = let r = inside xs i a e in omega arith

  pub drop_all : (xs ys : List A) → drop (length xs) (xs ++ ys) ≡ ys
  drop_all [] ys = refl
  drop_all (x ∷ xs) ys = drop_all xs ys

module _ {E : Type 0} where
  -- no two participants have one ticket
  abbrev pub Apart : List (ParticipantState E) → Type 0
  Apart vs = (j k : ℕ) (v w : ParticipantState E) (t : ℕ) → get_elem? vs j ≡ maybe.some v → get_elem? vs k ≡ maybe.some w → v.ticket ≡ Some t → w.ticket ≡ Some t → j ≡ k

  apart_set : (vs : List (ParticipantState E)) (i : ℕ) (w : ParticipantState E) → Apart vs → ((k : ℕ) (u : ParticipantState E) (t : ℕ) → k ≢ i → get_elem? vs k ≡ maybe.some u → w.ticket ≡ Some t → u.ticket ≡ Some t → k ≡ i) → Apart (set vs i w)
  apart_set vs i w old new j k v u t ej ek tj tk =
      ⊎_elim (λ (a : (j ≡ i) × (w ≡ v)).
      ⊎_elim (λ (b : (k ≡ i) × (w ≡ u)). a.0 ∙ sym b.0)
      (λ (b : (k ≢ i) × (get_elem? vs k ≡ maybe.some u)). a.0 ∙ sym (new k u t b.0 b.1 (ap (λ (z : ParticipantState E). z.ticket) a.1 ∙ tj) tk)) (at_set vs i k w u ek))
      (λ (a : (j ≢ i) × (get_elem? vs j ≡ maybe.some v)).
      ⊎_elim (λ (b : (k ≡ i) × (w ≡ u)). new j v t a.0 a.1 (ap (λ (z : ParticipantState E). z.ticket) b.1 ∙ tk) tj ∙ sym b.0)
      (λ (b : (k ≢ i) × (get_elem? vs k ≡ maybe.some u)). old j k v u t a.1 b.1 tj tk) (at_set vs i k w u ek))
      (at_set vs i j w v ej)

  one_view : (vs : List (ParticipantState E)) (i : ℕ) (v w : ParticipantState E) → get_elem? vs i ≡ maybe.some v → get_elem? vs i ≡ maybe.some w → v ≡ w
  one_view vs i v w a b = maybe.some-injective v w (sym a ∙ b)

  no_waits : (v : ParticipantState E) → v.ticket ≡ None → tickets_held v ≡ 0
  no_waits v e = ap (λ (o : Option ℕ). if is_some o then 1 else 0) e

  one_waits : (v : ParticipantState E) (t : ℕ) → v.ticket ≡ Some t → tickets_held v ≡ 1
  one_waits v t e = ap (λ (o : Option ℕ). if is_some o then 1 else 0) e

  same_prefix : (xs ys : List E) → xs ≡ ys → IsPrefix xs ys
  same_prefix xs ys e = ([], append-nil xs ∙ e)

  longer_prefix : (xs history new log' : List E) → IsPrefix xs history → log' ≡ history ++ new → IsPrefix xs log'
  longer_prefix xs history new log' p e = (p.0 ++ new, sym (append_assoc xs p.0 new) ∙ (ap (λ (l : List E). l ++ new) p.1 ∙ sym e))

module _ {V E : Type 0} (journal : V → List E) (opening handles : ℕ) where
  abbrev St : Type 0
  St = State (Option V) (ParticipantState E)

  abbrev M : Type 0
  M = Me (Option V) (ParticipantState E)

  abbrev Rule : St → Type 0
  Rule = TurnInvariant journal opening handles

  abbrev Homes : Type 0
  Homes = List (maybe.Option (Option V))

  -- the value stays where it is at a step of a participant that doesn't have the turn before or after it
  located_stays : (homes : Homes) (vs : List (ParticipantState E)) (history : List E) (i : ℕ) (v w : ParticipantState E) → get_elem? vs i ≡ maybe.some v → v.has_turn ≡ false → w.has_turn ≡ false → IsLocated journal homes vs history → IsLocated journal homes (set vs i w) history
  located_stays homes vs history i v w at out out' p =
      ⊎_elim
      (λ (h : (x : V) × (homes ≡ maybe.some (Some x) ∷ []) × (journal x ≡ history) × Each vs (λ _ v. v.has_turn ≡ false)).
      inl (h.0, h.1, h.2, each_set (λ _ u. u.has_turn ≡ false) (λ _ u. u.has_turn ≡ false) vs i w h.3 out' (λ j u ne e same. same)))
      (λ (h : (homes ≡ maybe.none ∷ []) × ((j : ℕ) × (u : ParticipantState E) × (get_elem? vs j ≡ maybe.some u) × (u.has_turn ≡ true))).
      let j = h.1.0 in let u = h.1.1 in
      let ne : j ≢ i = λ same. absurd (let e : u ≡ v = one_view vs i u v (subst (λ (z : ℕ). get_elem? vs z ≡ maybe.some u) same h.1.2) at in let bad : true ≡ false = sym h.1.3 ∙ (ap (λ (z : ParticipantState E). z.has_turn) e ∙ out) in cc) in
      inr (h.0, (j, u, set_else vs i j w ne ∙ h.1.2, h.1.3)))
      p

  pub ticket_keeps : (slots id : ℕ) (me : M) → me.0.ticket ≡ None → me.0.has_turn ≡ false → 0 < me.0.represents → Allows Rule slots id me 0 (λ n. (n + 1) % 2 ^ 64) (ticket_taken journal (step slots 0 1 0 maybe.none) me)
  ticket_keeps slots id me none out live s r _ at _ =
      let w : ParticipantState E = record me.0 { ticket = Some r.tickets } in
      let t0 = total_set tickets_held s.views id me.0 w at in
      let t1 = total_set (λ v. v.represents) s.views id me.0 w at in
      let t2 = total_set (λ v. length v.own) s.views id me.0 w at in
      let none_yet = no_waits me.0 none in
      let mine = r.each id me.0 at in
      let outstanding = r.outstanding in let all_represented = r.all_represented in let added = r.added in (
        w,
        keeps,
        tt,
        record {
          tickets = r.tickets + 1;
          turns = r.turns;
          history = r.history;
          words = ap (λ (ws : List ℕ). set ws 0 ((get_or ws 0 0 + 1) % 2 ^ 64)) r.words ∙ ap (λ (z : ℕ). z ∷ r.turns % 2 ^ 64 ∷ []) (mod_step r.tickets);
          outstanding = omega arith;
          all_represented = omega arith;
          few = r.few;
          each = each_set (λ _ v. IsConsistent r.tickets r.turns r.history v) (λ _ v. IsConsistent (r.tickets + 1) r.turns r.history v) s.views id w r.each
              record { seen = mine.seen; merged = mine.merged; alone = omega arith; spent = mine.spent; between = λ t e. (let same : r.tickets ≡ t = some_same r.tickets t e in omega arith); has_turn = λ e. absurd (let bad : false ≡ true = sym out ∙ e in cc) }
              (λ j v ne e o. record { seen = o.seen; merged = o.merged; alone = o.alone; spent = o.spent; between = λ t e. (let b = o.between t e in (b.0, omega arith)); has_turn = o.has_turn });
          apart = apart_set s.views id w r.apart (λ k u t ne e a b. absurd (let same : r.tickets ≡ t = some_same r.tickets t a in let h = (r.each k u e).between t b in omega arith));
          added = omega arith;
          located = located_stays s.homes s.views r.history id me.0 w at out out r.located;
        },
        (r.tickets, ap (λ (ws : List ℕ). get_or ws 0 0) (sym r.words), refl, refl),
      )

  -- a step that changes nothing
  unmoved : (s : St) (i id : ℕ) (cs : List (ℕ × Option V)) (v : ParticipantState E) → get_elem? s.views id ≡ maybe.some v → Rule s → Rule (stepped s i (get_or s.words i 0) id cs v keeps)
  unmoved s i id cs v at r = subst (λ (z : List ℕ × List (ParticipantState E)). Rule record { words = z.0; homes = s.homes; views = z.1 }) (λ k. (sym (set-get_or s.words i 0) k, sym (set_again s.views id v at) k)) r

  -- no more tickets are held than there are handles
  few_outstanding : (s : St) (r : Rule s) → total tickets_held s.views ≤ handles
  few_outstanding s r = let le = total_le tickets_held (λ v. v.represents) s.views (λ j v e. (r.each j v e).alone) in let d = r.all_represented in omega arith

  -- a ticket of the number that word 1 has is the next one
  is_next : (s : St) (r : Rule s) (id : ℕ) (v : ParticipantState E) (t : ℕ) → get_elem? s.views id ≡ maybe.some v → v.ticket ≡ Some t → r.turns % 2 ^ 64 ≡ t % 2 ^ 64 → r.turns ≡ t
  is_next s r id v t at e same = let b = (r.each id v at).between t e in let f = few_outstanding s r in let w = r.outstanding in let few = r.few in one_turn r.turns t (2 ^ 64) b.0 (omega arith) same

  pub poll_keeps : (slots id : ℕ) (me : M) (t : ℕ) → me.0.ticket ≡ Some t → me.0.has_turn ≡ false → Allows Rule slots id me 1 (λ n. n) (polled journal (step slots 1 0 0 maybe.none) me)
  poll_keeps slots id me t e out s r _ at _ =
      let n : ℕ = get_or s.words 1 0 in
      let n_is : n ≡ r.turns % 2 ^ 64 = ap (λ (ws : List ℕ). get_or ws 1 0) r.words in
      dite (ℕ_discrete n (t % 2 ^ 64))
      (λ hit. let now : r.turns ≡ t = is_next s r id me.0 t at e (sym n_is ∙ hit) in ⊎_elim
      (λ (h : (x : V) × (s.homes ≡ maybe.some (Some x) ∷ []) × (journal x ≡ r.history) × Each s.views (λ _ v. v.has_turn ≡ false)).
      let x : V = h.0 in
      let w : ParticipantState E = record me.0 { seen = journal x; has_turn = true } in
      let t0 = total_set tickets_held s.views id me.0 w at in
      let t1 = total_set (λ v. v.represents) s.views id me.0 w at in
      let t2 = total_set (λ v. length v.own) s.views id me.0 w at in
      let mine = r.each id me.0 at in
      let outstanding = r.outstanding in let all_represented = r.all_represented in let added = r.added in (
        w,
        takes 0 (Some x),
        ap (λ (hs : Homes). get_elem? hs 0) h.1,
        record {
          tickets = r.tickets;
          turns = r.turns;
          history = r.history;
          words = ap (λ (ws : List ℕ). set ws 1 (get_or ws 1 0)) r.words;
          outstanding = omega arith;
          all_represented = omega arith;
          few = r.few;
          each = each_set (λ _ v. IsConsistent r.tickets r.turns r.history v) (λ _ v. IsConsistent r.tickets r.turns r.history v) s.views id w r.each
              record { seen = same_prefix (journal x) r.history h.2; merged = mine.merged; alone = mine.alone; spent = mine.spent; between = mine.between; has_turn = λ _. (e ∙ ap Some (sym now), h.2) }
              (λ j v ne at' o. o);
          apart = apart_set s.views id w r.apart (λ k u t' ne ek a b. r.apart k id u me.0 t' ek at b a);
          added = omega arith;
          located = inr (ap (λ (hs : Homes). set hs 0 maybe.none) h.1, (id, w, set_here s.views id w (inside s.views id me.0 at), refl));
        },
        (λ t' e'. told (n == t' % 2 ^ 64) _ _
            (λ yes. (x, subst (λ (l : List E). IsPrefix me.0.seen l) (sym h.2) mine.seen, refl, refl))
            (λ no. let same : t' ≡ t = some_same t' t (sym e' ∙ e) in false_true (n == t' % 2 ^ 64) no (eq_is n (t' % 2 ^ 64) (hit ∙ ap (λ (z : ℕ). z % 2 ^ 64) (sym same))))),
      ))
      (λ (h : (s.homes ≡ maybe.none ∷ []) × ((j : ℕ) × (v : ParticipantState E) × (get_elem? s.views j ≡ maybe.some v) × (v.has_turn ≡ true))).
      let j = h.1.0 in let v = h.1.1 in let at_j = h.1.2 in
      let same : j ≡ id = r.apart j id v me.0 r.turns at_j at ((r.each j v at_j).has_turn h.1.3).0 (e ∙ ap Some (sym now)) in
      let is : v ≡ me.0 = one_view s.views id v me.0 (subst (λ (z : ℕ). get_elem? s.views z ≡ maybe.some v) same at_j) at in
      false_true me.0.has_turn out (sym (ap (λ (z : ParticipantState E). z.has_turn) is) ∙ h.1.3))
      r.located)
      (λ miss. (
        me.0,
        keeps,
        tt,
        unmoved s 1 id me.1 me.0 at r,
        (λ t' e'. told (n == t' % 2 ^ 64) _ _
            (λ yes. let same : t' ≡ t = some_same t' t (sym e' ∙ e) in absurd (miss (eq_of n (t' % 2 ^ 64) yes ∙ ap (λ (z : ℕ). z % 2 ^ 64) same)))
            (λ no. refl)),
      ))

  pub record OwnFacts (v w : ParticipantState E) (new : List E) : Type 0 where
    pub seen : w.seen ≡ v.seen ++ new
    pub own : length w.own ≡ length v.own + length new
    pub merged : w.merged ≡ v.merged
    pub represents : w.represents ≡ v.represents
    pub no_ticket : w.ticket ≡ None
    pub no_turn : w.has_turn ≡ false

  own_facts : (v : ParticipantState E) (new : List E) → OwnFacts v (with_entries v new) new
  own_facts v new = record { seen = refl; own = length-append v.own new; merged = refl; represents = refl; no_ticket = refl; no_turn = refl }

  pub release_keeps : (slots id : ℕ) (me : M) (x : V) (new : List E) → ((t : ℕ) × (me.0.ticket ≡ Some t)) → me.0.has_turn ≡ true → me.1 ≡ (0, Some x) ∷ [] → journal x ≡ me.0.seen ++ new
      → Allows Rule slots id me 1 (λ n. (n + 1) % 2 ^ 64) (released journal (step slots 1 1 0 maybe.none) me)
  release_keeps slots id me x new ticket in_turn slot is s r _ at _ =
      let w : ParticipantState E = with_entries me.0 (drop (length me.0.seen) (journal x)) in
      let same_new : drop (length me.0.seen) (journal x) ≡ new = ap (drop (length me.0.seen)) is ∙ drop_all me.0.seen new in
      let f : OwnFacts me.0 w new = subst (λ (z : List E). OwnFacts me.0 (with_entries me.0 z) new) (sym same_new) (own_facts me.0 new) in
      let mine = r.each id me.0 at in
      let mt = (mine.has_turn in_turn).0 in
      let log_is : journal x ≡ r.history ++ new = is ∙ ap (λ (l : List E). l ++ new) (mine.has_turn in_turn).1 in
      let t0 = total_set tickets_held s.views id me.0 w at in
      let t1 = total_set (λ v. v.represents) s.views id me.0 w at in
      let t2 = total_set (λ v. length v.own) s.views id me.0 w at in
      let had = one_waits me.0 r.turns mt in
      let has = no_waits w f.no_ticket in
      let alone = mine.alone in
      let represents = f.represents in let own = f.own in
      let len : length (journal x) ≡ length r.history + length new = ap length log_is ∙ length-append r.history new in
      let outstanding = r.outstanding in let all_represented = r.all_represented in let added = r.added in
      let other_has_turn : (j : ℕ) (v : ParticipantState E) → j ≢ id → get_elem? s.views j ≡ maybe.some v → v.has_turn ≡ true → ⊥ = λ j v ne e sv. ne (r.apart j id v me.0 r.turns e at ((r.each j v e).has_turn sv).0 mt) in
      let away : s.homes ≡ maybe.none ∷ [] = ⊎_elim
      (λ (h : (y : V) × (s.homes ≡ maybe.some (Some y) ∷ []) × (journal y ≡ r.history) × Each s.views (λ _ v. v.has_turn ≡ false)). false_true me.0.has_turn (h.3 id me.0 at) in_turn)
      (λ (h : (s.homes ≡ maybe.none ∷ []) × ((j : ℕ) × (v : ParticipantState E) × (get_elem? s.views j ≡ maybe.some v) × (v.has_turn ≡ true))). h.0) r.located in (
        w,
        gives,
        tt,
        record {
          tickets = r.tickets;
          turns = r.turns + 1;
          history = journal x;
          words = ap (λ (ws : List ℕ). set ws 1 ((get_or ws 1 0 + 1) % 2 ^ 64)) r.words ∙ ap (λ (z : ℕ). r.tickets % 2 ^ 64 ∷ z ∷ []) (mod_step r.turns);
          outstanding = omega arith;
          all_represented = omega arith;
          few = r.few;
          each = each_set (λ _ v. IsConsistent r.tickets r.turns r.history v) (λ _ v. IsConsistent r.tickets (r.turns + 1) (journal x) v) s.views id w r.each
              record {
                seen = same_prefix w.seen (journal x) (f.seen ∙ sym is);
                merged = subst (λ (l : List (List E)). All (λ xs. IsPrefix xs (journal x)) l) (sym f.merged) (λ k d h. longer_prefix (get_or me.0.merged k d) r.history new (journal x) (mine.merged k d h) log_is);
                alone = omega arith;
                spent = λ e. absurd (omega arith);
                between = λ t e. none_some w.ticket t f.no_ticket e;
                has_turn = λ e. false_true w.has_turn f.no_turn e;
              }
              (λ j v ne e o. record {
                seen = longer_prefix v.seen r.history new (journal x) o.seen log_is;
                merged = λ k d h. longer_prefix (get_or v.merged k d) r.history new (journal x) (o.merged k d h) log_is;
                alone = o.alone;
                spent = o.spent;
                between = λ t et. (let b = o.between t et in let other : t ≢ r.turns = λ same. ne (r.apart j id v me.0 t e at et (mt ∙ ap Some (sym same))) in (omega arith, b.1));
                has_turn = λ sv. absurd (other_has_turn j v ne e sv);
              });
          apart = apart_set s.views id w r.apart (λ k u t ne ek a b. none_some w.ticket t f.no_ticket a);
          added = omega arith;
          located = inl (
            x,
            ap (λ (cs : List (ℕ × Option V)). put_back s.homes cs) slot ∙ ap (λ (hs : Homes). set hs 0 (maybe.some (Some x))) away,
            refl,
            each_set (λ _ v. Unit {0}) (λ _ v. v.has_turn ≡ false) s.views id w (λ j v e. tt) f.no_turn (λ j v ne e _. not_true v.has_turn (other_has_turn j v ne e)),
          );
        },
        (λ y slot' k. (with_entries me.0 (drop (length me.0.seen) (journal (same_value x y (sym slot ∙ slot') k))), rest (slot k))),
      )
    where
      same_value : (x y : V) → ◌≡◌ {A = List (ℕ × Option V)} ((0, Some x) ∷ []) ((0, Some y) ∷ []) → x ≡ y
      same_value x y e = let h : Some x ≡ Some y = ap (λ (l : List (ℕ × Option V)). (get_or l 0 (0, Some x)).1) e in cc

  located_more : (homes : Homes) (vs : List (ParticipantState E)) (history : List E) (w : ParticipantState E) → w.has_turn ≡ false → IsLocated journal homes vs history → IsLocated journal homes (vs ++ w ∷ []) history
  located_more homes vs history w out p =
      ⊎_elim
      (λ (h : (x : V) × (homes ≡ maybe.some (Some x) ∷ []) × (journal x ≡ history) × Each vs (λ _ v. v.has_turn ≡ false)).
      inl (h.0, h.1, h.2, λ j v e. ⊎_elim (λ old. h.3 j v old) (λ new. sym (ap (λ (z : ParticipantState E). z.has_turn) new) ∙ out) (at_snoc vs w v j e)))
      (λ (h : (homes ≡ maybe.none ∷ []) × ((j : ℕ) × (u : ParticipantState E) × (get_elem? vs j ≡ maybe.some u) × (u.has_turn ≡ true))).
      inr (h.0, (h.1.0, h.1.1, at_longer vs (w ∷ []) h.1.0 h.1.1 h.1.2, h.1.3)))
      p

  pub split_keeps : (id : ℕ) (v : ParticipantState E) → v.ticket ≡ None → v.has_turn ≡ false → 1 < v.represents → Splits Rule id v (after splits v) (split_off v)
  split_keeps id v none out more s r at =
      let w : ParticipantState E = after splits v in
      let u : ParticipantState E = split_off v in
      let vs : List (ParticipantState E) = set s.views id w in
      let t0 = total_set tickets_held s.views id v w at in
      let t1 = total_set (λ v. v.represents) s.views id v w at in
      let t2 = total_set (λ v. length v.own) s.views id v w at in
      let s0 = total_snoc tickets_held vs u in
      let s1 = total_snoc (λ v. v.represents) vs u in
      let s2 = total_snoc (λ v. length v.own) vs u in
      let none_yet = no_waits v none in
      let mine = r.each id v at in
      let outstanding = r.outstanding in let all_represented = r.all_represented in let added = r.added in
      let each' : Each vs (λ _ v. IsConsistent r.tickets r.turns r.history v) = each_set (λ _ v. IsConsistent r.tickets r.turns r.history v) (λ _ v. IsConsistent r.tickets r.turns r.history v) s.views id w r.each
      record { seen = mine.seen; merged = mine.merged; alone = omega arith; spent = λ e. absurd (omega arith); between = mine.between; has_turn = mine.has_turn }
      (λ j v ne e o. o) in
      let apart' : Apart vs = apart_set s.views id w r.apart (λ k u' t ne ek a b. r.apart k id u' v t ek at b a) in
      record {
        tickets = r.tickets;
        turns = r.turns;
        history = r.history;
        words = r.words;
        outstanding = omega arith;
        all_represented = omega arith;
        few = r.few;
        each = λ j z e. ⊎_elim (λ old. each' j z old) (λ new. subst (λ (y : ParticipantState E). IsConsistent r.tickets r.turns r.history y) new
            record { seen = mine.seen; merged = λ k d h. absurd (omega arith); alone = omega arith; spent = λ _. refl; between = λ t e. none_some None t refl e; has_turn = λ e. false_true false refl e }) (at_snoc vs u z j e);
        apart = λ j k a b t ej ek ta tb. ⊎_elim
            (λ olda. ⊎_elim (λ oldb. apart' j k a b t olda oldb ta tb) (λ newb. none_some b.ticket t (sym (ap (λ (z : ParticipantState E). z.ticket) newb)) tb) (at_snoc vs u b k ek))
            (λ newa. none_some a.ticket t (sym (ap (λ (z : ParticipantState E). z.ticket) newa)) ta) (at_snoc vs u a j ej);
        added = omega arith;
        located = located_more s.homes vs r.history u refl (located_stays s.homes s.views r.history id v w at out out r.located);
      }

  pub join_keeps : (id other : ℕ) (v w : ParticipantState E) → v.ticket ≡ None → v.has_turn ≡ false → w.ticket ≡ None → w.has_turn ≡ false → Joins Rule id v other w (after (joins w) v) retired
  join_keeps id other v w none out none' out' s r at ne at' =
      let b : ParticipantState E = after (joins w) v in
      let n : ParticipantState E = retired in
      let vs : List (ParticipantState E) = set s.views id b in
      let there : get_elem? s.views other ≡ maybe.some w = sym (set_else s.views id other b ne) ∙ at' in
      let t0 = total_set tickets_held s.views id v b at in
      let t1 = total_set (λ v. v.represents) s.views id v b at in
      let t2 = total_set (λ v. length v.own) s.views id v b at in
      let u0 = total_set tickets_held vs other w n at' in
      let u1 = total_set (λ v. v.represents) vs other w n at' in
      let u2 = total_set (λ v. length v.own) vs other w n at' in
      let nv = no_waits v none in let nw = no_waits w none' in
      let len : length (v.own ++ w.own) ≡ length v.own + length w.own = length-append v.own w.own in
      let mine = r.each id v at in let its = r.each other w there in
      let outstanding = r.outstanding in let all_represented = r.all_represented in let added = r.added in
      let P : ℕ → ParticipantState E → Type 0 = λ _ v. IsConsistent r.tickets r.turns r.history v in
      record {
        tickets = r.tickets;
        turns = r.turns;
        history = r.history;
        words = r.words;
        outstanding = omega arith;
        all_represented = omega arith;
        few = r.few;
        each = each_set P P vs other n
            (each_set P P s.views id b r.each record {
              seen = mine.seen;
              merged = All-cons (λ xs. IsPrefix xs r.history) w.seen (w.merged ++ v.merged) its.seen (All-append (λ xs. IsPrefix xs r.history) w.merged v.merged its.merged mine.merged);
              alone = omega arith;
              spent = λ e. (let a : v.represents ≡ 0 = omega arith in let b : w.represents ≡ 0 = omega arith in ap (λ (l : List E). l ++ w.own) (mine.spent a) ∙ its.spent b);
              between = λ t e. none_some None t refl e;
              has_turn = λ e. false_true false refl e;
            } (λ j v ne e o. o))
            record { seen = (r.history, refl); merged = λ k d h. absurd (omega arith); alone = omega arith; spent = λ _. refl; between = λ t e. none_some None t refl e; has_turn = λ e. false_true false refl e }
            (λ j v ne e o. o);
        apart = apart_set vs other n (apart_set s.views id b r.apart (λ k u t ne ek a b. none_some None t refl a)) (λ k u t ne ek a b. none_some None t refl a);
        added = omega arith;
        located = located_stays s.homes vs r.history other w n at' out' refl (located_stays s.homes s.views r.history id v b at out refl r.located);
      }

  -- a participant that represents all handles, at the end
  pub record Ended (v : ParticipantState E) (xs : List (Option V)) : Type 0 where
    pub value : V
    pub home : get_elem? xs 0 ≡ maybe.some (Some value)
    pub seen : IsPrefix v.seen (journal value)
    pub merged : All (λ l. IsPrefix l (journal value)) v.merged
    pub added : length (journal value) ≡ opening + length v.own

  pub ends : (id : ℕ) (v : ParticipantState E) (ws : List ℕ) (xs : List (Option V)) → v.ticket ≡ None → v.has_turn ≡ false → v.represents ≡ handles → Final (Seen Rule id v) ws xs → Ended v xs
  ends id v ws xs none out all f =
      let s : St = f.0 in let r : Rule s = f.1.0 in let at = f.1.1 in
      let mine = r.each id v at in
      let all_represented = r.all_represented in
      let none_left : (j : ℕ) (w : ParticipantState E) → j ≢ id → get_elem? s.views j ≡ maybe.some w → w.represents ≡ 0 = λ j w ne e. (let le = two_le (λ v. v.represents) s.views id j v w ne at e in omega arith) in
      let own_all : own_entries s.views ≡ length v.own = only_one (λ v. length v.own) s.views id v at (λ j w ne e. ap length ((r.each j w e).spent (none_left j w ne e))) in
      let added = r.added in
      ⊎_elim
      (λ (h : (x : V) × (s.homes ≡ maybe.some (Some x) ∷ []) × (journal x ≡ r.history) × Each s.views (λ _ v. v.has_turn ≡ false)).
      let x : V = h.0 in record {
        value = x;
        home = f.4 0 (Some x) (ap (λ (hs : Homes). get_elem? hs 0) h.1);
        seen = subst (λ (l : List E). IsPrefix v.seen l) (sym h.2) mine.seen;
        merged = subst (λ (l : List E). All (λ xs. IsPrefix xs l) v.merged) (sym h.2) mine.merged;
        added = ap length h.2 ∙ omega arith;
      })
      (λ (h : (s.homes ≡ maybe.none ∷ []) × ((j : ℕ) × (v : ParticipantState E) × (get_elem? s.views j ≡ maybe.some v) × (v.has_turn ≡ true))).
      let j = h.1.0 in let u = h.1.1 in let e = h.1.2 in
      let o = r.each j u e in let t = (o.has_turn h.1.3).0 in
      let one = one_waits u r.turns t in let alone = o.alone in
      let ne : j ≢ id = λ same. (let is : u ≡ v = one_view s.views id u v (subst (λ (z : ℕ). get_elem? s.views z ≡ maybe.some u) same e) at in false_true v.has_turn out (sym (ap (λ (z : ParticipantState E). z.has_turn) is) ∙ h.1.3)) in
      let z = none_left j u ne e in absurd (omega arith))
      r.located
