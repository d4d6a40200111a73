-- What holds of the frames of one station in the order in which they were sent: timestamps rise, and each frame of a
-- command that isn't the first of its line gives the same order as the one before it.
use Rattle.std.proofs.Common.{◌≡◌, ℕ, zero, suc, ◌+◌, ◌==◌, ◌<◌, ◌≤◌, ◌⊎◌, inl, inr, Bool, true, false, if◌then◌else◌, List, [], ◌∷◌, ◌++◌, slice_get, Option, Some, None, refl, sym, ap, subst, arith, ◌∙◌}
use Rattle.mav_names.specs.declared.names.Name.{Name}
use Rattle.mav_names.specs.Addresses.{same_name}
use Rattle.mav_frame.specs.Packet.{Packet, SignatureBlock}
use Rattle.mav_messages.specs.declared.commands.CommandLong.{CommandLong}
use Rattle.fleet_invariants.proofs.Lists.{some_is, nowhere}
use Rattle.fleet_invariants.proofs.Tests.{by_test}
use Rattle.fleet_command_laws.specs.Lines.{commanded, Order, order_in, begins, begins_with, orders_begun, line_at}

-- the timestamp that a frame is signed at
abbrev pub stamp_in : Option SignatureBlock → ℕ
stamp_in None = 0
stamp_in (Some block) = block.stamp

abbrev pub stamp_of : Packet → ℕ
stamp_of p = stamp_in p.block

module _ (name : Name) where
  abbrev pub IsBy : Packet → Type 0
  IsBy p = same_name p.from name ≡ true

  -- ---- timestamps

  -- the latest timestamp of the node, after one frame and after some
  abbrev pub stamp_next : ℕ → Packet → ℕ
  stamp_next low p = if same_name p.from name then stamp_of p else low

  abbrev pub last_stamp : ℕ → List Packet → ℕ
  last_stamp low [] = low
  last_stamp low (p ∷ ps) = last_stamp (stamp_next low p) ps

  abbrev pub Rising : ℕ → List Packet → Type 0
  Rising low [] = Unit {0}
  Rising low (p ∷ ps) = (IsBy p → low < stamp_of p) × Rising (stamp_next low p) ps

  pub rising_push : (low : ℕ) (ps : List Packet) (p : Packet) → Rising low ps → (IsBy p → last_stamp low ps < stamp_of p) → Rising low (ps ++ p ∷ [])
  rising_push low [] p h later = (later, tt)
  rising_push low (q ∷ qs) p h later = (h.0, rising_push (stamp_next low q) qs p h.1 later)

  pub last_push : (low : ℕ) (ps : List Packet) (p : Packet) → last_stamp low (ps ++ p ∷ []) ≡ stamp_next (last_stamp low ps) p
  last_push low [] p = refl
  last_push low (q ∷ qs) p = last_push (stamp_next low q) qs p

  not_below : (low : ℕ) (p : Packet) → (IsBy p → low < stamp_of p) → low ≤ stamp_next low p
  not_below low p later =
      by_test (λ n. low ≤ n) (same_name p.from name) (stamp_of p) low (λ is. let h = later is in omega arith) (λ _. omega arith)

  -- all are above what was before them
  above : (low : ℕ) (ps : List Packet) (i : ℕ) (p : Packet) → Rising low ps → slice_get ps i ≡ Some p → IsBy p → low < stamp_of p
  above low [] i p h found is = absurd (nowhere i p found)
  above low (q ∷ qs) zero p h found is = let same : q ≡ p = some_is found in subst (λ (x : Packet). IsBy x → low < stamp_of x) same h.0 is
  above low (q ∷ qs) (suc i) p h found is =
      let later = above (stamp_next low q) qs i p h.1 found is in
      let least = not_below low q h.0 in
      omega arith

  next_is : (low : ℕ) (p : Packet) → IsBy p → stamp_next low p ≡ stamp_of p
  next_is low p is = ap (λ (t : Bool). if t then stamp_of p else low) is

  pub stamps_rise : (low : ℕ) (ps : List Packet) (a b : ℕ) (p q : Packet) → Rising low ps → slice_get ps a ≡ Some p → slice_get ps b ≡ Some q → IsBy p → IsBy q → a < b → stamp_of p < stamp_of q
  stamps_rise low [] a b p q h pa qb ip iq less = absurd (nowhere a p pa)
  stamps_rise low (x ∷ xs) zero zero p q h pa qb ip iq less = absurd (omega arith)
  stamps_rise low (x ∷ xs) zero (suc b) p q h pa qb ip iq less =
      let same : x ≡ p = some_is pa in
      let later = above (stamp_next low x) xs b q h.1 qb iq in
      let is = ap (stamp_next low) same ∙ next_is low p ip in
      subst (λ n. n < stamp_of q) is later
  stamps_rise low (x ∷ xs) (suc a) zero p q h pa qb ip iq less = absurd (omega arith)
  stamps_rise low (x ∷ xs) (suc a) (suc b) p q h pa qb ip iq less = stamps_rise (stamp_next low x) xs a b p q h.1 pa qb ip iq (omega arith)

  compare : (a b : ℕ) → (a < b) ⊎ ((a ≡ b) ⊎ (b < a))
  compare a b = grind arith

  -- so the later of two was sent later, and a frame was sent once
  pub later_sent : (low : ℕ) (ps : List Packet) (a b : ℕ) (p q : Packet) → Rising low ps → slice_get ps a ≡ Some p → slice_get ps b ≡ Some q → IsBy p → IsBy q → stamp_of p < stamp_of q → a < b
  later_sent low ps a b p q h pa qb ip iq less = elim (compare a b) [
    | inl x ↦ x
    | inr y ↦ elim y [
      | inl same ↦ absurd (let e : p ≡ q = some_is (sym pa ∙ (ap (slice_get ps) same ∙ qb)) in let n = ap stamp_of e in omega arith)
      | inr z ↦ absurd (let n = stamps_rise low ps b a q p h qb pa iq ip z in omega arith)
    ]
  ]

  pub sent_once : (low : ℕ) (ps : List Packet) (a b : ℕ) (p : Packet) → Rising low ps → slice_get ps a ≡ Some p → slice_get ps b ≡ Some p → IsBy p → a ≡ b
  sent_once low ps a b p h pa pb is = elim (compare a b) [
    | inl x ↦ absurd (let n = stamps_rise low ps a b p p h pa pb is is x in omega arith)
    | inr y ↦ elim y [ inl same ↦ same | inr z ↦ absurd (let n = stamps_rise low ps b a p p h pb pa is is z in omega arith) ]
  ]

  -- ---- commands

  -- the order that the node gave last, after one frame and after some
  abbrev pub command_next : Option Order → Option CommandLong → Option Order
  command_next before None = before
  command_next before (Some m) = Some (order_in m)

  abbrev pub last_command : Option Order → List Packet → Option Order
  last_command before [] = before
  last_command before (p ∷ ps) = last_command (command_next before (commanded name p)) ps

  -- a frame that isn't the first of its line gives the order that was given last
  abbrev pub Repeats : Option Order → Option CommandLong → Type 0
  Repeats before None = Unit {0}
  Repeats before (Some m) = 0 < m.confirmation → before ≡ Some (order_in m)

  abbrev pub Runs : Option Order → List Packet → Type 0
  Runs before [] = Unit {0}
  Runs before (p ∷ ps) = Repeats before (commanded name p) × Runs (command_next before (commanded name p)) ps

  pub runs_push : (before : Option Order) (ps : List Packet) (p : Packet) → Runs before ps → Repeats (last_command before ps) (commanded name p) → Runs before (ps ++ p ∷ [])
  runs_push before [] p h again = (again, tt)
  runs_push before (q ∷ qs) p h again = (h.0, runs_push (command_next before (commanded name q)) qs p h.1 again)

  pub command_push : (before : Option Order) (ps : List Packet) (p : Packet) → last_command before (ps ++ p ∷ []) ≡ command_next (last_command before ps) (commanded name p)
  command_push before [] p = refl
  command_push before (q ∷ qs) p = command_push (command_next before (commanded name q)) qs p

  -- ---- the number of the line rises

  pub lines_rise : (ps : List Packet) (a b : ℕ) → a ≤ b → line_at name ps a ≤ line_at name ps b
  lines_rise [] a b h = omega arith
  lines_rise (p ∷ ps) zero zero h = omega arith
  lines_rise (p ∷ ps) zero (suc b) h = omega arith
  lines_rise (p ∷ ps) (suc a) zero h = absurd (omega arith)
  lines_rise (p ∷ ps) (suc a) (suc b) h = let e = lines_rise ps a b (omega arith) in omega arith

  -- a frame that begins no line
  confirmed : (m : CommandLong) → begins (Some m) ≡ 0 → 0 < m.confirmation
  confirmed m none =
      by_test (λ n. n ≡ 0 → 0 < m.confirmation) (m.confirmation == 0) 1 0 (λ _ e. absurd (omega arith)) (λ e _. grind arith) none

  -- after one that begins none the last order is still the same
  still : (c : Order) (o : Option CommandLong) → begins o ≡ 0 → Repeats (Some c) o → command_next (Some c) o ≡ Some c
  still c None none h = refl
  still c (Some m) none h = sym (h (confirmed m none))

  pub record IsAgain (c : Order) (n : CommandLong) : Type 0 where
    pub confirmed : 0 < n.confirmation
    pub same : order_in n ≡ c

  first_none : (a b : ℕ) → a + b ≡ 0 → a ≡ 0
  first_none a b e = omega arith

  rest_none : (a b : ℕ) → a + b ≡ 0 → b ≡ 0
  rest_none a b e = omega arith

  -- as long as no line begins, each frame gives the same order
  same_from : (c : Order) (ps : List Packet) (b : ℕ) (q : Packet) (n : CommandLong) → Runs (Some c) ps → line_at name ps b ≡ 0 → slice_get ps b ≡ Some q → commanded name q ≡ Some n → IsAgain c n
  same_from c [] b q n h none found is = absurd (nowhere b q found)
  same_from c (x ∷ xs) zero q n h none found is =
      let e : commanded name x ≡ Some n = ap (commanded name) (some_is found) ∙ is in
      let more = confirmed n (sym (ap begins e) ∙ none) in
      record { confirmed = more; same = sym (some_is (subst (Repeats (Some c)) e h.0 more)) }
  same_from c (x ∷ xs) (suc b) q n h none found is =
      let kept = still c (commanded name x) (first_none (begins (commanded name x)) (line_at name xs b) none) h.0 in
      same_from c xs b q n (subst (λ o. Runs o xs) kept h.1) (rest_none (begins (commanded name x)) (line_at name xs b) none) found is

  no_more : (a b : ℕ) → a ≡ a + b → b ≡ 0
  no_more a b e = omega arith

  both_less : (k a b : ℕ) → k + a ≡ k + b → a ≡ b
  both_less k a b e = omega arith

  pub same_line : (before : Option Order) (ps : List Packet) (a b : ℕ) (p q : Packet) (m n : CommandLong) → Runs before ps → slice_get ps a ≡ Some p → slice_get ps b ≡ Some q → commanded name p ≡ Some m → commanded name q ≡ Some n
      → a < b → line_at name ps a ≡ line_at name ps b → IsAgain (order_in m) n
  same_line before [] a b p q m n h pa qb ip iq less same = absurd (nowhere a p pa)
  same_line before (x ∷ xs) zero zero p q m n h pa qb ip iq less same = absurd (omega arith)
  same_line before (x ∷ xs) zero (suc b) p q m n h pa qb ip iq less same =
      let e : commanded name x ≡ Some m = ap (commanded name) (some_is pa) ∙ ip in
      same_from (order_in m) xs b q n (subst (λ (o : Option CommandLong). Runs (command_next before o) xs) e h.1) (no_more (begins (commanded name x)) (line_at name xs b) same) qb iq
  same_line before (x ∷ xs) (suc a) zero p q m n h pa qb ip iq less same = absurd (omega arith)
  same_line before (x ∷ xs) (suc a) (suc b) p q m n h pa qb ip iq less same =
      same_line (command_next before (commanded name x)) xs a b p q m n h.1 pa qb ip iq (omega arith) (both_less (begins (commanded name x)) (line_at name xs a) (line_at name xs b) same)

  -- ---- the order of a line

  -- a frame has the order of its line, or the one that was given before all of these
  pub record IsOfLine (ps : List Packet) (a : ℕ) (m : CommandLong) : Type 0 where
    pub line : ℕ
    pub line_is : line_at name ps a ≡ line + 1
    pub order : slice_get (orders_begun name ps) line ≡ Some (order_in m)

  record IsOfBefore (before : Option Order) (ps : List Packet) (a : ℕ) (m : CommandLong) : Type 0 where
    none : line_at name ps a ≡ 0
    order : before ≡ Some (order_in m)

  -- the first frame
  of_first : (before : Option Order) (p : Packet) (ps : List Packet) (m : CommandLong) → commanded name p ≡ Some m → Repeats before (commanded name p) → IsOfBefore before (p ∷ ps) 0 m ⊎ IsOfLine (p ∷ ps) 0 m
  of_first before p ps m is again = by_confirmation (m.confirmation == 0) refl
    where
      begun : begins (commanded name p) ≡ (if m.confirmation == 0 then 1 else 0)
      begun = ap begins is

      orders : orders_begun name (p ∷ ps) ≡ (if m.confirmation == 0 then order_in m ∷ [] else []) ++ orders_begun name ps
      orders = ap (λ o. begins_with o ++ orders_begun name ps) is

      by_confirmation : (b : Bool) → (m.confirmation == 0) ≡ b → IsOfBefore before (p ∷ ps) 0 m ⊎ IsOfLine (p ∷ ps) 0 m
      by_confirmation true e = inr (record {
        line = 0;
        line_is = begun ∙ ap (λ (b : Bool). if b then 1 else 0) e;
        order = ap (λ os. slice_get os 0) (orders ∙ ap (λ (b : Bool). (if b then order_in m ∷ [] else []) ++ orders_begun name ps) e);
      })
      by_confirmation false e =
          let none : begins (commanded name p) ≡ 0 = begun ∙ ap (λ (b : Bool). if b then 1 else 0) e in
          inl (record { none = none; order = subst (Repeats before) is again (confirmed m (sym (ap begins is) ∙ none)) })

  -- a later one
  of_later : (before : Option Order) (p : Packet) (ps : List Packet) (a : ℕ) (m : CommandLong) (o : Option CommandLong) → commanded name p ≡ o → Repeats before o → IsOfBefore (command_next before o) ps a m ⊎ IsOfLine ps a m → IsOfBefore before (p ∷ ps) (suc a) m ⊎ IsOfLine (p ∷ ps) (suc a) m
  of_later before p ps a m None is again (inl x) = inl (record { none = (let none = ap begins is in let rest = x.none in omega arith); order = x.order })
  of_later before p ps a m None is again (inr x) = inr (record {
    line = x.line;
    line_is = (let none = ap begins is in let rest = x.line_is in omega arith);
    order = ap (λ o. slice_get (begins_with o ++ orders_begun name ps) x.line) is ∙ x.order;
  })
  of_later before p ps a m (Some n) is again h = by_confirmation (n.confirmation == 0) refl h
    where
      begun : line_at name (p ∷ ps) (suc a) ≡ (if n.confirmation == 0 then 1 else 0) + line_at name ps a
      begun = ap (λ o. begins o + line_at name ps a) is

      orders : orders_begun name (p ∷ ps) ≡ (if n.confirmation == 0 then order_in n ∷ [] else []) ++ orders_begun name ps
      orders = ap (λ o. begins_with o ++ orders_begun name ps) is

      by_confirmation : (b : Bool) → (n.confirmation == 0) ≡ b → IsOfBefore (Some (order_in n)) ps a m ⊎ IsOfLine ps a m → IsOfBefore before (p ∷ ps) (suc a) m ⊎ IsOfLine (p ∷ ps) (suc a) m
      by_confirmation true e (inl x) = inr (record {
        line = 0;
        line_is = (let all = begun ∙ ap (λ (b : Bool). (if b then 1 else 0) + line_at name ps a) e in let none = x.none in omega arith);
        order = ap (λ os. slice_get os 0) (orders ∙ ap (λ (b : Bool). (if b then order_in n ∷ [] else []) ++ orders_begun name ps) e) ∙ x.order;
      })
      by_confirmation true e (inr x) = inr (record {
        line = suc x.line;
        line_is = (let all = begun ∙ ap (λ (b : Bool). (if b then 1 else 0) + line_at name ps a) e in let rest = x.line_is in omega arith);
        order = ap (λ os. slice_get os (suc x.line)) (orders ∙ ap (λ (b : Bool). (if b then order_in n ∷ [] else []) ++ orders_begun name ps) e) ∙ x.order;
      })
      by_confirmation false e (inl x) = inl (record {
        none = (let all = begun ∙ ap (λ (b : Bool). (if b then 1 else 0) + line_at name ps a) e in let rest = x.none in omega arith);
        order = again (confirmed n (ap (λ (b : Bool). if b then 1 else 0) e)) ∙ x.order;
      })
      by_confirmation false e (inr x) = inr (record {
        line = x.line;
        line_is = (let all = begun ∙ ap (λ (b : Bool). (if b then 1 else 0) + line_at name ps a) e in let rest = x.line_is in omega arith);
        order = ap (λ os. slice_get os x.line) (orders ∙ ap (λ (b : Bool). (if b then order_in n ∷ [] else []) ++ orders_begun name ps) e) ∙ x.order;
      })

  of_either : (before : Option Order) (ps : List Packet) (a : ℕ) (p : Packet) (m : CommandLong) → Runs before ps → slice_get ps a ≡ Some p → commanded name p ≡ Some m → IsOfBefore before ps a m ⊎ IsOfLine ps a m
  of_either before [] a p m h found is = absurd (nowhere a p found)
  of_either before (q ∷ qs) zero p m h found is = of_first before q qs m (ap (commanded name) (some_is found) ∙ is) h.0
  of_either before (q ∷ qs) (suc a) p m h found is =
      of_later before q qs a m (commanded name q) refl h.0 (of_either (command_next before (commanded name q)) qs a p m h.1 found is)

  -- from the first frame on
  pub of_line : (ps : List Packet) (a : ℕ) (p : Packet) (m : CommandLong) → Runs None ps → slice_get ps a ≡ Some p → commanded name p ≡ Some m → IsOfLine ps a m
  of_line ps a p m h found is = elim (of_either None ps a p m h found is) [
    | inl x ↦ absurd (let wrong : ◌≡◌ {A = Option Order} None (Some (order_in m)) = x.order in cc)
    | inr x ↦ x
  ]
