-- Timestamps: what the world of messages keeps of a node's, and the node's history.
use Rattle.std.specs.Prelude.{unwrap_or, filter}
use Rattle.std.specs.List.{filter_map}
use Rattle.std.proofs.Common.{◌≡◌, ◌≢◌, ℕ, ◌+◌, ◌<◌, ◌≤◌, inl, inr, max, nat_lt, List, [], ◌∷◌, ◌++◌, map, fold, Option, Some, None, refl, sym, ap, subst, arith, ◌∙◌}
use Rattle.std.specs.Str.{bytes_eq}
use Rattle.std.proofs.lemmas.List.{map-append}
use Rattle.std.proofs.lemmas.Slice.Eq.{bytes_eq-Decides}
use Rattle.mav_names.specs.declared.names.Stream.{Stream}
use Rattle.mav_frame.specs.Packet.{Packet, SignatureBlock}
use Rattle.mav_sign.specs.declared.admission.Admit.{Admit}
use Rattle.mav_sign.specs.declared.admission.Admit.TheVariants.{Admitted, BadSignature, BelowFloor, NotLater}
use Rattle.mav_sign.specs.Signing.{signature_of, Verifies}
use Rattle.mav_sign.specs.History.{Entry, tried, sent, started, Stamped, stream_of, admitted_by, sent_by, started_by, same_stream, local_of, admitted_in, sent_in, greatest, greatest_of, latest, stamps_of, last_of, accepted_in, previous_in, next_in, unless_old, unless_below, low_of, answer_after, stamp_answer, block_answer}
use Rattle.mav_sign.proofs.Histories.{low_same, admitted_more, admitted_same, sent_more, sent_same, greatest_more, greatest_of_more, latest_more, same_self, same_is, stamps_more, stamps_same}
use Rattle.mav_nodes.specs.Links.{started_with}
use Rattle.plan_safety.specs.Store.{at}
use Rattle.plan_safety.proofs.Keys.{by_test, not_true, split, less, at_same, at_apart}

-- the last admitted timestamp of a stream that the world has is not above that of the history, or its low bound
abbrev pub Under : ℕ → Option ℕ → Option ℕ → Type 0
Under k low None = k ≤ unwrap_or low 0
Under k low (Some last) = k ≤ max last (unwrap_or low 0)

-- the world's timestamps of a node, by its clock and history
pub record KeepsTime (clock : ℕ) (history : List Entry) (admitted : Stream → ℕ) (upcoming : ℕ) : Type 0 where
  pub last : (s : Stream) → Under (admitted s) (low_of history) (last_of s history)
  pub next : upcoming ≤ next_in history clock
  pub some : 1 ≤ upcoming

-- the next timestamp is that of what the node sends now
pub record IsDue (clock : ℕ) (history : List Entry) (admitted : Stream → ℕ) (upcoming : ℕ) : Type 0 where
  pub last : (s : Stream) → Under (admitted s) (low_of history) (last_of s history)
  pub next : upcoming ≡ next_in history clock
  pub some : 1 ≤ upcoming

pub due_keeps : (clock : ℕ) (h : List Entry) (l : Stream → ℕ) (k : ℕ) → IsDue clock h l k → KeepsTime clock h l k
due_keeps clock h l k d = record { last = d.last; next = let e = d.next in omega arith; some = d.some }

-- the node waits until then
pub waits_due : (clock : ℕ) (h : List Entry) (l : Stream → ℕ) (k : ℕ) → KeepsTime clock h l k → IsDue clock h l (max k (next_in h clock))
waits_due clock h l k t = record { last = t.last; next = greater k (next_in h clock) t.next; some = at_least k (next_in h clock) t.some }
  where
    greater : (a b : ℕ) → a ≤ b → max a b ≡ b
    greater a b l = grind arith

    at_least : (a b : ℕ) → 1 ≤ a → 1 ≤ max a b
    at_least a b l = grind arith

-- the clock goes on
pub clock_keeps : (clock more : ℕ) (h : List Entry) (l : Stream → ℕ) (k : ℕ) → KeepsTime clock h l k → KeepsTime (clock + more) h l k
clock_keeps clock more h l k t = record { last = t.last; next = grown k (previous_in h + 1) clock (accepted_in h) more t.next; some = t.some }
  where
    grown : (k p c a m : ℕ) → k ≤ max p (max c a) → k ≤ max p (max (c + m) a)
    grown k p c a m l = grind arith

-- at first
pub first_keeps : (clock : ℕ) → KeepsTime clock [] (λ s. 0) 1
first_keeps clock = record { last = λ s. omega arith; next = one clock; some = omega arith }
  where
    one : (c : ℕ) → 1 ≤ max (0 + 1) (max c 0)
    one c = grind arith

-- ---- an entry that admits nothing and sends nothing
starts_nothing : (e : Entry) → sent_by e ≡ None → started_by e ≡ None
starts_nothing (tried packet answer) silent = refl
starts_nothing (sent stamp) silent = refl
starts_nothing (started low) silent = absurd (cc)

pub dropped_keeps : (clock : ℕ) (h : List Entry) (l : Stream → ℕ) (k : ℕ) (e : Entry) → admitted_by e ≡ None → sent_by e ≡ None → KeepsTime clock h l k → KeepsTime clock (h ++ e ∷ []) l k
dropped_keeps clock h l k e a b t = record {
  last = λ s.
      subst (λ low. Under (l s) low (last_of s (h ++ e ∷ []))) (sym (low_same h e (starts_nothing e b)))
      (subst (Under (l s) (low_of h)) (ap (λ (x : List Stamped). greatest_of (stamps_of s x)) (sym (admitted_same h e a))) (t.last s));
  next =
      let p : previous_in (h ++ e ∷ []) ≡ previous_in h = ap latest (sent_same h e b) in
      let q : accepted_in (h ++ e ∷ []) ≡ accepted_in h = ap (λ (x : List Stamped). greatest (map (λ (s : Stamped). s.stamp) x)) (admitted_same h e a) in
      subst (λ x. k ≤ max (x + 1) (max clock (accepted_in (h ++ e ∷ [])))) (sym p) (subst (λ x. k ≤ max (previous_in h + 1) (max clock x)) (sym q) t.next);
  some = t.some;
}

-- ---- a frame that is admitted
under_more : (k x : ℕ) (low : Option ℕ) (xs : List ℕ) → Under k low (greatest_of xs) → Under k low (greatest_of (xs ++ x ∷ []))
under_more k x low [] u = subst (Under k low) (sym (greatest_of_more [] x)) (least k x (unwrap_or low 0) u)
  where
    least : (k x b : ℕ) → k ≤ b → k ≤ max (max 0 x) b
    least k x b e = grind arith
under_more k x low (y ∷ ys) u = subst (Under k low) (sym (greatest_of_more (y ∷ ys) x)) (most k (greatest (y ∷ ys)) x (unwrap_or low 0) u)
  where
    most : (k g x b : ℕ) → k ≤ max g b → k ≤ max (max g x) b
    most k g x b l = grind arith

under_new : (x : ℕ) (low : Option ℕ) (xs : List ℕ) → Under x low (greatest_of (xs ++ x ∷ []))
under_new x low xs = subst (Under x low) (sym (greatest_of_more xs x)) (most (greatest xs) x (unwrap_or low 0))
  where
    most : (g x b : ℕ) → x ≤ max (max g x) b
    most g x b = grind arith

module _ (clock : ℕ) (h : List Entry) (e : Entry) (st : Stamped) (admits : admitted_by e ≡ Some st) (silent : sent_by e ≡ None) where
  more : admitted_in (h ++ e ∷ []) ≡ admitted_in h ++ st ∷ []
  more = admitted_more h e st admits

  accepted : accepted_in (h ++ e ∷ []) ≡ max (accepted_in h) st.stamp
  accepted =
      ap (λ (x : List Stamped). greatest (map (λ (s : Stamped). s.stamp) x)) more
      ∙ ap greatest (map-append (λ (s : Stamped). s.stamp) (admitted_in h) (st ∷ []))
      ∙ greatest_more (map (λ (s : Stamped). s.stamp) (admitted_in h)) st.stamp

  previous : previous_in (h ++ e ∷ []) ≡ previous_in h
  previous = ap latest (sent_same h e silent)

  next_is : next_in (h ++ e ∷ []) clock ≡ max (previous_in h + 1) (max clock (max (accepted_in h) st.stamp))
  next_is = ap (λ p. max (p + 1) (max clock (accepted_in (h ++ e ∷ [])))) previous ∙ ap (λ a. max (previous_in h + 1) (max clock a)) accepted

  -- the stream's last timestamp
  last_own : last_of st.stream (h ++ e ∷ []) ≡ greatest_of (stamps_of st.stream (admitted_in h) ++ st.stamp ∷ [])
  last_own = ap (λ (x : List Stamped). greatest_of (stamps_of st.stream x)) more ∙ ap greatest_of (stamps_more st.stream (admitted_in h) st (same_self st.stream))

  last_else : (s : Stream) → s ≢ st.stream → last_of s (h ++ e ∷ []) ≡ last_of s h
  last_else s far = ap (λ (x : List Stamped). greatest_of (stamps_of s x)) more ∙ ap greatest_of (stamps_same s (admitted_in h) st (not_true _ (λ t. far (same_is s st.stream t))))

  low_is : low_of (h ++ e ∷ []) ≡ low_of h
  low_is = low_same h e (starts_nothing e silent)

  still_under : (k : ℕ) (s : Stream) → Under k (low_of h) (last_of s h) → Under k (low_of (h ++ e ∷ [])) (last_of s (h ++ e ∷ []))
  still_under k s u = subst (λ low. Under k low (last_of s (h ++ e ∷ []))) (sym low_is) (elim (split st.stream s) [
    | inl is ↦ subst (λ x. Under k (low_of h) (last_of x h) → Under k (low_of h) (last_of x (h ++ e ∷ []))) (sym is) (λ v. subst (Under k (low_of h)) (sym last_own) (under_more k st.stamp (low_of h) (stamps_of st.stream (admitted_in h)) v)) u
    | inr far ↦ subst (Under k (low_of h)) (sym (last_else s far)) u
  ])

  -- in both worlds
  pub admits_due : (l : Stream → ℕ) (k : ℕ) → IsDue clock h l k → IsDue clock (h ++ e ∷ []) (at l st.stream st.stamp) (max k st.stamp)
  admits_due l k d = record {
    last = λ s. elim (split st.stream s) [
      | inl is ↦ subst (λ x. Under (at l st.stream st.stamp x) (low_of (h ++ e ∷ [])) (last_of x (h ++ e ∷ []))) (sym is)
          (subst (λ x. Under x (low_of (h ++ e ∷ [])) (last_of st.stream (h ++ e ∷ []))) (sym (at_same l st.stream st.stamp))
          (subst (Under st.stamp (low_of (h ++ e ∷ []))) (sym last_own) (under_new st.stamp (low_of (h ++ e ∷ [])) (stamps_of st.stream (admitted_in h)))))
      | inr far ↦ subst (λ x. Under x (low_of (h ++ e ∷ [])) (last_of s (h ++ e ∷ []))) (sym (at_apart l st.stream s st.stamp far)) (still_under (l s) s (d.last s))
    ];
    next = turns k (previous_in h + 1) clock (accepted_in h) st.stamp d.next ∙ sym next_is;
    some = at_least k st.stamp d.some;
  }
    where
      turns : (k p c a t : ℕ) → k ≡ max p (max c a) → max k t ≡ max p (max c (max a t))
      turns k p c a t e = grind arith

      at_least : (a b : ℕ) → 1 ≤ a → 1 ≤ max a b
      at_least a b l = grind arith

  -- of the history alone
  pub admits_keeps : (l : Stream → ℕ) (k : ℕ) → KeepsTime clock h l k → KeepsTime clock (h ++ e ∷ []) l k
  admits_keeps l k t = record {
    last = λ s. still_under (l s) s (t.last s);
    next = subst (λ x. k ≤ x) (sym next_is) (grown k (previous_in h + 1) clock (accepted_in h) st.stamp t.next);
    some = t.some;
  }
    where
      grown : (k p c a t : ℕ) → k ≤ max p (max c a) → k ≤ max p (max c (max a t))
      grown k p c a t l = grind arith

-- ---- a frame that is sent
pub sends_keeps : (clock : ℕ) (h : List Entry) (l : Stream → ℕ) (k : ℕ) → IsDue clock h l k → KeepsTime clock (h ++ sent (next_in h clock) ∷ []) l (k + 1)
sends_keeps clock h l k d =
    let now : ℕ = next_in h clock in
    let p : previous_in (h ++ sent now ∷ []) ≡ now = ap latest (sent_more h (sent now) now refl) ∙ latest_more (sent_in h) now in
    record {
      last = λ s.
          subst (λ low. Under (l s) low (last_of s (h ++ sent now ∷ []))) (sym (low_same h (sent now) refl))
          (subst (Under (l s) (low_of h)) (ap (λ (x : List Stamped). greatest_of (stamps_of s x)) (sym (admitted_same h (sent now) refl))) (d.last s));
      next = subst (λ x. k + 1 ≤ max (x + 1) (max clock (accepted_in (h ++ sent now ∷ [])))) (sym p) (above k now clock (accepted_in (h ++ sent now ∷ [])) d.next);
      some = omega arith;
    }
  where
    above : (k n c a : ℕ) → k ≡ n → k + 1 ≤ max (n + 1) (max c a)
    above k n c a e = grind arith

-- ---- admission
after_later : (low o : Option ℕ) (streams local stamp k : ℕ) → answer_after o streams local stamp ≡ Admitted → Under k low o → unwrap_or low 0 < stamp → k < stamp
after_later low None streams local stamp k e u above = omega arith
after_later low (Some last) streams local stamp k e u above =
    by_test (λ (a : Admit). a ≡ Admitted → k < stamp) (nat_lt last stamp) (unless_old local stamp Admitted) (NotLater last)
    (λ t _. both k last (unwrap_or low 0) stamp u (less last stamp t) above) (λ _ is. absurd (cc)) e
  where
    both : (k a b c : ℕ) → k ≤ max a b → a < c → b < c → k < c
    both k a b c h i j = grind arith

-- what is admitted is above the low bound, and would be admitted without one
record AboveLow (low : Option ℕ) (stamp : ℕ) (answer : Admit) : Type 0 where
  is : answer ≡ Admitted
  above : 1 ≤ stamp → unwrap_or low 0 < stamp

above_low : (low : Option ℕ) (stamp : ℕ) (answer : Admit) → unless_below low stamp answer ≡ Admitted → AboveLow low stamp answer
above_low None stamp answer e = record { is = e; above = λ some. omega arith }
above_low (Some low) stamp answer e =
    by_test (λ (a : Admit). a ≡ Admitted → AboveLow (Some low) stamp answer) (nat_lt low stamp) answer (BelowFloor low)
    (λ t is. record { is = is; above = λ some. less low stamp t }) (λ _ is. absurd (cc)) e

-- an admitted frame is later than all that its stream had admitted before, and it verifies
pub record Later (key : List ℕ) (h : List Entry) (p : Packet) (block : SignatureBlock) : Type 0 where
  pub above : (k : ℕ) → Under k (low_of h) (last_of (stream_of p block) h) → 1 ≤ block.stamp → k < block.stamp
  pub verifies : Verifies key p (Some block)

pub admitted_later : (key : List ℕ) (h : List Entry) (p : Packet) (block : SignatureBlock) → block_answer key (λ stream stamp. stamp_answer stream stamp h) p (Some block) ≡ Admitted → Later key h p block
admitted_later key h p block e =
    by_test (λ (a : Admit). a ≡ Admitted → Later key h p block) (bytes_eq block.sig (signature_of key p block.link block.stamp)) (stamp_answer (stream_of p block) block.stamp h) BadSignature
    (λ t is. record {
      above = λ k u one.
          let above = above_low (low_of h) block.stamp _ is in
          after_later (low_of h) (last_of (stream_of p block) h) _ _ block.stamp k above.is u (above.above one);
      verifies = (bytes_eq-Decides block.sig (signature_of key p block.link block.stamp)).0 t;
    })
    (λ _ is. absurd (cc)) e

-- ---- a node that starts again with the low bound that it has stored, or without one

-- no number of some is above the greatest of more
among : (q : Stream) (xs : List Stamped) (a b : ℕ) → a ≤ b → fold max a (stamps_of q xs) ≤ fold max b (map (λ (s : Stamped). s.stamp) xs)
among q [] a b h = h
among q (x ∷ xs) a b h =
    by_test (λ (ys : List Stamped). fold max a (map (λ (s : Stamped). s.stamp) ys) ≤ fold max (max b x.stamp) (map (λ (s : Stamped). s.stamp) xs)) (same_stream q x.stream)
    (x ∷ filter (λ (s : Stamped). same_stream q s.stream) xs) (filter (λ (s : Stamped). same_stream q s.stream) xs)
    (λ _. among q xs (max a x.stamp) (max b x.stamp) (both a b x.stamp h)) (λ _. among q xs a (max b x.stamp) (more a b x.stamp h))
  where
    both : (a b c : ℕ) → a ≤ b → max a c ≤ max b c
    both a b c h = grind arith

    more : (a b c : ℕ) → a ≤ b → a ≤ max b c
    more a b c h = grind arith

starts_within : (h : List Entry) (a b : ℕ) → a ≤ b → fold max a (filter_map started_by h) ≤ fold max b (filter_map sent_by h)
starts_within [] a b le = le
starts_within (tried packet answer ∷ h) a b le = starts_within h a b le
starts_within (sent stamp ∷ h) a b le = starts_within h a (max b stamp) (more a b stamp le)
  where
    more : (a b c : ℕ) → a ≤ b → a ≤ max b c
    more a b c l = grind arith
starts_within (started low ∷ h) a b le = starts_within h (max a low) (max b low) (both a b low le)
  where
    both : (a b c : ℕ) → a ≤ b → max a c ≤ max b c
    both a b c l = grind arith

greatest_is : (xs : List ℕ) (most : ℕ) → greatest xs ≤ most → unwrap_or (greatest_of xs) 0 ≤ most
greatest_is [] most h = omega arith
greatest_is (x ∷ xs) most h = h

-- so what the world has of a stream is at most the greatest timestamp that the node admitted or sent
under_local : (h : List Entry) (q : Stream) (k : ℕ) → Under k (low_of h) (last_of q h) → k ≤ local_of h
under_local h q k u =
    by_last (last_of q h) u
    (greatest_is (stamps_of q (admitted_in h)) (accepted_in h) (among q (admitted_in h) 0 0 (omega arith)))
    (greatest_is (filter_map started_by h) (greatest (sent_in h)) (starts_within h 0 0 (omega arith)))
  where
    least : (k b a c : ℕ) → k ≤ b → b ≤ c → k ≤ max a c
    least k b a c h i = grind arith

    most : (k l b a c : ℕ) → k ≤ max l b → l ≤ a → b ≤ c → k ≤ max a c
    most k l b a c h i j = grind arith

    by_last : (o : Option ℕ) → Under k (low_of h) o → unwrap_or o 0 ≤ accepted_in h → unwrap_or (low_of h) 0 ≤ greatest (sent_in h) → k ≤ max (accepted_in h) (greatest (sent_in h))
    by_last None u a b = least k (unwrap_or (low_of h) 0) (accepted_in h) (greatest (sent_in h)) u b
    by_last (Some last) u a b = most k last (unwrap_or (low_of h) 0) (accepted_in h) (greatest (sent_in h)) u a b

pub restart_keeps : (clock : ℕ) (h : List Entry) (l : Stream → ℕ) (k : ℕ) (low : Option ℕ) → local_of h ≤ unwrap_or low 0 → previous_in h ≤ local_of h → KeepsTime clock h l k
    → KeepsTime clock (started_with low) (λ s. max (l s) (unwrap_or low 0)) (max k (unwrap_or low 0 + 1))
restart_keeps clock h l k None within previous t = record {
  last = λ s. none (l s) (local_of h) (under_local h s (l s) (t.last s)) within;
  next = next k clock (previous_in h) (accepted_in h) (greatest (sent_in h)) t.next previous within;
  some = some k;
}
  where
    none : (a b : ℕ) → a ≤ b → b ≤ 0 → max a 0 ≤ 0
    none a b h i = grind arith

    next : (k c p a s : ℕ) → k ≤ max (p + 1) (max c a) → p ≤ max a s → max a s ≤ 0 → max k (0 + 1) ≤ max (0 + 1) (max c 0)
    next k c p a s h i j = grind arith

    some : (k : ℕ) → 1 ≤ max k (0 + 1)
    some k = grind arith
restart_keeps clock h l k (Some low) within previous t = record {
  last = λ s. bound (l s) (local_of h) low (under_local h s (l s) (t.last s)) within;
  next = next k clock (previous_in h) (accepted_in h) (greatest (sent_in h)) low t.next previous within;
  some = some k low;
}
  where
    bound : (a b low : ℕ) → a ≤ b → b ≤ low → max a low ≤ max 0 low
    bound a b low h i = grind arith

    next : (k c p a s low : ℕ) → k ≤ max (p + 1) (max c a) → p ≤ max a s → max a s ≤ low → max k (low + 1) ≤ max (low + 1) (max c 0)
    next k c p a s low h i j = grind arith

    some : (k low : ℕ) → 1 ≤ max k (low + 1)
    some k low = grind arith
