-- Laws of the abstract mission store: what its uploads are, and how often one is installed.
use Rattle.std.proofs.Common.{◌≡◌, ◌≢◌, ℕ, ◌+◌, ◌<◌, ◌≤◌, inl, inr, Bool, true, false, ◌==◌, ◌&&◌, List, [], ◌∷◌, refl, sym, subst, arith, ◌∙◌}
use Rattle.mav_names.specs.declared.names.Stream.{Stream}
use Rattle.plan_items.specs.declared.items.Item.{Item}
use Rattle.plan_upload.specs.Addresses.{same_stream}
use Rattle.plan_upload.specs.Station.{Told_installed, Told_not_installed, Told_unknown, Told_cleared, Told_got, Told_ended}
use Rattle.plan_safety.specs.Frames.{Frame}
use Rattle.plan_safety.specs.Store.{Store, StoreEvent, Upload_begun, Installed, Clear_begun, Cleared, Get_begun, Shown, Cancelled, Ended, Restarted, Transaction, Stage, Fresh, In_place, Closed, at, begun, staged, unless_placed, given_up, with_plan, Needs, does}
use Rattle.plan_safety.specs.History.{Step, step, store_of, IsHistory, begins_upload, installs, refuses, uploads, tally, Uploaded, IsHeld, Installation}
use Rattle.plan_safety.proofs.Keys.{by_test, eq_true, number_same, stream_eq, stream_ne, same, apart, split, both_true}

-- counts
tally_more : (is : StoreEvent → Stream → Bool) (x : Step) (h : List Step) (s : Stream) (n : ℕ) → tally is h s n ≤ tally is (x ∷ h) s n
tally_more is x h s n = by_test (λ (k : ℕ). tally is h s n ≤ k) (is x.event s && (uploads h s == n)) _ _ (λ _. omega arith) (λ _. omega arith)

-- an event of another kind, or of another station, counts nothing
tally_same : (is : StoreEvent → Stream → Bool) (x : Step) (h : List Step) (s : Stream) (n : ℕ) → is x.event s ≡ false → tally is (x ∷ h) s n ≡ tally is h s n
tally_same is x h s n e = rw e refl

-- nor does one during another upload
tally_else : (is : StoreEvent → Stream → Bool) (x : Step) (h : List Step) (s : Stream) (n : ℕ) → uploads h s ≢ n → tally is (x ∷ h) s n ≡ tally is h s n
tally_else is x h s n far = by_test (λ (k : ℕ). k ≡ tally is h s n) (is x.event s && (uploads h s == n)) _ _ (λ e. absurd (far (eq_true _ _ (both_true _ _ e).1))) (λ _. refl)

-- one of this kind counts one
tally_one : (is : StoreEvent → Stream → Bool) (x : Step) (h : List Step) (s : Stream) → is x.event s ≡ true → tally is (x ∷ h) s (uploads h s) ≡ tally is h s (uploads h s) + 1
tally_one is x h s e = rw (e, number_same (uploads h s)) refl

-- an event that begins no upload
uploads_same : (x : Step) (h : List Step) (s : Stream) → begins_upload x.event s ≡ false → uploads (x ∷ h) s ≡ uploads h s
uploads_same x h s e = rw e refl

-- what holds of the uploads of a history
record Sound (h : List Step) (m : Store) : Type 0 where
  plans : (d : Stream) (k : ℕ) → IsHeld h d k (m.plan d k)
  latest : (s : Stream) → (m.transaction s).stage ≡ Fresh → Uploaded h s (uploads h s) (m.transaction s).drone (m.transaction s).kind (m.transaction s).plan
  uninstalled : (s : Stream) → (m.transaction s).stage ≡ Fresh → tally installs h s (uploads h s) ≡ 0
  unrefused : (s : Stream) → (m.transaction s).stage ≡ Fresh → tally refuses h s (uploads h s) ≡ 0
  placed : (s : Stream) → (m.transaction s).stage ≡ In_place → 0 < tally installs h s (uploads h s)
  once : (s : Stream) (n : ℕ) → tally installs h s n ≤ 1
  never : (s : Stream) (n : ℕ) → 0 < tally refuses h s n → tally installs h s n ≡ 0
  future : (s : Stream) (n : ℕ) → uploads h s < n → (tally installs h s n ≡ 0) × (tally refuses h s n ≡ 0)

-- what is held stays held
still_held : (x : Step) (h : List Step) (d : Stream) (k : ℕ) (p : List Item) → IsHeld h d k p → IsHeld (x ∷ h) d k p
still_held x h d k p (inl e) = inl e
still_held x h d k p (inr o) = inr (o.0, o.1, inr o.2, (let a = o.3 in let b = tally_more installs x h o.0 o.1 in omega arith))

-- one plan replaced
put : (P : Stream → ℕ → List Item → Type 0) (f : Stream → ℕ → List Item) (n : Stream) (k : ℕ) (p : List Item) → ((d : Stream) (j : ℕ) → P d j (f d j)) → P n k p → (d : Stream) (j : ℕ) → P d j (at f n (with_plan (f n) k p) d j)
put P f n k p h new d j =
    by_test (λ (x : ℕ → List Item). P d j (x j)) (same_stream d n) (with_plan (f n) k p) (f d)
    (λ e. let dn : n ≡ d = sym (stream_eq _ _ e) in
    by_test (P d j) (j == k) p (f n j)
    (λ e2. let jk : k ≡ j = sym (eq_true _ _ e2) in subst (λ i. P d i p) jk (subst (λ i. P i k p) dn new))
    (λ _. subst (λ i. P i j (f n j)) dn (h n j)))
    (λ _. h d j)

-- a transaction that is not fresh is not new
not_new : (f : Stream → Transaction) (n : Stream) (o : Transaction) → (o.stage ≡ Fresh → ⊥) → (s : Stream) → (at f n o s).stage ≡ Fresh → at f n o s ≡ f s
not_new f n o h s = by_test (λ (x : Transaction). x.stage ≡ Fresh → x ≡ f s) (same_stream s n) o (f s) (λ _ e. absurd (h e)) (λ _ _. refl)

not_new_here : (f : Stream → Transaction) (n : Stream) (o : Transaction) → (o.stage ≡ Fresh → ⊥) → (s : Stream) → (at f n o s).stage ≡ Fresh → s ≢ n
not_new_here f n o h s = by_test (λ (x : Transaction). x.stage ≡ Fresh → s ≢ n) (same_stream s n) o (f s) (λ _ e. absurd (h e)) (λ e _. stream_ne _ _ e)

-- given up is not fresh, and installed only if it was
given_not_fresh : (s : Stage) → unless_placed s ≡ Fresh → ⊥
given_not_fresh Fresh e = absurd (cc)
given_not_fresh In_place e = absurd (cc)
given_not_fresh Closed e = absurd (cc)

still_placed : (s : Stage) → unless_placed s ≡ In_place → s ≡ In_place
still_placed Fresh e = absurd (cc)
still_placed In_place e = refl
still_placed Closed e = absurd (cc)

-- an event that begins, installs and refuses no upload, and changes neither plans nor transactions
quiet : (x : Step) (h : List Step) (m m' : Store) → ((s : Stream) → begins_upload x.event s ≡ false) → ((s : Stream) → installs x.event s ≡ false) → ((s : Stream) → refuses x.event s ≡ false) → ((d : Stream) (k : ℕ) → IsHeld (x ∷ h) d k (m'.plan d k)) → ((s : Stream) → ((m'.transaction s).stage ≡ (m.transaction s).stage) × ((m'.transaction s).drone ≡ (m.transaction s).drone) × ((m'.transaction s).kind ≡ (m.transaction s).kind) × ((m'.transaction s).plan ≡ (m.transaction s).plan)) → Sound h m → Sound (x ∷ h) m'
quiet x h m m' b i r plans old p = record {
  plans = plans;
  latest = λ s f. let o = old s in rw (b s) (inr (rw (o.1, o.2, o.3) (p.latest s (sym o.0 ∙ f))));
  uninstalled = λ s f. rw (b s) (tally_same installs x h s (uploads h s) (i s) ∙ p.uninstalled s (sym (old s).0 ∙ f));
  unrefused = λ s f. rw (b s) (tally_same refuses x h s (uploads h s) (r s) ∙ p.unrefused s (sym (old s).0 ∙ f));
  placed = λ s f. rw (b s) (subst (λ (k : ℕ). 0 < k) (sym (tally_same installs x h s (uploads h s) (i s))) (p.placed s (sym (old s).0 ∙ f)));
  once = λ s n. rw (tally_same installs x h s n (i s)) (p.once s n);
  never = λ s n l. rw (tally_same installs x h s n (i s)) (p.never s n (subst (λ (k : ℕ). 0 < k) (tally_same refuses x h s n (r s)) l));
  future = λ s n l. let f = p.future s n (subst (λ (k : ℕ). k < n) (uploads_same x h s (b s)) l) in (tally_same installs x h s n (i s) ∙ f.0, tally_same refuses x h s n (r s) ∙ f.1);
}

-- a transaction that is no more fresh, with nothing begun: what the others were they are
module _ (x : Step) (h : List Step) (m : Store) (t : Stream) (o : Transaction) (old : o.stage ≡ Fresh → ⊥) (p : Sound h m) (b : (s : Stream) → begins_upload x.event s ≡ false) where
  others_latest : (s : Stream) → (at m.transaction t o s).stage ≡ Fresh → Uploaded (x ∷ h) s (uploads (x ∷ h) s) (at m.transaction t o s).drone (at m.transaction t o s).kind (at m.transaction t o s).plan
  others_latest s f =
      let e = not_new m.transaction t o old s f in
      rw (b s) (inr (subst (λ (y : Transaction). Uploaded h s (uploads h s) y.drone y.kind y.plan) (sym e) (p.latest s (subst (λ (y : Transaction). y.stage ≡ Fresh) e f))))

  others_fresh : (s : Stream) → (at m.transaction t o s).stage ≡ Fresh → (s ≢ t) × ((m.transaction s).stage ≡ Fresh)
  others_fresh s f = (not_new_here m.transaction t o old s f, subst (λ (y : Transaction). y.stage ≡ Fresh) (not_new m.transaction t o old s f) f)

-- an installation
installed_step : (sent : List Frame) (d : Stream) (k : ℕ) (l : List Item) (t : Stream) (h : List Step) (m : Store) → Sound h m → Needs sent m (Installed d k l t) → Sound (step sent (Installed d k l t) ∷ h) (does m (Installed d k l t))
installed_step sent d k l t h m p n =
    let x = step sent (Installed d k l t) in
    let o : Transaction = staged (m.transaction t) In_place in
    let latest = p.latest t n.fresh in
    let none = p.uninstalled t n.fresh in
    let held : Uploaded h t (uploads h t) d k l = subst (λ y. Uploaded h t (uploads h t) d k y) n.plan_is (subst (λ y. Uploaded h t (uploads h t) d y (m.transaction t).plan) n.kind_is (subst (λ y. Uploaded h t (uploads h t) y (m.transaction t).kind (m.transaction t).plan) n.drone_is latest)) in
    record {
      plans = put (IsHeld (x ∷ h)) m.plan d k l (λ e j. still_held x h e j _ (p.plans e j)) (inr (t, uploads h t, inr held, (let a = tally_one installs x h t (same t) in omega arith)));
      latest = others_latest x h m t o (λ e. absurd (cc)) p (λ s. refl);
      uninstalled = λ s f. let z = others_fresh x h m t o (λ e. absurd (cc)) p (λ s. refl) s f in tally_same installs x h s (uploads h s) (apart t s (λ y. z.0 (sym y))) ∙ p.uninstalled s z.1;
      unrefused = λ s f. let z = others_fresh x h m t o (λ e. absurd (cc)) p (λ s. refl) s f in p.unrefused s z.1;
      placed = λ s. by_test (λ (y : Transaction). y.stage ≡ In_place → 0 < tally installs (x ∷ h) s (uploads h s)) (same_stream s t) o (m.transaction s)
          (λ e _. let is : t ≡ s = sym (stream_eq _ _ e) in subst (λ s. 0 < tally installs (x ∷ h) s (uploads h s)) is (let a = tally_one installs x h t (same t) in omega arith))
          (λ e f. let a = tally_more installs x h s (uploads h s) in let b = p.placed s f in omega arith);
      once = λ s i. elim (split t s) [
        | inr far ↦ subst (λ (y : ℕ). y ≤ 1) (sym (tally_same installs x h s i (apart t s (λ y. far (sym y))))) (p.once s i)
        | inl is ↦ subst (λ s. tally installs (x ∷ h) s i ≤ 1) (sym is) (by_number i)
      ];
      never = λ s i r. elim (split t s) [
        | inr far ↦ tally_same installs x h s i (apart t s (λ y. far (sym y))) ∙ p.never s i r
        | inl is ↦ subst (λ s. 0 < tally refuses h s i → tally installs (x ∷ h) s i ≡ 0) (sym is) (λ r. not_now i r) r
      ];
      future = λ s i l. let f = p.future s i l in (tally_else installs x h s i (λ e. absurd (omega arith)) ∙ f.0, f.1);
    }
  where
    by_number : (i : ℕ) → tally installs (step sent (Installed d k l t) ∷ h) t i ≤ 1
    by_number i =
        by_test (λ (y : ℕ). y ≤ 1) (same_stream t t && (uploads h t == i)) (tally installs h t i + 1) (tally installs h t i)
        (λ e. let z = p.uninstalled t n.fresh in let y : uploads h t ≡ i = eq_true (uploads h t) i (both_true (same_stream t t) (uploads h t == i) e).1 in let w : tally installs h t i ≡ 0 = subst (λ i. tally installs h t i ≡ 0) y z in omega arith)
        (λ _. p.once t i)

    not_now : (i : ℕ) → 0 < tally refuses h t i → tally installs (step sent (Installed d k l t) ∷ h) t i ≡ 0
    not_now i r =
        let far : uploads h t ≢ i = λ e. absurd (let z : tally refuses h t i ≡ 0 = subst (λ i. tally refuses h t i ≡ 0) e (p.unrefused t n.fresh) in omega arith) in
        tally_else installs (step sent (Installed d k l t)) h t i far ∙ p.never t i r

-- the outcome "not installed"
refused_step : (sent : List Frame) (t : Stream) (code : ℕ) (h : List Step) (m : Store) → Sound h m → Needs sent m (Ended t (Told_not_installed code)) → Sound (step sent (Ended t (Told_not_installed code)) ∷ h) (does m (Ended t (Told_not_installed code)))
refused_step sent t code h m p n =
    let x = step sent (Ended t (Told_not_installed code)) in
    let o : Transaction = staged (m.transaction t) Closed in
    record {
      plans = λ d k. still_held x h d k _ (p.plans d k);
      latest = others_latest x h m t o (λ e. absurd (cc)) p (λ s. refl);
      uninstalled = λ s f. let z = others_fresh x h m t o (λ e. absurd (cc)) p (λ s. refl) s f in p.uninstalled s z.1;
      unrefused = λ s f. let z = others_fresh x h m t o (λ e. absurd (cc)) p (λ s. refl) s f in tally_same refuses x h s (uploads h s) (apart t s (λ y. z.0 (sym y))) ∙ p.unrefused s z.1;
      placed = λ s. by_test (λ (y : Transaction). y.stage ≡ In_place → 0 < tally installs h s (uploads h s)) (same_stream s t) o (m.transaction s) (λ _ f. absurd (cc)) (λ _ f. p.placed s f);
      once = λ s i. p.once s i;
      never = λ s i r. by_number s i r;
      future = λ s i l. let f = p.future s i l in (f.0, tally_else refuses x h s i (λ e. absurd (omega arith)) ∙ f.1);
    }
  where
    by_number : (s : Stream) (i : ℕ) → 0 < tally refuses (step sent (Ended t (Told_not_installed code)) ∷ h) s i → tally installs h s i ≡ 0
    by_number s i =
        by_test (λ (y : ℕ). 0 < y → tally installs h s i ≡ 0) (same_stream t s && (uploads h s == i)) (tally refuses h s i + 1) (tally refuses h s i)
        (λ e _. let b = both_true (same_stream t s) (uploads h s == i) e in
        let is : t ≡ s = stream_eq t s b.0 in
        let at : uploads h s ≡ i = eq_true (uploads h s) i b.1 in
        subst (λ i. tally installs h s i ≡ 0) at (subst (λ s. tally installs h s (uploads h s) ≡ 0) is (p.uninstalled t n.0)))
        (λ _ r. p.never s i r)

-- an upload begins
begun_step : (sent : List Frame) (t d : Stream) (k : ℕ) (l : List Item) (a b : ℕ) (h : List Step) (m : Store) → Sound h m → Sound (step sent (Upload_begun t d k l a b) ∷ h) (does m (Upload_begun t d k l a b))
begun_step sent t d k l a b h m p =
    let x = step sent (Upload_begun t d k l a b) in
    let o : Transaction = begun d k l a b in
    record {
      plans = λ d k. still_held x h d k _ (p.plans d k);
      latest = λ s. by_test (λ (y : Transaction). y.stage ≡ Fresh → Uploaded (x ∷ h) s (uploads (x ∷ h) s) y.drone y.kind y.plan) (same_stream s t) o (m.transaction s)
          (λ e _. let is : t ≡ s = sym (stream_eq _ _ e) in subst (λ s. Uploaded (x ∷ h) s (uploads (x ∷ h) s) d k l) is (inl ((a, b, refl), sym (upped t refl))))
          (λ e f. rw (apart t s (λ z. stream_ne _ _ e (sym z))) (inr (p.latest s f)));
      uninstalled = λ s. by_test (λ (y : Transaction). y.stage ≡ Fresh → tally installs h s (uploads (x ∷ h) s) ≡ 0) (same_stream s t) o (m.transaction s)
          (λ e _. (p.future s (uploads (x ∷ h) s) (let z = upped s (sym (stream_eq _ _ e)) in omega arith)).0)
          (λ e f. rw (apart t s (λ z. stream_ne _ _ e (sym z))) (p.uninstalled s f));
      unrefused = λ s. by_test (λ (y : Transaction). y.stage ≡ Fresh → tally refuses h s (uploads (x ∷ h) s) ≡ 0) (same_stream s t) o (m.transaction s)
          (λ e _. (p.future s (uploads (x ∷ h) s) (let z = upped s (sym (stream_eq _ _ e)) in omega arith)).1)
          (λ e f. rw (apart t s (λ z. stream_ne _ _ e (sym z))) (p.unrefused s f));
      placed = λ s. by_test (λ (y : Transaction). y.stage ≡ In_place → 0 < tally installs h s (uploads (x ∷ h) s)) (same_stream s t) o (m.transaction s)
          (λ _ f. absurd (cc))
          (λ e f. rw (apart t s (λ z. stream_ne _ _ e (sym z))) (p.placed s f));
      once = p.once;
      never = p.never;
      future = λ s i l. p.future s i (let z = more s in omega arith);
    }
  where
    upped : (s : Stream) → t ≡ s → uploads (step sent (Upload_begun t d k l a b) ∷ h) s ≡ uploads h s + 1
    upped s e = subst (λ s. uploads (step sent (Upload_begun t d k l a b) ∷ h) s ≡ uploads h s + 1) e (rw (same t) refl)

    more : (s : Stream) → uploads h s ≤ uploads (step sent (Upload_begun t d k l a b) ∷ h) s
    more s = by_test (λ (y : ℕ). uploads h s ≤ y) (same_stream t s) (uploads h s + 1) (uploads h s) (λ _. omega arith) (λ _. omega arith)

-- each event
sound_step : (sent : List Frame) (event : StoreEvent) (h : List Step) (m : Store) → Sound h m → Needs sent m event → Sound (step sent event ∷ h) (does m event)
sound_step sent (Upload_begun t d k l a b) h m p n = begun_step sent t d k l a b h m p
sound_step sent (Installed d k l t) h m p n = installed_step sent d k l t h m p n
sound_step sent (Cleared d k t) h m p n =
    let x = step sent (Cleared d k t) in
    quiet x h m (does m (Cleared d k t)) (λ s. refl) (λ s. refl) (λ s. refl) (put (IsHeld (x ∷ h)) m.plan d k [] (λ e j. still_held x h e j _ (p.plans e j)) (inl refl)) (λ s. (refl, refl, refl, refl)) p
sound_step sent (Ended t (Told_not_installed code)) h m p n = refused_step sent t code h m p n
sound_step sent (Ended t Told_unknown) h m p n =
    let x = step sent (Ended t Told_unknown) in
    let o : Transaction = given_up (m.transaction t) in
    record {
      plans = λ d k. still_held x h d k _ (p.plans d k);
      latest = others_latest x h m t o (given_not_fresh (m.transaction t).stage) p (λ s. refl);
      uninstalled = λ s f. p.uninstalled s (others_fresh x h m t o (given_not_fresh (m.transaction t).stage) p (λ s. refl) s f).1;
      unrefused = λ s f. p.unrefused s (others_fresh x h m t o (given_not_fresh (m.transaction t).stage) p (λ s. refl) s f).1;
      placed = λ s. by_test (λ (y : Transaction). y.stage ≡ In_place → 0 < tally installs h s (uploads h s)) (same_stream s t) o (m.transaction s)
          (λ e f. let is : t ≡ s = sym (stream_eq _ _ e) in subst (λ s. 0 < tally installs h s (uploads h s)) is (p.placed t (still_placed (m.transaction t).stage f)))
          (λ _ f. p.placed s f);
      once = p.once;
      never = p.never;
      future = p.future;
    }
sound_step sent (Restarted d) h m p n =
    let x = step sent (Restarted d) in
    quiet x h m (does m (Restarted d)) (λ s. refl) (λ s. refl) (λ s. refl) (λ e k. still_held x h e k _ (p.plans e k))
    (λ s. by_test (λ (y : Transaction). (y.stage ≡ (m.transaction s).stage) × (y.drone ≡ (m.transaction s).drone) × (y.kind ≡ (m.transaction s).kind) × (y.plan ≡ (m.transaction s).plan)) (same_stream (m.transaction s).drone d) (record (m.transaction s) { lost = true }) (m.transaction s) (λ _. (refl, refl, refl, refl)) (λ _. (refl, refl, refl, refl))) p
sound_step sent (Clear_begun t d k b) h m p n = quiet (step sent (Clear_begun t d k b)) h m (does m (Clear_begun t d k b)) (λ s. refl) (λ s. refl) (λ s. refl) (λ i j. still_held (step sent (Clear_begun t d k b)) h i j _ (p.plans i j)) (λ s. (refl, refl, refl, refl)) p
sound_step sent (Get_begun t d k b) h m p n = quiet (step sent (Get_begun t d k b)) h m (does m (Get_begun t d k b)) (λ s. refl) (λ s. refl) (λ s. refl) (λ i j. still_held (step sent (Get_begun t d k b)) h i j _ (p.plans i j)) (λ s. (refl, refl, refl, refl)) p
sound_step sent (Shown d k l t) h m p n = quiet (step sent (Shown d k l t)) h m (does m (Shown d k l t)) (λ s. refl) (λ s. refl) (λ s. refl) (λ i j. still_held (step sent (Shown d k l t)) h i j _ (p.plans i j)) (λ s. (refl, refl, refl, refl)) p
sound_step sent (Cancelled t) h m p n = quiet (step sent (Cancelled t)) h m (does m (Cancelled t)) (λ s. refl) (λ s. refl) (λ s. refl) (λ i j. still_held (step sent (Cancelled t)) h i j _ (p.plans i j)) (λ s. (refl, refl, refl, refl)) p
sound_step sent (Ended t Told_installed) h m p n = quiet (step sent (Ended t Told_installed)) h m (does m (Ended t Told_installed)) (λ s. refl) (λ s. refl) (λ s. refl) (λ i j. still_held (step sent (Ended t Told_installed)) h i j _ (p.plans i j)) (λ s. (refl, refl, refl, refl)) p
sound_step sent (Ended t Told_cleared) h m p n = quiet (step sent (Ended t Told_cleared)) h m (does m (Ended t Told_cleared)) (λ s. refl) (λ s. refl) (λ s. refl) (λ i j. still_held (step sent (Ended t Told_cleared)) h i j _ (p.plans i j)) (λ s. (refl, refl, refl, refl)) p
sound_step sent (Ended t (Told_got l)) h m p n = quiet (step sent (Ended t (Told_got l))) h m (does m (Ended t (Told_got l))) (λ s. refl) (λ s. refl) (λ s. refl) (λ i j. still_held (step sent (Ended t (Told_got l))) h i j _ (p.plans i j)) (λ s. (refl, refl, refl, refl)) p
sound_step sent (Ended t (Told_ended code)) h m p n = quiet (step sent (Ended t (Told_ended code))) h m (does m (Ended t (Told_ended code))) (λ s. refl) (λ s. refl) (λ s. refl) (λ i j. still_held (step sent (Ended t (Told_ended code))) h i j _ (p.plans i j)) (λ s. (refl, refl, refl, refl)) p

-- each history
sound : (h : List Step) → IsHistory h → Sound h (store_of h)
sound [] v = record { plans = λ d k. inl refl; latest = λ s f. absurd (cc); uninstalled = λ s f. absurd (cc); unrefused = λ s f. absurd (cc); placed = λ s f. absurd (cc); once = λ s n. omega arith; never = λ s n l. refl; future = λ s n l. (refl, refl) }
sound (x ∷ h) v = sound_step x.sent x.event h (store_of h) (sound h v.1) v.0

-- each plan is empty, or the plan of one upload that was installed
pub plans_law : (h : List Step) → IsHistory h → (d : Stream) (k : ℕ) → IsHeld h d k ((store_of h).plan d k)
plans_law h v = (sound h v).plans

-- each upload is installed at most once
pub once_law : (h : List Step) → IsHistory h → (s : Stream) (n : ℕ) → tally installs h s n ≤ 1
once_law h v = (sound h v).once

-- one reported as "not installed" isn't installed, before or after
pub never_law : (h : List Step) → IsHistory h → (s : Stream) (n : ℕ) → 0 < tally refuses h s n → tally installs h s n ≡ 0
never_law h v = (sound h v).never

-- one reported as "installed" is
pub installed_law : (h : List Step) (sent : List Frame) (s : Stream) → IsHistory (step sent (Ended s Told_installed) ∷ h) → tally installs h s (uploads h s) ≡ 1
installed_law h sent s v = let p = sound h v.1 in let a = p.placed s v.0 in let b = p.once s (uploads h s) in omega arith

-- what an installation is of
pub installation_law : (h : List Step) (sent : List Frame) (d : Stream) (k : ℕ) (l : List Item) (s : Stream) → IsHistory (step sent (Installed d k l s) ∷ h) → Installation h sent s d k l
installation_law h sent d k l s v =
    let p = sound h v.1 in
    let n = v.0 in
    record {
      latest = subst (λ y. Uploaded h s (uploads h s) d k y) n.plan_is (subst (λ y. Uploaded h s (uploads h s) d y ((store_of h).transaction s).plan) n.kind_is (subst (λ y. Uploaded h s (uploads h s) y ((store_of h).transaction s).kind ((store_of h).transaction s).plan) n.drone_is (p.latest s n.fresh)));
      fully_sent = n.fully_sent;
      not_before = p.uninstalled s n.fresh;
      not_refused = p.unrefused s n.fresh;
    }
