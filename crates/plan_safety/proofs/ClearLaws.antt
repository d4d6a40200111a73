-- Laws of the abstract mission store: what a clear has emptied when it is reported as "cleared".
use Rattle.std.proofs.Common.{◌≡◌, ℕ, ◌<◌, ◌⊎◌, inl, inr, Bool, true, false, if◌then◌else◌, ◌==◌, ◌&&◌, ◌||◌, List, [], ◌∷◌, Option, Some, None, refl, sym, ap, subst, arith, ◌∙◌}
use Rattle.mav_names.specs.declared.names.Stream.{Stream}
use Rattle.plan_items.specs.declared.items.Item.{Item}
use Rattle.plan_upload.specs.Addresses.{same_stream}
use Rattle.plan_upload.specs.Plans.{every_kind}
use Rattle.plan_upload.specs.Station.{Told_installed, Told_not_installed, Told_unknown, Told_cleared, Told_got, Told_ended}
use Rattle.plan_safety.specs.Frames.{Frame}
use Rattle.plan_safety.specs.Store.{Store, StoreEvent, Upload_begun, Installed, Clear_begun, Cleared, Get_begun, Shown, Cancelled, Ended, Restarted, A_clear, A_get, Opening, opened, saw, sees, empties, is_among, is_emptied, MayClear, HasCleared, Needs, does}
use Rattle.plan_safety.specs.History.{Step, step, store_of, IsHistory, begins_clear, EmptiedSince, IsKindOf, ClearedBy}
use Rattle.plan_safety.proofs.Keys.{by_test, eq_true, eq_false, stream_eq, stream_ne, apart, both_true}

-- what is marked as emptied was, since the clear began
abbrev Marked : List Step → Stream → Option Opening → Type 0
Marked h s None = Unit {0}
Marked h s (Some c) = (k : ℕ) → is_among k c.emptied ≡ true → EmptiedSince h s c.drone k

abbrev AllMarked : List Step → Store → Type 0
AllMarked h m = (s : Stream) → Marked h s (m.opening s)

-- it stays so at an event that begins no clear of the station
later : (x : Step) (h : List Step) (s : Stream) (o : Option Opening) → begins_clear x.event s ≡ false → Marked h s o → Marked (x ∷ h) s o
later x h s None b i = tt
later x h s (Some c) b i = λ k a. inr (b, i k a)

-- a kind is emptied
emptied_here : (sent : List Frame) (e : Stream) (j : ℕ) (t : Stream) (h : List Step) (o : Option Opening) → Marked h t o → MayClear o e j → Marked (step sent (Cleared e j t) ∷ h) t (empties o j)
emptied_here sent e j t h None i v = tt
emptied_here sent e j t h (Some c) i v = λ k. by_first k (j == k) refl
  where
    by_first : (k : ℕ) (b : Bool) → (j == k) ≡ b → (b || is_among k c.emptied) ≡ true → EmptiedSince (step sent (Cleared e j t) ∷ h) t c.drone k
    by_first k true q a = inl (ap (λ d. Cleared d j t) (sym v.0) ∙ ap (λ n. Cleared c.drone n t) (eq_true j k q))
    by_first k false q a = inr (refl, i k a)

-- a plan is shown
shown_here : (sent : List Frame) (e : Stream) (j : ℕ) (l : List Item) (t : Stream) (h : List Step) (o : Option Opening) → Marked h t o → Marked (step sent (Shown e j l t) ∷ h) t (sees o e j l)
shown_here sent e j l t h None i = tt
shown_here sent e j l t h (Some c) i =
    by_test (Marked (step sent (Shown e j l t) ∷ h) t) (same_stream c.drone e && (c.kind == j)) (Some (record c { job = saw c.job l })) (Some c)
    (λ _. λ k a. inr (refl, i k a)) (λ _. λ k a. inr (refl, i k a))

-- each event
marked_step : (sent : List Frame) (event : StoreEvent) (h : List Step) → AllMarked h (store_of h) → Needs sent (store_of h) event → AllMarked (step sent event ∷ h) (does (store_of h) event)
marked_step sent (Clear_begun t e j b) h i v = λ s.
    let x = step sent (Clear_begun t e j b) in
    by_test (Marked (x ∷ h) s) (same_stream s t) (Some (opened e j A_clear b)) ((store_of h).opening s) (λ _. λ k a. absurd (cc)) (λ q. later x h s ((store_of h).opening s) (apart t s (λ z. stream_ne _ _ q (sym z))) (i s))
marked_step sent (Get_begun t e j b) h i v = λ s.
    let x = step sent (Get_begun t e j b) in
    by_test (Marked (x ∷ h) s) (same_stream s t) (Some (opened e j (A_get None) b)) ((store_of h).opening s) (λ _. λ k a. absurd (cc)) (λ q. later x h s ((store_of h).opening s) refl (i s))
marked_step sent (Cleared e j t) h i v = λ s.
    let x = step sent (Cleared e j t) in
    by_test (Marked (x ∷ h) s) (same_stream s t) (empties ((store_of h).opening t) j) ((store_of h).opening s)
    (λ q. subst (λ s. Marked (x ∷ h) s (empties ((store_of h).opening t) j)) (sym (stream_eq _ _ q)) (emptied_here sent e j t h ((store_of h).opening t) (i t) v))
    (λ q. later x h s ((store_of h).opening s) refl (i s))
marked_step sent (Shown e j l t) h i v = λ s.
    let x = step sent (Shown e j l t) in
    by_test (Marked (x ∷ h) s) (same_stream s t) (sees ((store_of h).opening t) e j l) ((store_of h).opening s)
    (λ q. subst (λ s. Marked (x ∷ h) s (sees ((store_of h).opening t) e j l)) (sym (stream_eq _ _ q)) (shown_here sent e j l t h ((store_of h).opening t) (i t)))
    (λ q. later x h s ((store_of h).opening s) refl (i s))
marked_step sent (Ended t Told_cleared) h i v = λ s.
    let x = step sent (Ended t Told_cleared) in
    by_test (Marked (x ∷ h) s) (same_stream s t) None ((store_of h).opening s) (λ _. tt) (λ _. later x h s ((store_of h).opening s) refl (i s))
marked_step sent (Ended t (Told_got l)) h i v = λ s.
    let x = step sent (Ended t (Told_got l)) in
    by_test (Marked (x ∷ h) s) (same_stream s t) None ((store_of h).opening s) (λ _. tt) (λ _. later x h s ((store_of h).opening s) refl (i s))
marked_step sent (Ended t (Told_ended code)) h i v = λ s.
    let x = step sent (Ended t (Told_ended code)) in
    by_test (Marked (x ∷ h) s) (same_stream s t) None ((store_of h).opening s) (λ _. tt) (λ _. later x h s ((store_of h).opening s) refl (i s))
marked_step sent (Upload_begun t e j l a b) h i v = λ s. later (step sent (Upload_begun t e j l a b)) h s ((store_of h).opening s) refl (i s)
marked_step sent (Installed e j l t) h i v = λ s. later (step sent (Installed e j l t)) h s ((store_of h).opening s) refl (i s)
marked_step sent (Cancelled t) h i v = λ s. later (step sent (Cancelled t)) h s ((store_of h).opening s) refl (i s)
marked_step sent (Restarted e) h i v = λ s. later (step sent (Restarted e)) h s ((store_of h).opening s) refl (i s)
marked_step sent (Ended t Told_installed) h i v = λ s. later (step sent (Ended t Told_installed)) h s ((store_of h).opening s) refl (i s)
marked_step sent (Ended t (Told_not_installed code)) h i v = λ s. later (step sent (Ended t (Told_not_installed code))) h s ((store_of h).opening s) refl (i s)
marked_step sent (Ended t Told_unknown) h i v = λ s. later (step sent (Ended t Told_unknown)) h s ((store_of h).opening s) refl (i s)

-- each history
marked_all : (h : List Step) → IsHistory h → AllMarked h (store_of h)
marked_all [] v = λ s. tt
marked_all (x ∷ h) v = marked_step x.sent x.event h (marked_all h v.1) v.0

-- each kind of a clear that has emptied its kinds is marked
among : (all : ℕ) (emptied : List ℕ) (kind : ℕ) → is_emptied all emptied ≡ true → IsKindOf all kind → is_among kind emptied ≡ true
among all emptied kind = by_kind (all == every_kind) refl
  where
    one_of : (n : ℕ) → n < 3 → (n ≡ 0) ⊎ ((n ≡ 1) ⊎ (n ≡ 2))
    one_of n l = grind arith

    is_at : (n : ℕ) → kind ≡ n → is_among n emptied ≡ true → is_among kind emptied ≡ true
    is_at n e h = subst (λ k. is_among k emptied ≡ true) (sym e) h

    each : (is_among 0 emptied && (is_among 1 emptied && is_among 2 emptied)) ≡ true → kind < 3 → is_among kind emptied ≡ true
    each h l =
        let a = both_true _ _ h in
        let b = both_true _ _ a.1 in
        elim (one_of kind l) [
          | inl e ↦ is_at 0 e a.0
          | inr c ↦ elim c [ inl e ↦ is_at 1 e b.0 | inr e ↦ is_at 2 e b.1 ]
        ]

    by_kind : (b : Bool) → (all == every_kind) ≡ b → (if b then is_among 0 emptied && (is_among 1 emptied && is_among 2 emptied) else is_among all emptied) ≡ true → IsKindOf all kind → is_among kind emptied ≡ true
    by_kind true q h (inl x) = absurd (x.0 (eq_true all every_kind q))
    by_kind true q h (inr x) = each h x.1
    by_kind false q h (inl x) = is_at all x.1 h
    by_kind false q h (inr x) = absurd (eq_false all every_kind q x.0)

-- a clear that was reported as "cleared"
pub cleared_law : (h : List Step) (sent : List Frame) (s : Stream) → IsHistory (step sent (Ended s Told_cleared) ∷ h) → ClearedBy h s
cleared_law h sent s v = one ((store_of h).opening s) refl (marked_all h v.1 s) v.0
  where
    one : (c : Option Opening) → (store_of h).opening s ≡ c → Marked h s c → HasCleared c → ClearedBy h s
    one None is held g = absurd g
    one (Some c) is held g = (c, is, g.0, λ kind k. held kind (among c.kind c.emptied kind g.1 k))
