-- Laws of the abstract mission store: why an operation ended as reported.
use Rattle.std.proofs.Common.{◌≡◌, ◌≢◌, ℕ, ◌⊎◌, inl, inr, true, false, ◌==◌, ◌&&◌, List, [], ◌∷◌, Option, Some, None, refl, sym, ap, subst, ◌∙◌}
use Rattle.mav_names.specs.declared.names.Stream.{Stream}
use Rattle.plan_items.specs.declared.items.Item.{Item}
use Rattle.plan_upload.specs.Addresses.{same_stream}
use Rattle.plan_upload.specs.Station.{Told_installed, Told_not_installed, Told_unknown, Told_cleared, Told_got, Told_ended}
use Rattle.plan_safety.specs.Frames.{Frame}
use Rattle.plan_safety.specs.Store.{Store, StoreEvent, Upload_begun, Installed, Clear_begun, Cleared, Get_begun, Shown, Cancelled, Ended, Restarted, Job, A_clear, A_get, Transaction, Opening, In_place, Closed, at, begun, staged, given_up, saw, sees, empties, MayClear, Needs, HasGot, Acked, EndCause, TooMany, does}
use Rattle.plan_safety.specs.History.{Step, step, store_of, IsHistory, begins_upload, begins_get, begins, RestartedSince, CancelledSince, HeldSince, GotHeld, EndedBy, NotInstalledBy, UnknownBy}
use Rattle.plan_safety.proofs.Keys.{by_test, eq_true, stream_eq, stream_ne, apart, both_true}

-- a lost transaction's drone has started again since it began
abbrev Lost : List Step → Store → Type 0
Lost h m = (s : Stream) → (m.transaction s).lost ≡ true → RestartedSince h s (m.transaction s).drone

-- the latest transaction is another, that is lost only if the old one was
lost_at : (x : Step) (h : List Step) (m : Store) (t : Stream) (o : Transaction) → Lost h m → (o.lost ≡ true → (m.transaction t).lost ≡ true) → o.drone ≡ (m.transaction t).drone → ((s : Stream) → begins_upload x.event s ≡ false) → (s : Stream) → (at m.transaction t o s).lost ≡ true → RestartedSince (x ∷ h) s (at m.transaction t o s).drone
lost_at x h m t o p l d b s =
    by_test (λ (y : Transaction). y.lost ≡ true → RestartedSince (x ∷ h) s y.drone) (same_stream s t) o (m.transaction s)
    (λ e f. let is : t ≡ s = sym (stream_eq _ _ e) in inr (b s, subst (λ y. RestartedSince h s y) (sym d) (subst (λ s. RestartedSince h s (m.transaction t).drone) is (p t (l f)))))
    (λ _ f. inr (b s, p s f))

-- each event
lost_step : (sent : List Frame) (event : StoreEvent) (h : List Step) (m : Store) → Lost h m → Lost (step sent event ∷ h) (does m event)
lost_step sent (Upload_begun t d k l a b) h m p = λ s.
    by_test (λ (y : Transaction). y.lost ≡ true → RestartedSince (step sent (Upload_begun t d k l a b) ∷ h) s y.drone) (same_stream s t) (begun d k l a b) (m.transaction s)
    (λ _ f. absurd (cc))
    (λ e f. inr (apart t s (λ z. stream_ne _ _ e (sym z)), p s f))
lost_step sent (Installed d k l t) h m p = lost_at (step sent (Installed d k l t)) h m t (staged (m.transaction t) In_place) p (λ f. f) refl (λ s. refl)
lost_step sent (Ended t (Told_not_installed code)) h m p = lost_at (step sent (Ended t (Told_not_installed code))) h m t (staged (m.transaction t) Closed) p (λ f. f) refl (λ s. refl)
lost_step sent (Ended t Told_unknown) h m p = lost_at (step sent (Ended t Told_unknown)) h m t (given_up (m.transaction t)) p (λ f. f) refl (λ s. refl)
lost_step sent (Restarted d) h m p = λ s.
    by_test (λ (y : Transaction). y.lost ≡ true → RestartedSince (step sent (Restarted d) ∷ h) s y.drone) (same_stream (m.transaction s).drone d) (record (m.transaction s) { lost = true }) (m.transaction s)
    (λ e _. inl (ap Restarted (sym (stream_eq _ _ e))))
    (λ _ f. inr (refl, p s f))
lost_step sent (Clear_begun t d k b) h m p = λ s f. inr (refl, p s f)
lost_step sent (Cleared d k t) h m p = λ s f. inr (refl, p s f)
lost_step sent (Get_begun t d k b) h m p = λ s f. inr (refl, p s f)
lost_step sent (Shown d k l t) h m p = λ s f. inr (refl, p s f)
lost_step sent (Cancelled t) h m p = λ s f. inr (refl, p s f)
lost_step sent (Ended t Told_installed) h m p = λ s f. inr (refl, p s f)
lost_step sent (Ended t Told_cleared) h m p = λ s f. inr (refl, p s f)
lost_step sent (Ended t (Told_got l)) h m p = λ s f. inr (refl, p s f)
lost_step sent (Ended t (Told_ended code)) h m p = λ s f. inr (refl, p s f)

-- if the latest upload is lost, its drone has started again since it began
pub lost_law : (h : List Step) → (s : Stream) → ((store_of h).transaction s).lost ≡ true → RestartedSince h s ((store_of h).transaction s).drone
lost_law [] = λ s f. absurd (cc)
lost_law (x ∷ h) = lost_step x.sent x.event h (store_of h) (lost_law h)

-- a cancelled operation
abbrev Stopped : List Step → Store → Type 0
Stopped h m = (s : Stream) → m.cancelled s ≡ true → CancelledSince h s

-- an operation that begins is not cancelled
fresh_start : (x : Step) (h : List Step) (m : Store) (t : Stream) → Stopped h m → ((s : Stream) → s ≢ t → begins x.event s ≡ false) → (s : Stream) → at m.cancelled t false s ≡ true → CancelledSince (x ∷ h) s
fresh_start x h m t p b s =
    by_test (λ y. y ≡ true → CancelledSince (x ∷ h) s) (same_stream s t) false (m.cancelled s) (λ _ f. absurd (cc)) (λ e f. inr (b s (stream_ne _ _ e), p s f))

-- each event
stopped_step : (sent : List Frame) (event : StoreEvent) (h : List Step) (m : Store) → Stopped h m → Stopped (step sent event ∷ h) (does m event)
stopped_step sent (Upload_begun t d k l a b) h m p = fresh_start (step sent (Upload_begun t d k l a b)) h m t p (λ s far. apart t s (λ z. far (sym z)))
stopped_step sent (Clear_begun t d k b) h m p = fresh_start (step sent (Clear_begun t d k b)) h m t p (λ s far. apart t s (λ z. far (sym z)))
stopped_step sent (Get_begun t d k b) h m p = fresh_start (step sent (Get_begun t d k b)) h m t p (λ s far. apart t s (λ z. far (sym z)))
stopped_step sent (Cancelled t) h m p = λ s.
    by_test (λ y. y ≡ true → CancelledSince (step sent (Cancelled t) ∷ h) s) (same_stream s t) true (m.cancelled s) (λ e _. inl (ap Cancelled (sym (stream_eq _ _ e)))) (λ _ f. inr (refl, p s f))
stopped_step sent (Installed d k l t) h m p = λ s f. inr (refl, p s f)
stopped_step sent (Cleared d k t) h m p = λ s f. inr (refl, p s f)
stopped_step sent (Shown d k l t) h m p = λ s f. inr (refl, p s f)
stopped_step sent (Restarted d) h m p = λ s f. inr (refl, p s f)
stopped_step sent (Ended t Told_installed) h m p = λ s f. inr (refl, p s f)
stopped_step sent (Ended t (Told_not_installed code)) h m p = λ s f. inr (refl, p s f)
stopped_step sent (Ended t Told_unknown) h m p = λ s f. inr (refl, p s f)
stopped_step sent (Ended t Told_cleared) h m p = λ s f. inr (refl, p s f)
stopped_step sent (Ended t (Told_got l)) h m p = λ s f. inr (refl, p s f)
stopped_step sent (Ended t (Told_ended code)) h m p = λ s f. inr (refl, p s f)

-- if the mark is set, the station was cancelled since its latest operation began
pub cancelled_law : (h : List Step) → (s : Stream) → (store_of h).cancelled s ≡ true → CancelledSince h s
cancelled_law [] = λ s f. absurd (cc)
cancelled_law (x ∷ h) = stopped_step x.sent x.event h (store_of h) (cancelled_law h)

-- what a download has seen was held since it began
abbrev getting : Stream → ℕ → Job → ℕ × List ℕ → Option Opening
getting d k w n = Some (record { drone = d; kind = k; job = w; drone_since = n.0; emptied = n.1 })

abbrev job_at : Option Opening → Job
job_at None = A_clear
job_at (Some c) = c.job

abbrev drone_at : Stream → Option Opening → Stream
drone_at e None = e
drone_at e (Some c) = c.drone

abbrev kind_at : Option Opening → ℕ
kind_at None = 0
kind_at (Some c) = c.kind

-- nothing open is no download
none_seen : (d : Stream) (k : ℕ) (w : Job) (n : ℕ × List ℕ) → None ≡ getting d k w n → ⊥
none_seen d k w n e = absurd (cc)

-- a download sees one plan
same_seen : (x y : List Item) → A_get (Some x) ≡ A_get (Some y) → x ≡ y
same_seen x y e = ap seen_of e
  where
    seen_of : Job → List Item
    seen_of A_clear = []
    seen_of (A_get None) = []
    seen_of (A_get (Some z)) = z

abbrev SeenHeld : List Step → Store → Type 0
SeenHeld h m = (s d : Stream) (k : ℕ) (n : ℕ × List ℕ) (p : List Item) → m.opening s ≡ getting d k (A_get (Some p)) n → HeldSince h s d k p

-- one slot is another, and holds no plan
slot : (x : Step) (h : List Step) (f : Stream → Option Opening) (t : Stream) (c : Option Opening) → ((s d : Stream) (k : ℕ) (n : ℕ × List ℕ) (p : List Item) → f s ≡ getting d k (A_get (Some p)) n → HeldSince h s d k p) → ((d : Stream) (k : ℕ) (n : ℕ × List ℕ) (p : List Item) → c ≡ getting d k (A_get (Some p)) n → ⊥) → ((s : Stream) → s ≢ t → begins_get x.event s ≡ false) → (s d : Stream) (k : ℕ) (n : ℕ × List ℕ) (p : List Item) → at f t c s ≡ getting d k (A_get (Some p)) n → HeldSince (x ∷ h) s d k p
slot x h f t c i not_seen far s d k n p =
    by_test (λ (y : Option Opening). y ≡ getting d k (A_get (Some p)) n → HeldSince (x ∷ h) s d k p) (same_stream s t) c (f s)
    (λ _ e. absurd (not_seen d k n p e))
    (λ b e. inr (far s (stream_ne _ _ b), i s d k n p e))

-- a plan is shown
shown_step : (sent : List Frame) (who : Stream) (j : ℕ) (l : List Item) (t : Stream) (h : List Step) → SeenHeld h (store_of h) → Needs sent (store_of h) (Shown who j l t) → SeenHeld (step sent (Shown who j l t) ∷ h) (does (store_of h) (Shown who j l t))
shown_step sent who j l t h i v = λ s d k n p.
    by_test (λ (y : Option Opening). y ≡ getting d k (A_get (Some p)) n → HeldSince (step sent (Shown who j l t) ∷ h) s d k p) (same_stream s t) (sees ((store_of h).opening t) who j l) ((store_of h).opening s)
    (λ b. shown_one s d k n p (sym (stream_eq _ _ b)) ((store_of h).opening t) refl)
    (λ _ e. inr (refl, i s d k n p e))
  where
    by_job : (p : List Item) (w : Job) → saw w l ≡ A_get (Some p) → l ≡ p
    by_job p A_clear e = absurd (cc)
    by_job p (A_get y) e = same_seen l p e

    shown_one : (s d : Stream) (k : ℕ) (n : ℕ × List ℕ) (p : List Item) → t ≡ s → (c : Option Opening) → (store_of h).opening t ≡ c → sees c who j l ≡ getting d k (A_get (Some p)) n → HeldSince (step sent (Shown who j l t) ∷ h) s d k p
    shown_one s d k n p ts None is e = absurd (none_seen d k _ n e)
    shown_one s d k n p ts (Some c) is e =
        by_test (λ (y : Option Opening). y ≡ getting d k (A_get (Some p)) n → HeldSince (step sent (Shown who j l t) ∷ h) s d k p) (same_stream c.drone who && (c.kind == j)) (Some (record c { job = saw c.job l })) (Some c)
        (λ b z.
        let bb = both_true _ _ b in
        let ew : saw c.job l ≡ A_get (Some p) = ap job_at z in
        let dw : who ≡ d = sym (stream_eq c.drone who bb.0) ∙ ap (drone_at who) z in
        let kj : j ≡ k = sym (eq_true c.kind j bb.1) ∙ ap kind_at z in
        let lp : l ≡ p = by_job p c.job ew in
        inl (subst (λ y. (store_of h).plan y k ≡ p) dw (subst (λ y. (store_of h).plan who y ≡ p) kj (sym v ∙ lp))))
        (λ _ z. inr (refl, i s d k n p (ap (store_of h).opening (sym ts) ∙ is ∙ z))) e

-- a clear is no download
no_download : (o : Option Opening) (e d : Stream) (j k : ℕ) (n : ℕ × List ℕ) (p : List Item) → MayClear o e j → empties o j ≡ getting d k (A_get (Some p)) n → ⊥
no_download None e d j k n p v z = v
no_download (Some c) e d j k n p v z = let y : c.job ≡ A_get (Some p) = ap job_at z in let w : A_clear ≡ A_get (Some p) = sym v.1 ∙ y in absurd (cc)

-- each event
seen_step : (sent : List Frame) (event : StoreEvent) (h : List Step) → SeenHeld h (store_of h) → Needs sent (store_of h) event → SeenHeld (step sent event ∷ h) (does (store_of h) event)
seen_step sent (Clear_begun t e j b) h i v = slot (step sent (Clear_begun t e j b)) h (store_of h).opening t (getting e j A_clear (b, [])) i (λ d k n p z. let y : A_clear ≡ A_get (Some p) = ap job_at z in absurd (cc)) (λ s far. refl)
seen_step sent (Get_begun t e j b) h i v = slot (step sent (Get_begun t e j b)) h (store_of h).opening t (getting e j (A_get None) (b, [])) i (λ d k n p z. let y : A_get None ≡ A_get (Some p) = ap job_at z in absurd (cc)) (λ s far. apart t s (λ z. far (sym z)))
seen_step sent (Ended t Told_cleared) h i v = slot (step sent (Ended t Told_cleared)) h (store_of h).opening t None i (λ d k n p z. none_seen d k _ n z) (λ s far. refl)
seen_step sent (Ended t (Told_got l)) h i v = slot (step sent (Ended t (Told_got l))) h (store_of h).opening t None i (λ d k n p z. none_seen d k _ n z) (λ s far. refl)
seen_step sent (Ended t (Told_ended code)) h i v = slot (step sent (Ended t (Told_ended code))) h (store_of h).opening t None i (λ d k n p z. none_seen d k _ n z) (λ s far. refl)
seen_step sent (Shown who j l t) h i v = shown_step sent who j l t h i v
seen_step sent (Upload_begun t e j l a b) h i v = λ s d k n p z. inr (refl, i s d k n p z)
seen_step sent (Installed e j l t) h i v = λ s d k n p z. inr (refl, i s d k n p z)
seen_step sent (Cleared e j t) h i v = λ s d k n p.
    by_test (λ (y : Option Opening). y ≡ getting d k (A_get (Some p)) n → HeldSince (step sent (Cleared e j t) ∷ h) s d k p) (same_stream s t) (empties ((store_of h).opening t) j) ((store_of h).opening s)
    (λ _ z. absurd (no_download ((store_of h).opening t) e d j k n p v z))
    (λ _ z. inr (refl, i s d k n p z))
seen_step sent (Cancelled t) h i v = λ s d k n p z. inr (refl, i s d k n p z)
seen_step sent (Restarted e) h i v = λ s d k n p z. inr (refl, i s d k n p z)
seen_step sent (Ended t Told_installed) h i v = λ s d k n p z. inr (refl, i s d k n p z)
seen_step sent (Ended t (Told_not_installed code)) h i v = λ s d k n p z. inr (refl, i s d k n p z)
seen_step sent (Ended t Told_unknown) h i v = λ s d k n p z. inr (refl, i s d k n p z)

-- each history
seen_all : (h : List Step) → IsHistory h → SeenHeld h (store_of h)
seen_all [] v = λ s d k n p e. absurd (none_seen d k _ n e)
seen_all (x ∷ h) v = seen_step x.sent x.event h (seen_all h v.1) v.0

-- what is got was held by the drone since the download began
pub got_law : (h : List Step) (sent : List Frame) (s : Stream) (plan : List Item) → IsHistory (step sent (Ended s (Told_got plan)) ∷ h) → GotHeld h s plan
got_law h sent s plan v = one ((store_of h).opening s) refl v.0
  where
    one : (c : Option Opening) → (store_of h).opening s ≡ c → HasGot c plan → GotHeld h s plan
    one None is g = absurd g
    one (Some c) is g = (c, is, seen_all h v.1 s c.drone c.kind (c.drone_since, c.emptied) plan (is ∙ ap (λ j. getting c.drone c.kind j (c.drone_since, c.emptied)) g))

-- a clear or a download that ended with a code
pub ended_law : (h : List Step) (sent : List Frame) (s : Stream) (code : ℕ) → IsHistory (step sent (Ended s (Told_ended code)) ∷ h) → EndedBy h sent s code
ended_law h sent s code v = one ((store_of h).opening s) refl v.0
  where
    cause : (c : Opening) → EndCause sent s ((store_of h).cancelled s) (Some c) code → Acked sent c.drone s c.drone_since code ⊎ (((code ≡ 15) × CancelledSince h s) ⊎ ((code ≡ 4) × TooMany c.kind c.job))
    cause c (inl a) = inl a
    cause c (inr (inl b)) = inr (inl (b.0, cancelled_law h s b.1))
    cause c (inr (inr b)) = inr (inr b)

    one : (c : Option Opening) → (store_of h).opening s ≡ c → EndCause sent s ((store_of h).cancelled s) c code → EndedBy h sent s code
    one None is g = absurd g
    one (Some c) is g = (c, is, cause c g)

-- an upload that was reported as "not installed" with a code
pub not_installed_law : (h : List Step) (sent : List Frame) (s : Stream) (code : ℕ) → IsHistory (step sent (Ended s (Told_not_installed code)) ∷ h) → NotInstalledBy h sent s code
not_installed_law h sent s code v = v.0.1

-- an upload that was reported as "unknown"
pub unknown_law : (h : List Step) (sent : List Frame) (s : Stream) → IsHistory (step sent (Ended s Told_unknown) ∷ h) → UnknownBy h sent s
unknown_law h sent s v = let n = v.0 in record { restarted = lost_law h s n.1; answered = n.2; final_sent = n.3; cancel_sent = n.4; answered_last = n.5 }
