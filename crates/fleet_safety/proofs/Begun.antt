-- The orders in a history of the store are those of the actions, and its uploads are theirs.
use Rattle.std.proofs.Common.{◌≡◌, ℕ, zero, suc, ◌+◌, ◌⊎◌, inl, inr, if◌then◌else◌, List, [], ◌∷◌, ◌++◌, length, slice_get, Some, refl, sym, ap, subst, arith, ◌∙◌, length-append}
use Rattle.std.specs.Prelude.{◌↔◌}
use Rattle.std.proofs.lemmas.List.{append_assoc, append-nil}
use Rattle.mav_names.specs.declared.names.Stream.{Stream}
use Rattle.plan_items.specs.declared.items.Item.{Item}
use Rattle.plan_upload.specs.Addresses.{same_stream}
use Rattle.plan_safety.specs.Store.{StoreEvent, Upload_begun, Installed, Clear_begun, Cleared, Get_begun, Shown, Cancelled, Ended, Restarted}
use Rattle.plan_safety.specs.World.{Nodes, World}
use Rattle.plan_safety.specs.History.{Step, final, history, begins_upload, uploads, BegunWith, Uploaded}
use Rattle.plan_safety.proofs.Keys.{by_test, same, stream_eq}
use Rattle.fleet_safety.specs.Actions.{Action, Order, Accepts_upload, Accepts_clear, Accepts_get, Accepts_cancel}
use Rattle.fleet_safety.specs.Safe.{events_of, orders_of, order_of, orders_in, Upload, upload, uploads_by, IsTheUpload}
use Rattle.fleet_safety.specs.Meaning.{newest}
use Rattle.fleet_safety.proofs.Lists.{by_both, at_end, still_there}
use Rattle.fleet_safety.proofs.Follows.{Follows, history_on, history_back}

-- ---- orders

orders_back : (g h : List Step) → orders_in (g ++ h) ≡ orders_in h ++ orders_in g
orders_back [] h = sym (append-nil (orders_in h))
orders_back (x ∷ g) h = ap (λ os. os ++ order_of x.event) (orders_back g h) ∙ append_assoc (orders_in h) (orders_in g) (order_of x.event)

pub orders_all : (n : Nodes) (w : World) (actions : List Action) → Follows n w actions → orders_in (history n w [] (events_of actions)) ≡ orders_of actions
orders_all n w [] f = refl
orders_all n w (a ∷ actions) f =
    let v : World = final n w a.events in
    let own : List Step = history n w [] a.events in
    ap orders_in (history_on n w [] a.events (events_of actions) ∙ history_back n v own (events_of actions))
    ∙ orders_back (history n v [] (events_of actions)) own
    ∙ ap (λ os. os ++ orders_in (history n v [] (events_of actions))) f.0.own.orders_are
    ∙ ap (λ os. a.orders ++ os) (orders_all n v actions f.1)

-- ---- uploads

-- the element after others
behind : {A : Type 0} (xs : List A) (x : A) → slice_get (xs ++ x ∷ []) (length xs) ≡ Some x
behind [] x = refl
behind (y ∷ ys) x = behind ys x

pub newest_at : (us : List Upload) (i : ℕ) (u : Upload) → slice_get us i ≡ Some u → length us ≡ i + 1 → newest us ≡ Some u
newest_at [] i u e l = absurd (omega arith)
newest_at (v ∷ []) zero u e l = e
newest_at (v ∷ []) (suc i) u e l = absurd (omega arith)
newest_at (v ∷ w ∷ us) zero u e l = absurd (omega arith)
newest_at (v ∷ w ∷ us) (suc i) u e l = newest_at (w ∷ us) i u e (less (length us) i l)
  where
    less : (k i : ℕ) → suc (suc k) ≡ suc i + 1 → suc k ≡ i + 1
    less k i e = omega arith

module _ (s : Stream) where
  uploads_on : (os ps : List Order) → uploads_by s (os ++ ps) ≡ uploads_by s os ++ uploads_by s ps
  uploads_on [] ps = refl
  uploads_on (Accepts_upload station drone kind plan ∷ os) ps =
      by_both (λ (x y : List Upload). x ≡ y ++ uploads_by s ps) (same_stream station s) _ _ (upload drone kind plan ∷ uploads_by s os) (uploads_by s os)
      (ap (λ us. upload drone kind plan ∷ us) (uploads_on os ps)) (uploads_on os ps)
  uploads_on (Accepts_clear station drone kind ∷ os) ps = uploads_on os ps
  uploads_on (Accepts_get station drone kind ∷ os) ps = uploads_on os ps
  uploads_on (Accepts_cancel station ∷ os) ps = uploads_on os ps

  -- with one event more
  module _ (us : List Upload) where
    as_before : (k : ℕ) → k ≡ length us → k ≡ length (us ++ [])
    as_before k e = e ∙ ap length (sym (append-nil us))

    count_on : (e : StoreEvent) (k : ℕ) → k ≡ length us → (if begins_upload e s then k + 1 else k) ≡ length (us ++ uploads_by s (order_of e))
    count_on (Upload_begun station drone kind plan since drone_since) k e =
        by_both (λ (x : ℕ) (y : List Upload). x ≡ length (us ++ y)) (same_stream station s) (k + 1) k (upload drone kind plan ∷ []) []
        (ap (λ j. j + 1) e ∙ sym (length-append us (upload drone kind plan ∷ []))) (as_before k e)
    count_on (Installed drone kind plan station) k e = as_before k e
    count_on (Clear_begun station drone kind drone_since) k e = as_before k e
    count_on (Cleared drone kind station) k e = as_before k e
    count_on (Get_begun station drone kind drone_since) k e = as_before k e
    count_on (Shown drone kind plan station) k e = as_before k e
    count_on (Cancelled station) k e = as_before k e
    count_on (Ended station told) k e = as_before k e
    count_on (Restarted drone) k e = as_before k e

    -- an upload among these and that of one event more
    module _ (drone : Stream) (kind : ℕ) (plan : List Item) (i : ℕ) where
      abbrev IsEither : StoreEvent → Type 0
      IsEither e = (slice_get us i ≡ Some (upload drone kind plan)) ⊎ (BegunWith e s drone kind plan × (i ≡ length us))

      earlier : (e : StoreEvent) → slice_get (us ++ []) i ≡ Some (upload drone kind plan) → IsEither e
      earlier e h = inl (subst (λ (xs : List Upload). slice_get xs i ≡ Some (upload drone kind plan)) (append-nil us) h)

      begun_now : (station d : Stream) (k : ℕ) (p : List Item) (a b : ℕ) → station ≡ s → upload d k p ≡ upload drone kind plan → BegunWith (Upload_begun station d k p a b) s drone kind plan
      begun_now station d k p a b here is =
          (a, b, ap (λ x. Upload_begun x d k p a b) here ∙ ap (λ (u : Upload). Upload_begun s u.drone u.kind u.plan a b) is)

      either : (e : StoreEvent) → slice_get (us ++ uploads_by s (order_of e)) i ≡ Some (upload drone kind plan) → IsEither e
      either (Upload_begun station d k p a b) h =
          by_test (λ (xs : List Upload). slice_get (us ++ xs) i ≡ Some (upload drone kind plan) → IsEither (Upload_begun station d k p a b)) (same_stream station s) (upload d k p ∷ []) []
          (λ t g. elim (at_end us (upload d k p) (upload drone kind plan) i g) [ inl z ↦ inl z | inr z ↦ inr (begun_now station d k p a b (stream_eq station s t) z.1, z.0) ])
          (λ _ g. earlier (Upload_begun station d k p a b) g) h
      either (Installed d k p station) h = earlier (Installed d k p station) h
      either (Clear_begun station d k a) h = earlier (Clear_begun station d k a) h
      either (Cleared d k station) h = earlier (Cleared d k station) h
      either (Get_begun station d k a) h = earlier (Get_begun station d k a) h
      either (Shown d k p station) h = earlier (Shown d k p station) h
      either (Cancelled station) h = earlier (Cancelled station) h
      either (Ended station told) h = earlier (Ended station told) h
      either (Restarted d) h = earlier (Restarted d) h

  pub count_is : (h : List Step) → uploads h s ≡ length (uploads_by s (orders_in h))
  count_is [] = refl
  count_is (x ∷ h) = count_on (uploads_by s (orders_in h)) x.event (uploads h s) (count_is h) ∙ ap length (sym (uploads_on (orders_in h) (order_of x.event)))

  module _ (drone : Stream) (kind : ℕ) (plan : List Item) where
    abbrev u : Upload
    u = upload drone kind plan

    to_upload : (h : List Step) (number : ℕ) → Uploaded h s number drone kind plan → IsTheUpload (orders_in h) s number drone kind plan
    to_upload [] number h = absurd h
    to_upload (x ∷ h) number (inl now) =
        let us : List Upload = uploads_by s (orders_in h) in
        let one : uploads_by s (order_of (Upload_begun s drone kind plan now.0.0 now.0.1)) ≡ u ∷ [] = rw (same s) refl in
        record {
          index = uploads h s;
          number_is = sym now.1;
          is =
              ap (λ xs. slice_get xs (uploads h s)) (uploads_on (orders_in h) (order_of x.event))
              ∙ ap (λ e. slice_get (us ++ uploads_by s (order_of e)) (uploads h s)) now.0.2
              ∙ ap (λ xs. slice_get (us ++ xs) (uploads h s)) one
              ∙ ap (λ k. slice_get (us ++ u ∷ []) k) (count_is h)
              ∙ behind us u;
        }
    to_upload (x ∷ h) number (inr before) =
        let z = to_upload h number before in
        record {
          index = z.index;
          number_is = z.number_is;
          is = ap (λ xs. slice_get xs z.index) (uploads_on (orders_in h) (order_of x.event)) ∙ still_there (uploads_by s (orders_in h)) (uploads_by s (order_of x.event)) u z.index z.is;
        }

    from_upload : (h : List Step) (i : ℕ) → slice_get (uploads_by s (orders_in h)) i ≡ Some u → Uploaded h s (i + 1) drone kind plan
    from_upload [] i e = nowhere i e
      where
        nowhere : (i : ℕ) → slice_get [] i ≡ Some u → Uploaded [] s (i + 1) drone kind plan
        nowhere zero e = absurd (cc)
        nowhere (suc i) e = absurd (cc)
    from_upload (x ∷ h) i e =
        let us : List Upload = uploads_by s (orders_in h) in
        elim (either us drone kind plan i x.event (sym (ap (λ xs. slice_get xs i) (uploads_on (orders_in h) (order_of x.event))) ∙ e)) [
          | inl z ↦ inr (from_upload h i z)
          | inr z ↦ inl (z.0, ap (λ k. k + 1) (count_is h ∙ sym z.1))
        ]

-- an upload in a history is that among its orders
pub the_upload : (h : List Step) (s : Stream) (number : ℕ) (drone : Stream) (kind : ℕ) (plan : List Item) → Uploaded h s number drone kind plan ↔ IsTheUpload (orders_in h) s number drone kind plan
the_upload h s number drone kind plan =
    (to_upload s drone kind plan h number, λ z. subst (λ k. Uploaded h s k drone kind plan) (sym z.number_is) (from_upload s drone kind plan h z.index z.is))
