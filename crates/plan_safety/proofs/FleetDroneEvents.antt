-- A frame that comes to a drone is an event that the store allows.
use Rattle.std.proofs.Common.{◌≡◌, ◌≢◌, ℕ, ◌<◌, ◌≤◌, ◌⊎◌, inl, inr, Bool, true, false, if◌then◌else◌, ◌==◌, ◌&&◌, nat_lt, List, [], ◌∷◌, length, Option, Some, None, refl, sym, ap, subst, arith, ◌∙◌}
use Rattle.std.specs.Prelude.{slice_get, max}
use Rattle.mav_names.specs.declared.names.Stream.{Stream}
use Rattle.plan_items.specs.declared.items.Item.{Item}
use Rattle.plan_items.specs.declared.messages.PlanMsg.{PlanMsg}
use Rattle.plan_items.specs.declared.messages.PlanMsg.TheVariants.{Count, Item as Give}
use Rattle.plan_upload.specs.Addresses.{same_stream, node_of}
use Rattle.plan_upload.specs.Plans.{plan_at, every_kind}
use Rattle.plan_upload.specs.Drone.{DroneState, DroneStep, PlanEvent, Quiet, Installs, Empties, Shows}
use Rattle.plan_safety.specs.Frames.{Frame, Said}
use Rattle.plan_safety.specs.World.{Nodes, Distinct, World, DroneNode, quiet, drone_sends, drone_news, clears, drone_takes, drone_admits, to_drone}
use Rattle.plan_safety.specs.Store.{Store, StoreEvent, Installed, Cleared, Shown, Transaction, Opening, Fresh, In_place, MayClear, at, staged, saw, sees, empties, with_plan, Meets, follows, does}
use Rattle.plan_safety.proofs.Keys.{by_test, eq_true, stream_eq, same, apart, split, less, both_true, at_same, at_apart}
use Rattle.plan_safety.proofs.Part.{subject, pair_of, truth_at, said_at}
use Rattle.plan_safety.proofs.Leaf.{CanInstall, shown_in, emptied_in}
use Rattle.plan_safety.proofs.DroneStep.{on_frame}
use Rattle.plan_safety.proofs.DroneOther.{frame_unmoved}
use Rattle.plan_safety.proofs.DroneShape.{plans_after, frame_shape}
use Rattle.plan_safety.proofs.Fleet.{All, retold, part, view_transaction, view_opening, seen_of, AtDrone, ClearAt, view_fresh, view_clear, not_both, harmless_at}
use Rattle.plan_safety.proofs.FleetMoves.{Goes}
use Rattle.plan_safety.proofs.FleetDrone.{Stepped, admitted_node, steps}

-- what is shown is seen only by a download that is open
far_sees : (d n : Stream) (k : ℕ) (p : List Item) (c : Option Opening) → d ≢ n → view_opening d (sees c n k p) ≡ view_opening d c
far_sees d n k p None far = refl
far_sees d n k p (Some c) far =
    by_test (λ (x : Option Opening). view_opening d x ≡ view_opening d (Some c)) (same_stream c.drone n && (c.kind == k)) (Some (record c { job = saw c.job p })) (Some c)
    (λ e. let b : c.drone ≡ n = stream_eq _ _ (both_true _ _ e).0 in unseen (apart c.drone d (λ z. far (sym z ∙ b))))
    (λ _. refl)
  where
    unseen : same_stream c.drone d ≡ false → view_opening d (Some (record c { job = saw c.job p })) ≡ view_opening d (Some c)
    unseen e = rw e refl

-- and what the drone's own pair sees
near_sees : (n : Stream) (k : ℕ) (p : List Item) (c : Option Opening) → view_opening n (sees c n k p) ≡ shown_in (view_opening n c) k p
near_sees n k p None = refl
near_sees n k p (Some c) = by_both (same_stream c.drone n) refl (c.kind == k) refl
  where
    by_both : (a : Bool) → same_stream c.drone n ≡ a → (b : Bool) → (c.kind == k) ≡ b → view_opening n (if a && b then Some (record c { job = saw c.job p }) else Some c) ≡ shown_in (if a then Some (seen_of c) else None) k p
    by_both true ea true eb = rw (ea, eb) refl
    by_both true ea false eb = rw (ea, eb) refl
    by_both false ea b eb = rw ea refl

-- what is open stays a drone's
sees_at : (nodes : Nodes) (n : Stream) (k : ℕ) (p : List Item) (c : Option Opening) → AtDrone nodes c → AtDrone nodes (sees c n k p)
sees_at nodes n k p None h = tt
sees_at nodes n k p (Some c) h = by_test (AtDrone nodes) (same_stream c.drone n && (c.kind == k)) _ (Some c) (λ _. h) (λ _. h)

-- what a clear has open, once it has emptied its kinds
abbrev cleared_opening : Option Opening → ℕ → Option Opening
cleared_opening c k = if k == every_kind then empties (empties (empties c 0) 1) 2 else empties c k

-- as the drone's own pair sees it
near_cleared : (n : Stream) (k : ℕ) (c : Option Opening) → view_opening n (cleared_opening c k) ≡ emptied_in (view_opening n c) k
near_cleared n k None = by_kind (k == every_kind)
  where
    by_kind : (a : Bool) → view_opening n (if a then None else None) ≡ None
    by_kind true = refl
    by_kind false = refl
near_cleared n k (Some c) = by_both (k == every_kind) refl (same_stream c.drone n) refl
  where
    by_both : (a : Bool) → (k == every_kind) ≡ a → (b : Bool) → same_stream c.drone n ≡ b → view_opening n (if a then Some (record c { emptied = 2 ∷ 1 ∷ 0 ∷ c.emptied }) else Some (record c { emptied = k ∷ c.emptied })) ≡ emptied_in (if b then Some (seen_of c) else None) k
    by_both true ea true eb = rw (ea, eb) refl
    by_both true ea false eb = rw eb refl
    by_both false ea true eb = rw (ea, eb) refl
    by_both false ea false eb = rw eb refl

-- another drone's pair doesn't see it
far_cleared : (d n : Stream) (k j : ℕ) (c : Option Opening) → ClearAt c n j → d ≢ n → view_opening d (cleared_opening c k) ≡ view_opening d c
far_cleared d n k j None h far = absurd h
far_cleared d n k j (Some c) h far = by_kind (k == every_kind) (apart c.drone d (λ z. far (sym z ∙ h.0)))
  where
    by_kind : (a : Bool) → same_stream c.drone d ≡ false → view_opening d (if a then Some (record c { emptied = 2 ∷ 1 ∷ 0 ∷ c.emptied }) else Some (record c { emptied = k ∷ c.emptied })) ≡ view_opening d (Some c)
    by_kind true e = rw e refl
    by_kind false e = rw e refl

-- it stays a drone's, and a clear of the same kind
cleared_at : (nodes : Nodes) (k : ℕ) (c : Option Opening) → AtDrone nodes c → AtDrone nodes (cleared_opening c k)
cleared_at nodes k None h = by_test (AtDrone nodes) (k == every_kind) None None (λ _. tt) (λ _. tt)
cleared_at nodes k (Some c) h = by_test (AtDrone nodes) (k == every_kind) (Some (record c { emptied = 2 ∷ 1 ∷ 0 ∷ c.emptied })) (Some (record c { emptied = k ∷ c.emptied })) (λ _. h) (λ _. h)

still_clears : (c : Option Opening) (n : Stream) (k j : ℕ) → ClearAt c n k → ClearAt (empties c j) n k
still_clears None n k j h = h
still_clears (Some c) n k j h = h

-- more is sent, and no less
said_more : (b : Option PlanMsg) (w : World) (n : Stream) (x : DroneNode) (s : Stream) (since : ℕ) (m : PlanMsg) → Said w.sent s since m → Said (drone_sends w n x b).sent s since m
said_more None w n x s since m h = h
said_more (Some b) w n x s since m h = inr h

-- a clear of the kind, and of all kinds
may_clear : (c : Option Opening) (n : Stream) (k j : ℕ) → ClearAt c n k → (k ≡ j) ⊎ (k ≡ every_kind) → MayClear c n j
may_clear None n k j h e = h
may_clear (Some c) n k j h (inl e) = (h.0, h.1, inl (h.2 ∙ e))
may_clear (Some c) n k j h (inr e) = (h.0, h.1, inr (h.2 ∙ e))

-- the plans of a drone of which one is replaced
abbrev replaced : (Stream → ℕ → List Item) → Stream → ℕ → List Item → (Stream → ℕ → List Item)
replaced f n k p = at f n (with_plan (f n) k p)

-- the plan that is replaced, and another drone's
replaced_here : (f : Stream → ℕ → List Item) (n : Stream) (k : ℕ) (p : List Item) (j : ℕ) → replaced f n k p n j ≡ with_plan (f n) k p j
replaced_here f n k p j = ap (λ g. g j) (at_same f n (with_plan (f n) k p))

replaced_far : (f : Stream → ℕ → List Item) (n : Stream) (k : ℕ) (p : List Item) (d : Stream) (j : ℕ) → d ≢ n → replaced f n k p d j ≡ f d j
replaced_far f n k p d j far = ap (λ g. g j) (at_apart f n d (with_plan (f n) k p) far)

-- a transaction that is put in place is seen at its drone alone
placed_far : (d n : Stream) (t : Transaction) → t.drone ≡ n → d ≢ n → view_transaction d (staged t In_place) ≡ view_transaction d t
placed_far d n t is far = rw (apart t.drone d (λ z. far (sym z ∙ is))) refl

-- and seen there
placed_near : (n : Stream) (t : Transaction) → t.drone ≡ n → view_transaction n (staged t In_place) ≡ staged t In_place
placed_near n t is = rw (test t.drone is) refl
  where
    test : (e : Stream) → e ≡ n → same_stream e n ≡ true
    test e h = rw h (same n)

module _ (nodes : Nodes) (sound : Distinct nodes) (w : World) (m : Store) (n t : Stream) (stamp next : ℕ) (e : DroneState) (a : Option PlanMsg) (all : All nodes w m) (drone : nodes.is_drone n ≡ true) where
  abbrev pub Done : PlanEvent → Type 0
  Done x = Stepped nodes w m n t stamp next (record { drone = e; answer = a; event = x })

  abbrev pub after : List StoreEvent → World
  after news = drone_sends (record w { news = news }) n (admitted_node (w.drone n) t stamp next e) a

  -- the world keeps the news
  news_is : (news : List StoreEvent) (b : Option PlanMsg) → (drone_sends (record w { news = news }) n (admitted_node (w.drone n) t stamp next e) b).news ≡ news
  news_is news None = refl
  news_is news (Some b) = refl

  -- needs and what holds, for the news that the world keeps
  pub as_reported : (news : List StoreEvent) → Meets (after news).sent m news → All nodes (after news) (follows m news) → Goes nodes (after news) m
  as_reported news x y = record { needs = subst (Meets (after news).sent m) (sym (news_is news a)) x; all = subst (λ z. All nodes (after news) (follows m z)) (sym (news_is news a)) y }

  -- nothing happens to the plans
  quiet_goes : Done Quiet → Goes nodes (after []) m
  quiet_goes h = as_reported [] tt (steps nodes sound w m m n t stamp next e a Quiet [] all drone h (record {
    transaction = λ _. refl;
    opening = λ _. refl;
    else_transaction = λ s _. refl;
    else_opening = λ s _. refl;
    cancels = λ s. refl;
    far_transaction = λ d s _. refl;
    far_opening = λ d s _. refl;
    fresh = all.transactions;
    at_drone = all.openings;
    plans = λ k l. refl;
    other_plans = λ d k _. refl;
  }))

  -- an installation
  installed_goes : (k : ℕ) (p : List Item) → nodes.is_station t ≡ true → Done (Installs t k p) → Goes nodes (after (Installed n k p t ∷ [])) m
  installed_goes k p st h =
      let o : Transaction = m.transaction t in
      let needs : CanInstall n t w.sent k p (view_transaction n o) = (h.own st).needs.1 in
      let view = view_fresh n o needs.fresh in
      let j : CanInstall n t w.sent k p o = subst (λ y. CanInstall n t w.sent k p y) view.0 needs in
      let x : StoreEvent = Installed n k p t in
      let w' : World = record w { news = x ∷ [] } in
      let node = admitted_node (w.drone n) t stamp next e in
      as_reported (x ∷ []) (
        record {
          fresh = j.fresh;
          drone_is = j.drone;
          kind_is = j.kind_is;
          plan_is = j.plan_is;
          fully_sent = record {
            count = said_more a w' n node t o.since _ (subst (λ d. Said w.sent t o.since (Count (node_of d) (length o.plan) o.kind)) (sym j.drone) j.count);
            items = λ i y l. said_more a w' n node t o.since _ (subst (λ d. Said w.sent t o.since (Give (node_of d) i o.kind y)) (sym j.drone) (j.items i y l));
          };
        },
        tt,
      )
      (steps nodes sound w m (does m x) n t stamp next e a (Installs t k p) (x ∷ []) all drone h (record {
        transaction = λ _. ap (view_transaction n) (at_same m.transaction t (staged o In_place)) ∙ placed_near n o j.drone ∙ ap (λ y. staged y In_place) (sym view.0);
        opening = λ _. refl;
        else_transaction = λ s far. at_apart m.transaction t s (staged o In_place) far;
        else_opening = λ s _. refl;
        cancels = λ s. refl;
        far_transaction = λ d s far. elim (split t s) [
          | inl is ↦ subst (λ s. view_transaction d (at m.transaction t (staged o In_place) s) ≡ view_transaction d (m.transaction s)) (sym is) (ap (view_transaction d) (at_same m.transaction t (staged o In_place)) ∙ placed_far d n o j.drone far)
          | inr out ↦ ap (view_transaction d) (at_apart m.transaction t s (staged o In_place) out)
        ];
        far_opening = λ d s _. refl;
        fresh = λ u hu f. elim (split t u) [
          | inl is ↦ absurd (let z : In_place ≡ Fresh = subst (λ (y : Transaction). y.stage ≡ Fresh) (ap (at m.transaction t (staged o In_place)) is ∙ at_same m.transaction t (staged o In_place)) f in cc)
          | inr out ↦ subst (λ (y : Transaction). nodes.is_drone y.drone ≡ true) (sym (at_apart m.transaction t u (staged o In_place) out)) (all.transactions u hu (subst (λ (y : Transaction). y.stage ≡ Fresh) (at_apart m.transaction t u (staged o In_place) out) f))
        ];
        at_drone = all.openings;
        plans = λ i l. sym (replaced_here m.plan n k p i);
        other_plans = λ d i far. replaced_far m.plan n k p d i far;
      }))

  -- a clear changes plans, and what was emptied
  cleared : (k j : ℕ) (news : List StoreEvent) (m' : Store) → Done (Empties t k) → ClearAt (m.opening t) n j → m'.transaction ≡ m.transaction → m'.opening t ≡ cleared_opening (m.opening t) k → ((s : Stream) → s ≢ t → m'.opening s ≡ m.opening s) → m'.cancelled ≡ m.cancelled → ((i : ℕ) → i < 3 → plans_after (m.plan n) (Empties t k) i ≡ m'.plan n i) → ((d : Stream) (i : ℕ) → d ≢ n → m'.plan d i ≡ m.plan d i) → All nodes (after news) m'
  cleared k j news m' h clear et eo far_eo ec plans other = steps nodes sound w m m' n t stamp next e a (Empties t k) news all drone h (record {
    transaction = λ _. ap (λ f. view_transaction n (f t)) et;
    opening = λ _. ap (view_opening n) eo ∙ near_cleared n k (m.opening t);
    else_transaction = λ s _. ap (λ f. f s) et;
    else_opening = far_eo;
    cancels = λ s. ap (λ f. f s) ec;
    far_transaction = λ d s _. ap (λ f. view_transaction d (f s)) et;
    far_opening = λ d s far. elim (split t s) [
      | inl is ↦ subst (λ s. view_opening d (m'.opening s) ≡ view_opening d (m.opening s)) (sym is) (ap (view_opening d) eo ∙ far_cleared d n k j (m.opening t) clear far)
      | inr out ↦ ap (view_opening d) (far_eo s out)
    ];
    fresh = λ u hu. subst (λ f. (f u).stage ≡ Fresh → nodes.is_drone (f u).drone ≡ true) (sym et) (all.transactions u hu);
    at_drone = λ u hu. elim (split t u) [
      | inl is ↦ subst (λ u. AtDrone nodes (m'.opening u)) (sym is) (subst (AtDrone nodes) (sym eo) (cleared_at nodes k (m.opening t) (subst (λ y. AtDrone nodes (m.opening y)) is (all.openings u hu))))
      | inr out ↦ subst (AtDrone nodes) (sym (far_eo u out)) (all.openings u hu)
    ];
    plans = plans;
    other_plans = other;
  })

  -- a clear of one kind, or of all
  cleared_goes : (k : ℕ) → nodes.is_station t ≡ true → Done (Empties t k) → Goes nodes (after (clears n t k)) m
  cleared_goes k st h =
      let c = view_clear n (m.opening t) k (h.own st).needs.1 in
      let f = m.plan in
      let f1 = replaced f n 0 [] in
      let f2 = replaced f1 n 1 [] in
      let o1 : Stream → Option Opening = at m.opening t (empties (m.opening t) 0) in
      let o2 : Stream → Option Opening = at o1 t (empties (o1 t) 1) in
      let e1 : o1 t ≡ empties (m.opening t) 0 = at_same m.opening t (empties (m.opening t) 0) in
      let e2 : o2 t ≡ empties (o1 t) 1 = at_same o1 t (empties (o1 t) 1) in
      let c1 : ClearAt (o1 t) n k = subst (λ x. ClearAt x n k) (sym e1) (still_clears (m.opening t) n k 0 c) in
      let c2 : ClearAt (o2 t) n k = subst (λ x. ClearAt x n k) (sym e2) (still_clears (o1 t) n k 1 c1) in
      by_test (λ news. Goes nodes (after news) m) (k == every_kind) (Cleared n 0 t ∷ Cleared n 1 t ∷ Cleared n 2 t ∷ []) (Cleared n k t ∷ [])
      (λ all_kinds. let ek : k ≡ every_kind = eq_true k every_kind all_kinds in
      let news : List StoreEvent = Cleared n 0 t ∷ Cleared n 1 t ∷ Cleared n 2 t ∷ [] in
      as_reported news (may_clear (m.opening t) n k 0 c (inr ek), (may_clear (o1 t) n k 1 c1 (inr ek), (may_clear (o2 t) n k 2 c2 (inr ek), tt)))
      (cleared k k news (follows m news) h c refl
      (rw all_kinds (at_same o2 t (empties (o2 t) 2) ∙ ap (λ x. empties x 2) (e2 ∙ ap (λ x. empties x 1) e1)))
      (λ s far. at_apart o2 t s (empties (o2 t) 2) far ∙ at_apart o1 t s (empties (o1 t) 1) far ∙ at_apart m.opening t s (empties (m.opening t) 0) far) refl
      (λ i l. rw all_kinds (sym (replaced_here f2 n 2 [] i ∙ by_two i l (replaced_here f1 n 1 [] i) (replaced_here f n 0 [] i))))
      (λ d i far. replaced_far f2 n 2 [] d i far ∙ replaced_far f1 n 1 [] d i far ∙ replaced_far f n 0 [] d i far)))
      (λ one. as_reported (Cleared n k t ∷ []) (may_clear (m.opening t) n k k c (inl refl), tt)
      (cleared k k (Cleared n k t ∷ []) (does m (Cleared n k t)) h c refl
      (rw one (at_same m.opening t (empties (m.opening t) k)))
      (λ s far. at_apart m.opening t s (empties (m.opening t) k) far) refl
      (λ i l. rw one (sym (replaced_here f n k [] i)))
      (λ d i far. replaced_far f n k [] d i far)))
    where
      by_two : (i : ℕ) → i < 3 → (let f1 = replaced m.plan n 0 [] in let f2 = replaced f1 n 1 [] in f2 n i ≡ with_plan (f1 n) 1 [] i → f1 n i ≡ with_plan (m.plan n) 0 [] i → with_plan (f2 n) 2 [] i ≡ [])
      by_two i l a b = elim (three i l) [
        | inl z ↦ low i z a b
        | inr y ↦ elim y [ inl z ↦ mid i z a b | inr z ↦ high i z ]
      ]
        where
          three : (i : ℕ) → i < 3 → (i ≡ 0) ⊎ ((i ≡ 1) ⊎ (i ≡ 2))
          three i h = grind arith

          low : (i : ℕ) → i ≡ 0 → (let f1 = replaced m.plan n 0 [] in let f2 = replaced f1 n 1 [] in f2 n i ≡ with_plan (f1 n) 1 [] i → f1 n i ≡ with_plan (m.plan n) 0 [] i → with_plan (f2 n) 2 [] i ≡ [])
          low i z a b = let f1 = replaced m.plan n 0 [] in let f2 = replaced f1 n 1 [] in subst (λ i. f2 n i ≡ with_plan (f1 n) 1 [] i → f1 n i ≡ with_plan (m.plan n) 0 [] i → with_plan (f2 n) 2 [] i ≡ []) (sym z) (λ a b. a ∙ b) a b

          mid : (i : ℕ) → i ≡ 1 → (let f1 = replaced m.plan n 0 [] in let f2 = replaced f1 n 1 [] in f2 n i ≡ with_plan (f1 n) 1 [] i → f1 n i ≡ with_plan (m.plan n) 0 [] i → with_plan (f2 n) 2 [] i ≡ [])
          mid i z a b = let f1 = replaced m.plan n 0 [] in let f2 = replaced f1 n 1 [] in subst (λ i. f2 n i ≡ with_plan (f1 n) 1 [] i → f1 n i ≡ with_plan (m.plan n) 0 [] i → with_plan (f2 n) 2 [] i ≡ []) (sym z) (λ a b. a) a b

          high : (i : ℕ) → i ≡ 2 → (let f1 = replaced m.plan n 0 [] in let f2 = replaced f1 n 1 [] in with_plan (f2 n) 2 [] i ≡ [])
          high i z = let f1 = replaced m.plan n 0 [] in let f2 = replaced f1 n 1 [] in subst (λ i. with_plan (f2 n) 2 [] i ≡ []) (sym z) refl

  -- the plan is shown
  shown_goes : (k : ℕ) (p : List Item) → nodes.is_station t ≡ true → k < 3 → p ≡ plan_at (w.drone n).state.plans k → Done (Shows t k p) → Goes nodes (after (Shown n k p t ∷ [])) m
  shown_goes k p st l is_plan h =
      let x : StoreEvent = Shown n k p t in
      let c : Option Opening = sees (m.opening t) n k p in
      as_reported (x ∷ []) (is_plan ∙ all.plans n k l, tt)
      (steps nodes sound w m (does m x) n t stamp next e a (Shows t k p) (x ∷ []) all drone h (record {
        transaction = λ _. refl;
        opening = λ _. ap (view_opening n) (at_same m.opening t c) ∙ near_sees n k p (m.opening t);
        else_transaction = λ s _. refl;
        else_opening = λ s far. at_apart m.opening t s c far;
        cancels = λ s. refl;
        far_transaction = λ d s _. refl;
        far_opening = λ d s far. elim (split t s) [
          | inl is ↦ subst (λ s. view_opening d (at m.opening t c s) ≡ view_opening d (m.opening s)) (sym is) (ap (view_opening d) (at_same m.opening t c) ∙ far_sees d n k p (m.opening t) far)
          | inr out ↦ ap (view_opening d) (at_apart m.opening t s c out)
        ];
        fresh = all.transactions;
        at_drone = λ u hu. elim (split t u) [
          | inl is ↦ subst (AtDrone nodes) (sym (ap (at m.opening t c) is ∙ at_same m.opening t c)) (sees_at nodes n k p (m.opening t) (subst (λ y. AtDrone nodes (m.opening y)) is (all.openings u hu)))
          | inr out ↦ subst (AtDrone nodes) (sym (at_apart m.opening t u c out)) (all.openings u hu)
        ];
        plans = λ i l. refl;
        other_plans = λ d i _. refl;
      }))

  -- each of these
  pub goes : (x : PlanEvent) → Done x → Goes nodes (after (drone_news n x)) m
  goes Quiet h = quiet_goes h
  goes (Installs u k p) h = let s = h.shape.event in subst (λ u. Done (Installs u k p) → Goes nodes (after (Installed n k p u ∷ [])) m) (sym s.0) (λ h. installed_goes k p s.1 h) h
  goes (Empties u k) h = let s = h.shape.event in subst (λ u. Done (Empties u k) → Goes nodes (after (clears n u k)) m) (sym s.0) (λ h. cleared_goes k s.1 h) h
  goes (Shows u k p) h = let s = h.shape.event in subst (λ u. Done (Shows u k p) → Goes nodes (after (Shown n k p u ∷ [])) m) (sym s.0) (λ h. shown_goes k p s.1 s.2 s.3 h) h

max_more : (a b : ℕ) → a ≤ max a b
max_more a b = omega arith

-- nothing happened
pub quiet_world : (nodes : Nodes) (w : World) (m : Store) → All nodes w m → Goes nodes (quiet w) m
quiet_world nodes w m all = record { needs = tt; all = retold nodes w (quiet w) m refl refl refl all }

module _ (nodes : Nodes) (sound : Distinct nodes) (w : World) (m : Store) (n : Stream) (all : All nodes w m) (drone : nodes.is_drone n ≡ true) where
  -- what a frame of a stream leads to
  frame_steps : (keeps : Bool) (k : ℕ) (f : Frame) → slice_get w.sent k ≡ Some f → (w.drone n).last f.from < f.timestamp → Stepped nodes w m n f.from f.timestamp (max (w.drone n).next f.timestamp) (drone_takes keeps (w.drone n).state f.from f.message)
  frame_steps keeps k f e late =
      let harmless = harmless_at nodes w.sent k f e all.frames in
      record {
        own = λ st.
            let p = all.pairs n f.from drone st in
            let q = part w m n f.from in
            let t = (truth_at n f.from (pair_of f.from q p.0) (subject q.transaction q.opening) w.sent k f e p.1.truths).1 in
            on_frame n f.from (not_both nodes sound n f.from drone st) keeps q p.0 f.timestamp (max (w.drone n).next f.timestamp) f.message (all.systems n drone) p.1 late (t.by_station refl) (max_more _ _) (t.station refl) (t.named refl) (λ x is since. said_at w.sent k f f.from q.transaction.since x e refl since is);
        other = λ s far. frame_unmoved keeps (w.drone n).state s f.from far f.message;
        later = max_more _ _;
        shape = frame_shape keeps nodes sound (w.drone n).state f.from (all.owners n drone) n f.message drone (all.systems n drone) harmless;
        sender = harmless.0;
      }

  -- a sent frame is given to the drone
  frame_goes : (keeps : Bool) (k : ℕ) (f : Frame) → slice_get w.sent k ≡ Some f → Goes nodes (drone_admits w keeps n (w.drone n) f) m
  frame_goes keeps k f e =
      by_test (λ v. Goes nodes v m) (nat_lt ((w.drone n).last f.from) f.timestamp) _ _
      (λ h.
      let r : DroneStep = drone_takes keeps (w.drone n).state f.from f.message in
      goes nodes sound w m n f.from f.timestamp (max (w.drone n).next f.timestamp) r.drone r.answer all drone r.event (frame_steps keeps k f e (less _ _ h)))
      (λ _. quiet_world nodes w m all)

  -- one with this index, if there is one
  pub coming_goes : (keeps : Bool) (k : ℕ) (f : Option Frame) → slice_get w.sent k ≡ f → Goes nodes (to_drone w keeps n f) m
  coming_goes keeps k None e = quiet_world nodes w m all
  coming_goes keeps k (Some f) e = frame_goes keeps k f e
