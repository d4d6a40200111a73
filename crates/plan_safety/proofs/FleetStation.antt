-- A step of one station, over all pairs.
use Rattle.std.proofs.Common.{◌≡◌, ◌≢◌, ℕ, ◌+◌, ◌<◌, ◌≤◌, ◌⊎◌, inl, inr, true, List, ◌∷◌, Option, Some, None, refl, sym, subst, arith, ◌∙◌}
use Rattle.mav_names.specs.declared.names.Name.{Name}
use Rattle.mav_names.specs.declared.names.Stream.{Stream}
use Rattle.plan_items.specs.declared.messages.PlanMsg.{PlanMsg}
use Rattle.plan_items.specs.declared.messages.PlanMsg.TheVariants.{Count, Request, Item as Give, Ack, List as Listing, Clear, Ping}
use Rattle.plan_upload.specs.Addresses.{same_stream, node_of, everyone, is_for_drone}
use Rattle.plan_upload.specs.Station.{StationState, Operation, Told, is_synced}
use Rattle.plan_safety.specs.Frames.{Frame}
use Rattle.plan_safety.specs.World.{Nodes, Distinct, World, StationNode, frame_of, station_sends}
use Rattle.plan_safety.specs.Store.{Store, StoreEvent, Transaction, Stage, Fresh, In_place, Closed, at}
use Rattle.plan_safety.proofs.Keys.{by_test, same, apart, split, drone_not_everyone}
use Rattle.plan_safety.proofs.Pair.{Pair, Facts}
use Rattle.plan_safety.proofs.Part.{Part, Moments, Inv, Truth, Subject, Reaches, subject, pair_of, stage_number, gathers_more}
use Rattle.plan_safety.proofs.StationNews.{StationNews, Acted, with_station, part_sends, OfDrone, ForDrone, SendsTo, station_transaction, station_opening, station_cancelled}
use Rattle.plan_safety.proofs.StationBegin.{on_elsewhere}
use Rattle.plan_safety.proofs.Fleet.{hidden, All, part, part_of, view_transaction, view_opening, view_operation, OfDrones, AtDrone, not_both, drones_differ}
use Rattle.plan_safety.proofs.FleetMoves.{plus, FrameOf, station_moves}
use Rattle.plan_safety.proofs.FleetDrone.{says_frame}

abbrev pub says_node : StationNode → Option PlanMsg → StationNode
says_node y None = y
says_node y (Some a) = record y { next = y.next + 1 }

-- what it sends, as a frame and a node
pub sends_is : (w : World) (s : Stream) (y : StationNode) (a : Option PlanMsg) → station_sends w s y a ≡ record { drone = w.drone; station = at w.station s (says_node y a); sent = plus (says_frame s y.next a) w.sent; news = w.news }
sends_is w s y None = refl
sends_is w s y (Some a) = refl

-- the drone of the operation sees it, and another doesn't
pub view_own : (d : Stream) (o : Option Operation) → OfDrone d o → view_operation d o ≡ o
view_own d None h = refl
view_own d (Some o) h = rw (test d o.drone h) refl
  where
    test : (d e : Stream) → e ≡ d → same_stream e d ≡ true
    test d e h = rw h (same d)

view_else : (d e : Stream) (o : Option Operation) → OfDrone d o → e ≢ d → view_operation e o ≡ None
view_else d e None h far = refl
view_else d e (Some o) h far = rw (apart o.drone e (λ z. far (sym z ∙ h))) refl

-- when it began is seen by all
view_since : (d : Stream) (o : Transaction) → (view_transaction d o).since ≡ o.since
view_since d o = by_test (λ v. v.since ≡ o.since) (same_stream o.drone d) o (hidden o) (λ _. refl) (λ _. refl)

-- the range of stages
stage_two : (s : Stage) → stage_number s ≤ 2
stage_two Fresh = omega arith
stage_two In_place = omega arith
stage_two Closed = omega arith

-- without an operation nothing is resynchronised, and nothing is fresh
not_attempt : (q : Pair) → Facts q → q.work ≡ 0 → 0 < q.first_ping → ⊥
not_attempt q f h x = grind arith

not_fresh : (q : Pair) → Facts q → q.work ≡ 0 → q.stage ≢ 1
not_fresh q f h = grind arith

-- a frame that the drone does not hear
unheard_truth : {earlier : List Frame} (d s : Stream) (q : Pair) (j : Subject) (t : ℕ) (m : PlanMsg) → d ≢ s → t < q.station_next → (Reaches d (Some m) → ⊥) → Truth d s q j (frame_of s t (Some m)) earlier
unheard_truth d s q j t m ne l h = record {
  drone = λ x _. absurd (ne (sym x));
  shows = λ x _. absurd (ne (sym x));
  last = λ x _. absurd (ne (sym x));
  accepts = λ x _. absurd (ne (sym x));
  station = λ _ r. absurd (h r);
  named = λ _ r. absurd (h r);
  by_drone = λ x. absurd (ne (sym x));
  by_station = λ _. l;
}

-- what is for one drone is not for another
not_for : (d e : Stream) (to : Name) → (is_for_drone d.sys (node_of e) ≡ true → ⊥) → node_of e ≢ everyone → to ≡ node_of e → (is_for_drone d.sys to ≡ true) ⊎ (to ≡ everyone) → ⊥
not_for d e to far named is (inl h) = far (subst (λ x. is_for_drone d.sys x ≡ true) is h)
not_for d e to far named is (inr h) = named (sym is ∙ h)

-- a frame for another drone, or a PING
other_truth : {earlier : List Frame} (d s e : Stream) (q : Pair) (j : Subject) (t : ℕ) (m : PlanMsg) → d ≢ s → t < q.station_next → Facts q → q.work ≡ 0 → (is_for_drone d.sys (node_of e) ≡ true → ⊥) → node_of e ≢ everyone → ForDrone e m → ((to : Name) (usec n : ℕ) → m ≡ Ping to usec n → n < q.next_ping) → Truth d s q j (frame_of s t (Some m)) earlier
other_truth d s e q j t (Ping to usec n) ne l f idle far named to_e used = record {
  drone = λ x _. absurd (ne (sym x));
  shows = λ x _. absurd (ne (sym x));
  last = λ x _. absurd (ne (sym x));
  accepts = λ x _. absurd (ne (sym x));
  station = λ _ _. (l, used to usec n refl, λ x. absurd (not_attempt q f idle x));
  named = λ _ _. tt;
  by_drone = λ x. absurd (ne (sym x));
  by_station = λ _. l;
}
other_truth d s e q j t (Count to i k) ne l f idle far named to_e used = unheard_truth d s q j t (Count to i k) ne l (not_for d e to far named to_e)
other_truth d s e q j t (Request to i k) ne l f idle far named to_e used = unheard_truth d s q j t (Request to i k) ne l (not_for d e to far named to_e)
other_truth d s e q j t (Ack to i k) ne l f idle far named to_e used = unheard_truth d s q j t (Ack to i k) ne l (not_for d e to far named to_e)
other_truth d s e q j t (Give to i k x) ne l f idle far named to_e used = unheard_truth d s q j t (Give to i k x) ne l (not_for d e to far named to_e)
other_truth d s e q j t (Clear to k) ne l f idle far named to_e used = unheard_truth d s q j t (Clear to k) ne l (not_for d e to far named to_e)
other_truth d s e q j t (Listing to k) ne l f idle far named to_e used = unheard_truth d s q j t (Listing to k) ne l (not_for d e to far named to_e)

-- the numbers of PINGs that are sent are used
ping_used : {earlier : List Frame} (d s e : Stream) (q : Pair) (j : Subject) (t : ℕ) (m : PlanMsg) → ForDrone e m → Truth e s q j (frame_of s t (Some m)) earlier → (to : Name) (usec n : ℕ) → m ≡ Ping to usec n → n < q.next_ping
ping_used {earlier = earlier} d s e q j t m to_e h to usec n is =
    subst (λ x. ForDrone e x → Truth e s q j (frame_of s t (Some x)) earlier → n < q.next_ping) (sym is) (λ to_e h. (h.station refl (inr to_e)).1) to_e h

-- what the store is afterwards, for each pair
pub record Views (nodes : Nodes) (m m' : Store) (s e : Stream) (now later : ℕ) (x : StationNews) : Type 0 where
  pub transaction : view_transaction e (m'.transaction s) ≡ station_transaction e now later (view_transaction e (m.transaction s)) x
  pub opening : view_opening e (m'.opening s) ≡ station_opening later (view_opening e (m.opening s)) x
  pub cancelled : m'.cancelled s ≡ station_cancelled (m.cancelled s) x
  pub quiet : (d : Stream) → d ≢ e → stage_number (view_transaction d (m.transaction s)).stage ≢ 1 → stage_number (view_transaction d (m'.transaction s)).stage ≢ 1
  pub since : (m.transaction s).since ≤ now → (m'.transaction s).since ≤ now
  pub far_opening : (d : Stream) → d ≢ e → view_opening d (m'.opening s) ≡ view_opening d (m.opening s)
  pub else_transaction : (u : Stream) → u ≢ s → m'.transaction u ≡ m.transaction u
  pub else_opening : (u : Stream) → u ≢ s → m'.opening u ≡ m.opening u
  pub else_cancelled : (u : Stream) → u ≢ s → m'.cancelled u ≡ m.cancelled u
  pub fresh : (m'.transaction s).stage ≡ Fresh → nodes.is_drone (m'.transaction s).drone ≡ true
  pub at_drone : AtDrone nodes (m'.opening s)
  pub plans : (d : Stream) (k : ℕ) → m'.plan d k ≡ m.plan d k

module _ (nodes : Nodes) (sound : Distinct nodes) (w : World) (m m' : Store) (s e : Stream) (next : ℕ) (last : Stream → ℕ) (t : StationState) (a : Option PlanMsg) (told : Option Told) (x : StationNews) (news : List StoreEvent) (all : All nodes w m) (station : nodes.is_station s ≡ true) (drone : nodes.is_drone e ≡ true) (same_last : (d : Stream) → d ≢ e → last d ≡ (w.station s).last d) (later : (w.station s).next ≤ next) (before : OfDrone e (w.station s).state.operation) (h : Acted e s (w.station s).state (with_station e (record (part w m e s) { station_last = last e; station_next = next }) (w.station s).state) (record { station = t; answer = a; told = told }) x) (v : Views nodes m m' s e next (w.drone e).next x) where
  abbrev node : StationNode
  node = record { state = t; last = last; next = next }

  -- the part with the drone of the operation, before it sends
  abbrev near : Part
  near = record (part w m e s) { operation = t.operation; synced = is_synced t.synced e; pings = t.pings; station_last = last e; station_next = next; transaction = station_transaction e next (w.drone e).next (view_transaction e (m.transaction s)) x; opening = station_opening (w.drone e).next (view_opening e (m.opening s)) x; cancelled = station_cancelled (m.cancelled s) x }

  -- the pair with the drone of the operation
  own_pair : (g : Moments) (b : Option PlanMsg) → Inv e s (part_sends s near b) g → Inv e s (part_of e s (w.drone e) (says_node node b) (m'.transaction s) (m'.opening s) (m'.cancelled s) (plus (says_frame s next b) w.sent)) g
  own_pair g None i =
      subst (λ z. Inv e s (record near { operation = z; transaction = view_transaction e (m'.transaction s); opening = view_opening e (m'.opening s); cancelled = m'.cancelled s }) g) (sym (view_own e t.operation h.of_drone))
      (subst (λ z. Inv e s (record near { transaction = z; opening = view_opening e (m'.opening s); cancelled = m'.cancelled s }) g) (sym v.transaction)
      (subst (λ z. Inv e s (record near { opening = z; cancelled = m'.cancelled s }) g) (sym v.opening)
      (subst (λ z. Inv e s (record near { cancelled = z }) g) (sym v.cancelled) i)))
  own_pair g (Some b) i =
      let p : Part = part_sends s near (Some b) in
      subst (λ z. Inv e s (record p { operation = z; transaction = view_transaction e (m'.transaction s); opening = view_opening e (m'.opening s); cancelled = m'.cancelled s }) g) (sym (view_own e t.operation h.of_drone))
      (subst (λ z. Inv e s (record p { transaction = z; opening = view_opening e (m'.opening s); cancelled = m'.cancelled s }) g) (sym v.transaction)
      (subst (λ z. Inv e s (record p { opening = z; cancelled = m'.cancelled s }) g) (sym v.opening)
      (subst (λ z. Inv e s (record p { cancelled = z }) g) (sym v.cancelled) i)))

  -- no operation is seen
  no_work : (d : Stream) (g : Moments) (o : Option Operation) → o ≡ None → (pair_of s (record (part w m d s) { operation = o }) g).work ≡ 0
  no_work d g None e = refl
  no_work d g (Some o) e = absurd (cc)

  -- the part with another drone, before the station sends
  abbrev far_part : Stream → Part
  far_part d = record (part w m d s) { operation = None; synced = is_synced t.synced d; pings = t.pings; station_next = next; transaction = view_transaction d (m'.transaction s); cancelled = m'.cancelled s }

  -- the pair with another drone: before a frame is sent, after it, and as the world has it
  far_before : (d : Stream) (g : Moments) → d ≢ s → d ≢ e → Inv d s (part w m d s) g → Inv d s (far_part d) g
  far_before d g ne far i =
      let none : (part w m d s).operation ≡ None = view_else e d (w.station s).state.operation before far in
      let q : Pair = pair_of s (part w m d s) g in
      let j = on_elsewhere d s ne (part w m d s) g t.pings next (view_transaction d (m'.transaction s)) (is_synced t.synced d) (m'.cancelled s) i none h.pings later
      (v.quiet d far (not_fresh q i.facts (no_work d g (part w m d s).operation none))) (stage_two _)
      (rw (view_since d (m'.transaction s)) (v.since (let z = i.since in let a : (m.transaction s).since ≤ (w.station s).next = subst (λ n. n ≤ (w.station s).next) (view_since d (m.transaction s)) z in omega arith))) (h.synced d far) in
      subst (λ z. Inv d s (record (far_part d) { operation = z }) g) none j

  -- the number of a PING that it sends
  used : (b : Option PlanMsg) (g : Moments) → Inv e s (part_sends s near b) g → SendsTo e b → (c : PlanMsg) → b ≡ Some c → (to : Name) (usec n : ℕ) → c ≡ Ping to usec n → n < t.pings + 1
  used None g i to c is = absurd (cc)
  used (Some b) g i to c is =
      let z : b ≡ c = cc in
      let p : Part = part_sends s near (Some b) in
      subst (λ c. (to : Name) (usec n : ℕ) → c ≡ Ping to usec n → n < t.pings + 1) z (ping_used e s e (pair_of s p g) (subject p.transaction p.opening) next b to i.truths.0)

  far_after : (d : Stream) (g : Moments) (b : Option PlanMsg) → nodes.is_drone d ≡ true → d ≢ e → Inv d s (far_part d) g → SendsTo e b → ((c : PlanMsg) → b ≡ Some c → (to : Name) (usec n : ℕ) → c ≡ Ping to usec n → n < t.pings + 1) → Inv d s (record (far_part d) { station_next = (says_node node b).next; sent = plus (says_frame s next b) w.sent }) g
  far_after d g None hd far i to number = i
  far_after d g (Some b) hd far i to number =
      let ne = not_both nodes sound d s hd station in
      let p : Part = record (far_part d) { station_next = next + 1 } in
      let j = on_elsewhere d s ne (far_part d) g t.pings (next + 1) (view_transaction d (m'.transaction s)) (is_synced t.synced d) (m'.cancelled s) i refl (omega arith) (omega arith) (not_fresh (pair_of s (far_part d) g) i.facts refl) (stage_two _) (let z = i.since in omega arith) (omega arith) in
      record {
        facts = j.facts;
        truths = (
          other_truth d s e (pair_of s p g) (subject p.transaction p.opening) next b ne (omega arith) j.facts refl (drones_differ nodes sound d e hd drone far) (drone_not_everyone e (sound.component e drone)) to (number b refl),
          j.truths,
        );
        upload = gathers_more d s w.sent _ p.transaction p.drone.upload j.upload;
        operation = tt;
        for_drone = j.for_drone;
        since = j.since;
        since_count = j.since_count;
        count = λ x. inr (j.count x);
        download = j.download;
        asked = λ x. ((j.asked x).0, inr (j.asked x).1);
        answers = λ ph. (λ x _. absurd (ne (sym x)), j.answers ph);
      }

  far_pair : (d : Stream) (g : Moments) (b : Option PlanMsg) → d ≢ e → Inv d s (record (far_part d) { station_next = (says_node node b).next; sent = plus (says_frame s next b) w.sent }) g → Inv d s (part_of d s (w.drone d) (says_node node b) (m'.transaction s) (m'.opening s) (m'.cancelled s) (plus (says_frame s next b) w.sent)) g
  far_pair d g None far i =
      subst (λ z. Inv d s (record (far_part d) { operation = z; station_last = last d; opening = view_opening d (m'.opening s) }) g) (sym (view_else e d t.operation h.of_drone far))
      (subst (λ z. Inv d s (record (far_part d) { station_last = z; opening = view_opening d (m'.opening s) }) g) (sym (same_last d far))
      (subst (λ z. Inv d s (record (far_part d) { opening = z }) g) (sym (v.far_opening d far)) i))
  far_pair d g (Some b) far i =
      let fs = frame_of s next (Some b) ∷ w.sent in
      subst (λ z. Inv d s (record (far_part d) { operation = z; station_last = last d; station_next = next + 1; opening = view_opening d (m'.opening s); sent = fs }) g) (sym (view_else e d t.operation h.of_drone far))
      (subst (λ z. Inv d s (record (far_part d) { station_last = z; station_next = next + 1; opening = view_opening d (m'.opening s); sent = fs }) g) (sym (same_last d far))
      (subst (λ z. Inv d s (record (far_part d) { station_next = next + 1; opening = z; sent = fs }) g) (sym (v.far_opening d far)) i))

  -- each pair of the station
  each_pair : (d : Stream) → nodes.is_drone d ≡ true → (g : Moments) × Inv d s (part_of d s (w.drone d) (says_node node a) (m'.transaction s) (m'.opening s) (m'.cancelled s) (plus (says_frame s next a) w.sent)) g
  each_pair d hd = elim (split e d) [
    | inl is ↦ subst (λ d. (g : Moments) × Inv d s (part_of d s (w.drone d) (says_node node a) (m'.transaction s) (m'.opening s) (m'.cancelled s) (plus (says_frame s next a) w.sent)) g) (sym is) (h.moments, own_pair h.moments a h.inv)
    | inr far ↦
        let p = all.pairs d s hd station in
        (p.0, far_pair d p.0 a far (far_after d p.0 a hd far (far_before d p.0 (not_both nodes sound d s hd station) far p.1) h.sends_to (used a h.moments h.inv h.sends_to)))
  ]

  -- the frame is harmless
  framed : (b : Option PlanMsg) → FrameOf nodes s (says_frame s next b)
  framed None = tt
  framed (Some b) = (refl, λ is. absurd (not_both nodes sound s s is station refl))

  -- the node's state
  stated : (b : Option PlanMsg) → (says_node node b).state ≡ t
  stated None = refl
  stated (Some b) = refl

  -- the operation is at a drone
  at_drones : (o : Option Operation) → OfDrone e o → OfDrones nodes o
  at_drones None h = tt
  at_drones (Some o) h = subst (λ z. nodes.is_drone z ≡ true) (sym h) drone

  -- what holds of the whole world holds after the step
  pub steps : All nodes (station_sends (record w { news = news }) s node a) m'
  steps =
      subst (λ z. All nodes z m') (sym (sends_is (record w { news = news }) s node a))
      (station_moves nodes sound w m m' s (says_node node a) (says_frame s next a) news all station (record {
        own = each_pair;
        transactions = v.else_transaction;
        openings = v.else_opening;
        cancels = v.else_cancelled;
        frame = framed a;
        name = rw (stated a) (h.me ∙ all.names s station);
        operation = rw (stated a) (at_drones t.operation h.of_drone);
        fresh = v.fresh;
        at_drone = v.at_drone;
        plans = v.plans;
      }))
