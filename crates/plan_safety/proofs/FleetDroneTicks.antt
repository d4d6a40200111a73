-- A drone's tick, its clock, its messages of other services and its restart, in the whole world.
use Rattle.std.proofs.Common.{◌≡◌, ◌≢◌, ℕ, ◌+◌, ◌≤◌, ◌⊎◌, inl, inr, Bool, true, false, if◌then◌else◌, nat_lt, List, [], ◌∷◌, Option, Some, None, refl, sym, subst, arith, ◌∙◌}
use Rattle.std.specs.Prelude.{max}
use Rattle.mav_names.specs.declared.names.Stream.{Stream}
use Rattle.plan_items.specs.declared.items.Item.{Item}
use Rattle.plan_items.specs.declared.messages.PlanMsg.{PlanMsg}
use Rattle.plan_upload.specs.Addresses.{same_stream}
use Rattle.plan_upload.specs.Plans.{plan_at}
use Rattle.plan_upload.specs.Drone.{DroneState, DroneTick, Upload, Download, waited, upload_waits, drone_tick, idle_limit}
use Rattle.plan_safety.specs.World.{Nodes, Distinct, World, DroneNode, frame_of, quiet, drone_ticked, tick_answer, drone_speaks, restarted}
use Rattle.plan_safety.specs.Store.{Store, Restarted, Transaction, Fresh, Closed, at, lose, does}
use Rattle.plan_safety.proofs.Keys.{by_test, stream_eq, apart}
use Rattle.plan_safety.proofs.Part.{again_same, Copies, Part, Moments, Inv, truths_keep, keeps_truth, pair_of, subject, gathers_more, operates_more}
use Rattle.plan_safety.proofs.Pair.{Pair, speaks}
use Rattle.plan_safety.proofs.DroneSide as side
use Rattle.plan_safety.proofs.Leaf.{part_says}
use Rattle.plan_safety.proofs.DroneDownloads.{on_download}
use Rattle.plan_safety.proofs.DroneOther.{same_unmoved}
use Rattle.plan_safety.proofs.DroneTick.{Elsewhere, on_later, on_tick, on_restart}
use Rattle.plan_safety.proofs.Fleet.{All, part, part_of, hidden, view_transaction, Owner, not_both, names_differ}
use Rattle.plan_safety.proofs.FleetMoves.{Goes, plus, FrameOf, drone_moves}
use Rattle.plan_safety.proofs.FleetDrone.{says_frame, says_node, sends_is}

max_more : (a b : ℕ) → a ≤ max a b
max_more a b = omega arith

-- an aging download is a copy of the same plan, or closed
waited_copies : (s : Stream) (k : ℕ) (x : List Item) (c : Option Download) → Copies s k x c → Copies s k x (waited c)
waited_copies s k x None h = tt
waited_copies s k x (Some c) h = by_test (Copies s k x) (nat_lt (c.idle + 1) idle_limit) (Some (record c { idle = c.idle + 1 })) None (λ _. h) (λ _. tt)

-- what is lost, as the pairs see it
lose_view : (n : Stream) (o : Transaction) → (b : Bool) × (view_transaction n (lose n o) ≡ record (view_transaction n o) { lost = b }) × ((b ≡ true) ⊎ ((view_transaction n o).stage ≡ Closed))
lose_view n o = by_both (same_stream o.drone n) refl
  where
    by_both : (a : Bool) → same_stream o.drone n ≡ a → (b : Bool) × (view_transaction n (if a then record o { lost = true } else o) ≡ record (if a then o else hidden o) { lost = b }) × ((b ≡ true) ⊎ ((if a then o else hidden o).stage ≡ Closed))
    by_both true e = (true, rw e refl, inl refl)
    by_both false e = (false, rw e refl, inr refl)

-- for another drone nothing is lost
far_lose : (n d : Stream) (o : Transaction) → d ≢ n → view_transaction d (lose n o) ≡ view_transaction d o
far_lose n d o far =
    by_test (λ x. view_transaction d x ≡ view_transaction d o) (same_stream o.drone n) (record o { lost = true }) o
    (λ e. unseen (apart o.drone d (λ z. far (sym z ∙ stream_eq _ _ e))))
    (λ _. refl)
  where
    unseen : same_stream o.drone d ≡ false → view_transaction d (record o { lost = true }) ≡ view_transaction d o
    unseen e = rw e refl

-- the drone sends a message of another service
on_spoken : (d s : Stream) → d ≢ s → (p : Part) (g : Moments) → Inv d s p g → Inv d s (record p { drone_next = p.drone_next + 1; sent = frame_of d p.drone_next None ∷ p.sent }) g
on_spoken d s ne p g i =
    let q : Pair = pair_of s p g in
    let j = subject p.transaction p.opening in
    record {
      facts = side.speaks_facts q i.facts;
      truths = (
        record { drone = λ _ h. absurd h; shows = λ _ h. absurd h; last = λ _ h. absurd h; accepts = λ _ h. absurd h; station = λ x _. absurd (ne x); named = λ x _. absurd (ne x); by_drone = λ _. omega arith; by_station = λ x. absurd (ne x) },
        truths_keep d s q (speaks q) j j (keeps_truth d s q (speaks q) j (record { drone_next = omega arith; station_next = omega arith; shows = λ a b. (a, refl); again = again_same _ _ refl refl refl (omega arith); drone = λ u x. side.speaks_drone q u x i.facts; station = λ ck k t l u x. side.speaks_station q ck k t l u x i.facts })) p.sent i.truths,
      );
      upload = gathers_more d s p.sent _ p.transaction p.drone.upload i.upload;
      operation = operates_more d s p.sent _ p.transaction p.opening p.cancelled p.pings p.operation i.operation;
      for_drone = i.for_drone;
      since = i.since;
      since_count = i.since_count;
      count = λ x. inr (i.count x);
      download = i.download;
      asked = λ x. ((i.asked x).0, inr (i.asked x).1);
      answers = λ ph. (λ _ h. absurd h, i.answers ph);
    }

module _ (nodes : Nodes) (sound : Distinct nodes) (w : World) (m : Store) (n : Stream) (all : All nodes w m) (drone : nodes.is_drone n ≡ true) where
  -- what a tick says is a station's, and harmless
  tick_frame : (d : DroneState) (next : ℕ) (u : Option Upload) → Owner nodes u → FrameOf nodes n (says_frame n next (tick_answer (upload_waits d u).answer))
  tick_frame d next None o = tt
  tick_frame d next (Some u) o =
      by_test (λ (t : DroneTick). FrameOf nodes n (says_frame n next (tick_answer t.answer))) (nat_lt (u.idle + 1) idle_limit) _ _
      (λ _. (refl, λ _. λ e he. sound.apart e u.stream he o.0))
      (λ _. (refl, λ _. tt))

  -- a tick leaves the plans, the owner of the upload, and the system
  tick_plans : (d : DroneState) (u : Option Upload) (k : ℕ) → plan_at (upload_waits (record d { upload = u }) u).drone.plans k ≡ plan_at d.plans k
  tick_plans d None k = refl
  tick_plans d (Some u) k =
      by_test (λ (t : DroneTick). plan_at t.drone.plans k ≡ plan_at d.plans k) (nat_lt (u.idle + 1) idle_limit) _ _
      (λ _. refl)
      (λ _. by_test (λ (e : DroneState). plan_at e.plans k ≡ plan_at d.plans k) (same_stream u.stream u.stream) _ _ (λ _. refl) (λ _. refl))

  tick_owner : (d : DroneState) (u : Option Upload) → Owner nodes u → Owner nodes (upload_waits (record d { upload = u }) u).drone.upload
  tick_owner d None o = o
  tick_owner d (Some u) o =
      by_test (λ (t : DroneTick). Owner nodes t.drone.upload) (nat_lt (u.idle + 1) idle_limit) _ _
      (λ _. o)
      (λ _. by_test (λ (e : DroneState). Owner nodes e.upload) (same_stream u.stream u.stream) _ _ (λ _. tt) (λ _. o))

  tick_sys : (d : DroneState) (u : Option Upload) → (upload_waits (record d { upload = u }) u).drone.sys ≡ d.sys
  tick_sys d None = refl
  tick_sys d (Some u) =
      by_test (λ (t : DroneTick). t.drone.sys ≡ d.sys) (nat_lt (u.idle + 1) idle_limit) _ _
      (λ _. refl)
      (λ _. by_test (λ (e : DroneState). e.sys ≡ d.sys) (same_stream u.stream u.stream) _ _ (λ _. refl) (λ _. refl))

  -- the upload's stream has a name of its own
  elsewhere : (s : Stream) (u : Option Upload) → nodes.is_station s ≡ true → Owner nodes u → Elsewhere s u
  elsewhere s None hs o = tt
  elsewhere s (Some u) hs o = names_differ nodes sound u.stream s (inr o.0) hs

  -- the pair's part of the world after the answer
  as_part : (s : Stream) (e : DroneState) (g : Moments) (a : Option PlanMsg) → Inv n s (part_says n (record (part w m n s) { drone = e }) a) g → Inv n s (part_of n s (says_node (record (w.drone n) { state = e }) a) (w.station s) (m.transaction s) (m.opening s) (m.cancelled s) (plus (says_frame n (w.drone n).next a) w.sent)) g
  as_part s e g None i = i
  as_part s e g (Some a) i = i

  -- an answer leaves the state
  said_state : (x : DroneNode) (a : Option PlanMsg) → (says_node x a).state ≡ x.state
  said_state x None = refl
  said_state x (Some a) = refl

  -- a tick
  pub tick_goes : Goes nodes (drone_ticked w n (w.drone n) (drone_tick (w.drone n).state)) m
  tick_goes =
      let d : DroneState = record (w.drone n).state { download = waited (w.drone n).state.download } in
      let owner = all.owners n drone in
      let t : DroneTick = upload_waits d d.upload in
      let a = tick_answer t.answer in
      let x : DroneNode = record (w.drone n) { state = t.drone } in
      subst (λ z. Goes nodes z m) (sym (sends_is (quiet w) n x a)) (record {
        needs = tt;
        all = drone_moves nodes sound w m m n (says_node x a) (says_frame n (w.drone n).next a) [] all drone (record {
          own = λ s hs.
              let p = all.pairs n s drone hs in
              let r = on_tick n s (not_both nodes sound n s drone hs) (record (part w m n s) { drone = d }) p.0 d.upload (elsewhere s d.upload hs owner) (on_download n s (not_both nodes sound n s drone hs) (part w m n s) p.0 d.download (λ k x z. waited_copies s k x (w.drone n).state.download z) p.1) in
              (r.0, as_part s t.drone r.0 a r.1);
          transactions = λ d s _. refl;
          openings = λ d s _. refl;
          cancels = λ s. refl;
          frame = tick_frame d (w.drone n).next d.upload owner;
          owner = rw (said_state x a) (tick_owner d d.upload owner);
          sys = rw (said_state x a) (tick_sys d d.upload ∙ all.systems n drone);
          fresh = all.transactions;
          at_drone = all.openings;
          plans = λ k l. rw (said_state x a) (tick_plans d d.upload k ∙ all.plans n k l);
          other_plans = λ d k _. refl;
        });
      })

  -- it speaks of other things
  pub speak_goes : Goes nodes (drone_speaks w n (w.drone n)) m
  speak_goes = record {
    needs = tt;
    all = drone_moves nodes sound w m m n (record (w.drone n) { next = (w.drone n).next + 1 }) (Some (frame_of n (w.drone n).next None)) [] all drone (record {
      own = λ s hs. let p = all.pairs n s drone hs in (p.0, on_spoken n s (not_both nodes sound n s drone hs) (part w m n s) p.0 p.1);
      transactions = λ d s _. refl;
      openings = λ d s _. refl;
      cancels = λ s. refl;
      frame = (refl, λ _. tt);
      owner = all.owners n drone;
      sys = all.systems n drone;
      fresh = all.transactions;
      at_drone = all.openings;
      plans = λ k l. all.plans n k l;
      other_plans = λ d k _. refl;
    });
  }

  -- its clock goes on
  pub wait_goes : (t : ℕ) → Goes nodes (record (quiet w) { drone = at w.drone n (record (w.drone n) { next = max (w.drone n).next t }) }) m
  wait_goes t = record {
    needs = tt;
    all = drone_moves nodes sound w m m n (record (w.drone n) { next = max (w.drone n).next t }) None [] all drone (record {
      own = λ s hs. let p = all.pairs n s drone hs in (p.0, on_later n s (not_both nodes sound n s drone hs) (part w m n s) p.0 (w.drone n).state (max (w.drone n).next t) p.1 (same_unmoved s (w.drone n).state) (max_more _ _));
      transactions = λ d s _. refl;
      openings = λ d s _. refl;
      cancels = λ s. refl;
      frame = tt;
      owner = all.owners n drone;
      sys = all.systems n drone;
      fresh = all.transactions;
      at_drone = all.openings;
      plans = λ k l. all.plans n k l;
      other_plans = λ d k _. refl;
    });
  }

  -- it starts again
  pub restart_goes : (low : ℕ) → Goes nodes (record w { drone = at w.drone n (restarted (w.drone n) low); news = Restarted n ∷ [] }) m
  restart_goes low =
      let x : DroneNode = restarted (w.drone n) low in
      record {
        needs = (tt, tt);
        all = drone_moves nodes sound w m (does m (Restarted n)) n x None (Restarted n ∷ []) all drone (record {
          own = λ s hs. let p = all.pairs n s drone hs in let l = lose_view n (m.transaction s) in (
            p.0,
            subst (λ o. Inv n s (record (part w m n s) { drone = x.state; drone_last = x.last s; drone_next = x.next; transaction = o }) p.0) (sym l.1)
                (on_restart n s (not_both nodes sound n s drone hs) (part w m n s) p.0 (x.last s) x.next l.0 p.1 (max_more _ _) (max_more _ _) l.2),
          );
          transactions = λ d s far. far_lose n d (m.transaction s) far;
          openings = λ d s _. refl;
          cancels = λ s. refl;
          frame = tt;
          owner = tt;
          sys = all.systems n drone;
          fresh = λ s hs. by_test (λ (o : Transaction). o.stage ≡ Fresh → nodes.is_drone o.drone ≡ true) (same_stream (m.transaction s).drone n) (record (m.transaction s) { lost = true }) (m.transaction s) (λ _. all.transactions s hs) (λ _. all.transactions s hs);
          at_drone = all.openings;
          plans = λ k l. all.plans n k l;
          other_plans = λ d k _. refl;
        });
      }
