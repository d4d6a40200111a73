-- A frame that comes to a station, its calls, its tick and its clock, in the whole world.
use Rattle.std.proofs.Common.{◌≡◌, ◌≢◌, ℕ, ◌+◌, ◌<◌, ◌≤◌, inl, inr, Bool, true, false, if◌then◌else◌, ◌&&◌, nat_lt, List, [], ◌∷◌, Option, Some, None, refl, sym, ap, subst, arith, ◌∙◌}
use Rattle.std.specs.Prelude.{slice_get, max}
use Rattle.mav_names.specs.declared.names.Name.{Name}
use Rattle.mav_names.specs.declared.names.Stream.{Stream}
use Rattle.plan_items.specs.declared.items.Item.{Item}
use Rattle.plan_items.specs.declared.messages.PlanMsg.{PlanMsg}
use Rattle.plan_items.specs.declared.messages.PlanMsg.TheVariants.{Ack}
use Rattle.plan_upload.specs.Addresses.{same_stream, same_name, node_of}
use Rattle.plan_items.specs.declared.kinds.PlanKind.{PlanKind}
use Rattle.plan_items.specs.Kinds.{number_of}
use Rattle.plan_upload.specs.declared.faults.OpFault.{OpFault}
use Rattle.plan_upload.specs.declared.faults.OpFault.TheVariants.{PingsSpent}
use Rattle.plan_upload.specs.Refusals.{busy_with, first_of, spent, empty_plan, unfit, upload_refusal, refusal}
use Rattle.plan_upload.specs.Station.{StationState, StationStep, Operation, Uploads, Clears, Gets, Phase, Pinging, Cancelling, Sending, Clearing, Listing_items, Getting, Told, last_ping, stays, untold, addressee, phase_step, operation_step, operation_tick, station_tick, operation_cancel, phase_cancel, station_cancel, begins, operation_of, begin_upload, begin_clear, begin_get, is_synced}
use Rattle.plan_safety.specs.Frames.{Frame, Said}
use Rattle.plan_safety.specs.World.{Nodes, Distinct, World, StationNode, frame_of, quiet, station_sends, station_does, station_calls, outcome_news, cancel_news, clear_number, unless_refused, station_takes, station_steps, station_admits, to_station, station_speaks}
use Rattle.plan_safety.specs.Store.{Store, StoreEvent, Upload_begun, Clear_begun, Get_begun, Cancelled, RefusedWith, at}
use Rattle.plan_safety.proofs.Keys.{by_test, name_eq, stream_eq, less, both_true, split, at_same, at_apart}
use Rattle.plan_safety.proofs.Pair.{Pair, Facts, SentByDrone, IsVerdict, hears, later_station, a_count, an_ack}
use Rattle.plan_safety.proofs.StationSide as side
use Rattle.plan_safety.proofs.Part.{Shows, shows_again, kind_of, shown_of, IsTo, Part, Moments, Inv, subject, pair_of, truth_at, said_at, truths_keep, keeps_truth, again_same, Accepts, emptied_of, gathers_more, operates_more}
use Rattle.plan_safety.proofs.Acknowledgements.{settled_at, IsAbout, answered_at}
use Rattle.plan_safety.proofs.StationNews.{StationNews, Begins_upload, Begins_clear, Begins_get, Cancels, news_of, Acted, Heeds, with_station, OfDrone}
use Rattle.plan_safety.proofs.StationCases.{with_operation, attempt_reported}
use Rattle.plan_safety.proofs.StationStep.{Heard, Concludes, inv_heard, on_hears, on_cancel, on_tick}
use Rattle.plan_safety.proofs.StationBegin.{on_begin, on_clear, on_get}
use Rattle.plan_safety.proofs.Fleet.{All, part, part_of, view_operation, OfDrones, not_both}
use Rattle.plan_safety.proofs.FleetMoves.{Goes, station_moves}
use Rattle.plan_safety.proofs.FleetStation.{view_own}
use Rattle.plan_safety.proofs.FleetStationAll.{IsBegin, store_news, goes}
use Rattle.plan_safety.proofs.FleetDroneEvents.{quiet_world}

max_more : (a b : ℕ) → a ≤ max a b
max_more a b = omega arith

-- only the next timestamp of the station rises
on_later : (d s : Stream) (p : Part) (g : Moments) (n : ℕ) → Inv d s p g → p.station_next ≤ n → Inv d s (record p { station_next = n }) g
on_later d s p g n i more =
    let q : Pair = pair_of s p g in
    let j = subject p.transaction p.opening in
    record {
      facts = side.later_station_facts q n i.facts more;
      truths = truths_keep d s q (later_station q n) j j (keeps_truth d s q (later_station q n) j (record { drone_next = omega arith; station_next = more; shows = λ a b. (a, refl); again = again_same _ _ refl refl refl (omega arith); drone = λ v x. side.later_station_drone q n v x i.facts more; station = λ ck k l y v x. side.later_station_station q n ck k l y v x i.facts more })) p.sent i.truths;
      upload = i.upload;
      operation = i.operation;
      for_drone = i.for_drone;
      since = (let z = i.since in omega arith);
      since_count = i.since_count;
      count = i.count;
      download = i.download;
      asked = i.asked;
      answers = i.answers;
    }

-- the station sends a message of another service
on_spoken : (d s : Stream) → d ≢ s → (p : Part) (g : Moments) → Inv d s p g → Inv d s (record p { station_next = p.station_next + 1; sent = frame_of s p.station_next None ∷ p.sent }) g
on_spoken d s ne p g i =
    let j = on_later d s p g (p.station_next + 1) i (omega arith) in
    record {
      facts = j.facts;
      truths = (record { drone = λ e _. absurd (ne (sym e)); shows = λ e _. absurd (ne (sym e)); last = λ e _. absurd (ne (sym e)); accepts = λ e _. absurd (ne (sym e)); station = λ _ h. absurd h; named = λ _ h. absurd h; by_drone = λ e. absurd (ne (sym e)); by_station = λ _. omega arith }, j.truths);
      upload = gathers_more d s p.sent (frame_of s p.station_next None) p.transaction p.drone.upload j.upload;
      operation = operates_more d s p.sent (frame_of s p.station_next None) p.transaction p.opening p.cancelled p.pings p.operation j.operation;
      for_drone = j.for_drone;
      since = j.since;
      since_count = j.since_count;
      count = λ x. inr (j.count x);
      download = j.download;
      asked = λ x. ((j.asked x).0, inr (j.asked x).1);
      answers = λ ph. (λ e _. absurd (ne (sym e)), j.answers ph);
    }

-- in phase 2 the PING was answered, and the answer was heard
replied : (p : Pair) → Facts p → p.phase ≡ 2 → (0 < p.first_reply) × (p.first_reply ≤ p.station_last)
replied p f ph = (f.phase_replied ph, f.phase_after ph)

-- a verdict that comes shows that nothing was shown
unlisted : (q : Pair) (t : ℕ) → Facts q → q.station_last < t → 4 < q.phase → t ≡ q.last_verdict → q.now_shown ≡ 0
unlisted q t f late get z = grind arith

-- what is known of the message at t, before t was admitted and the next timestamp was n
heard_facts : (q : Pair) (t n : ℕ) (x : Option PlanMsg) → Facts q → q.station_last < t → t < q.drone_next → q.station_next ≤ n → SentByDrone q t x → Heard (record q { station_last = t; station_next = n }) x
heard_facts q t n x f late known more before =
    let h : Facts (hears q t) = side.hears_facts q t f late known in
    record {
      truth = side.later_station_drone (hears q t) n t x h more (side.hears_drone q t t x f late known before);
      reply = λ ph. let l = f.phase_after ph in omega arith;
      request = λ to i k e. (subst (SentByDrone q t) e before).2 late;
      verdict = λ to c k e ph v. (subst (SentByDrone q t) e before).11 ph late v;
      counted = λ to c k e ph v. (subst (SentByDrone q t) e before).12 ph late v;
      job = λ to c k e ph v. job_one q t c k f late ph v (subst (SentByDrone q t) e before);
      count = λ to n k e ph. count_one q t k n f late ph (subst (SentByDrone q t) e before);
      item = λ ph. let l = f.getting_later ph in omega arith;
    }
  where
    job_one : (q : Pair) (t c k : ℕ) → Facts q → q.station_last < t → 3 < q.phase → IsVerdict c → SentByDrone q t (an_ack c k) → (t ≡ q.last_verdict) × (q.last_job ≤ q.drone_last) × (4 < q.phase → q.now_shown ≡ 0)
    job_one q t c k f late ph v h = (job_at q t c k f late ph v h, job_late q t c k f late ph v h, λ get. job_get q t c k f late ph get v h)
      where
        job_at : (q : Pair) (t c k : ℕ) → Facts q → q.station_last < t → 3 < q.phase → IsVerdict c → SentByDrone q t (an_ack c k) → t ≡ q.last_verdict
        job_at q t c k f late ph v h = h.8 ph late v

        job_late : (q : Pair) (t c k : ℕ) → Facts q → q.station_last < t → 3 < q.phase → IsVerdict c → SentByDrone q t (an_ack c k) → q.last_job ≤ q.drone_last
        job_late q t c k f late ph v h = let z = h.8 ph late v in f.clearing_ack ph (omega arith)

        job_get : (q : Pair) (t c k : ℕ) → Facts q → q.station_last < t → 3 < q.phase → 4 < q.phase → IsVerdict c → SentByDrone q t (an_ack c k) → q.now_shown ≡ 0
        job_get q t c k f late ph get v h = let z = h.8 ph late v in unlisted q t f late get z

    count_one : (q : Pair) (t k n : ℕ) → Facts q → q.station_last < t → q.phase ≡ 5 → SentByDrone q t (a_count n k) → (0 < q.now_shown) × (t ≡ q.now_shown)
    count_one q t k n f late ph h = grind arith

-- the part with the station's own operation
own_move : (P : Part → Type 0) (e : Stream) (q : Part) (t : StationState) → OfDrone e t.operation → q.operation ≡ view_operation e t.operation → q.synced ≡ is_synced t.synced e → q.pings ≡ t.pings → P q → P (with_station e q t)
own_move P e q t o a b c i =
    subst (λ z. P (record q { operation = z; synced = is_synced t.synced e; pings = t.pings })) (a ∙ view_own e t.operation o)
    (subst (λ z. P (record q { synced = z; pings = t.pings })) b (subst (λ z. P (record q { pings = z })) c i))

-- no call reports an outcome
begins_reported : (s : StationState) (o : Operation) → (begins s o).told ≡ None
begins_reported s o = by_test (λ (a : StationStep). a.told ≡ None) (is_synced s.synced o.drone) _ _ (λ _. refl) (λ _. attempt_reported (record s { outcome = None }) o)

cancel_reported : (s : StationState) (o : Operation) → (operation_cancel s (Some o)).told ≡ None
cancel_reported s o = by_test (λ (a : StationStep). a.told ≡ None) o.terminating _ _ (λ _. refl) (λ _. by_phase o.phase)
  where
    by_phase : (f : Phase) → (phase_cancel s o f).told ≡ None
    by_phase Pinging = refl
    by_phase Cancelling = refl
    by_phase Sending = attempt_reported s (record o { terminating = true })
    by_phase Clearing = attempt_reported s (record o { terminating = true })
    by_phase Listing_items = attempt_reported s (record o { terminating = true })
    by_phase Getting = attempt_reported s (record o { terminating = true })

-- a step reports an outcome, or nothing
reported_is : (s e : Stream) (now later : ℕ) (told : Option Told) → store_news s e now later (news_of told) ≡ outcome_news s told
reported_is s e now later None = refl
reported_is s e now later (Some told) = refl

-- neither begins an operation
not_begin : (told : Option Told) → IsBegin (news_of told) → ⊥
not_begin None h = h
not_begin (Some told) h = h

-- what a call that is not refused has before it
first_none : (a b : Option OpFault) → first_of a b ≡ None → (a ≡ None) × (b ≡ None)
first_none None b e = (refl, e)
first_none (Some x) b e = absurd (cc)

-- no operation, and a PING number left
idle_none : (o : Option Operation) → busy_with o ≡ None → o ≡ None
idle_none None e = refl
idle_none (Some o) e = absurd (cc)

left_none : (s : StationState) → spent s ≡ None → nat_lt s.pings last_ping ≡ true
left_none s e = go (nat_lt s.pings last_ping) e
  where
    go : (b : Bool) → (if b then None else Some PingsSpent) ≡ None → b ≡ true
    go true e = refl
    go false e = absurd (cc)

-- the same of an upload
upload_free : (s : StationState) (kind : ℕ) (plan : List Item) → upload_refusal s kind plan ≡ None → (s.operation ≡ None) × (nat_lt s.pings last_ping ≡ true)
upload_free s kind plan e =
    let a = first_none (busy_with s.operation) (first_of (empty_plan plan) (first_of (spent s) (unfit kind plan))) e in
    let b = first_none (empty_plan plan) (first_of (spent s) (unfit kind plan)) a.1 in
    let c = first_none (spent s) (unfit kind plan) b.1 in
    (idle_none s.operation a.0, left_none s c.0)

free : (s : StationState) → refusal s ≡ None → (s.operation ≡ None) × (nat_lt s.pings last_ping ≡ true)
free s e = let a = first_none (busy_with s.operation) (spent s) e in (idle_none s.operation a.0, left_none s a.1)

-- a call that is refused changes nothing
pub unless : (nodes : Nodes) (w v : World) (m : Store) (r : Option OpFault) → All nodes w m → (r ≡ None → Goes nodes v m) → Goes nodes (unless_refused r w v) m
unless nodes w v m None all h = h refl
unless nodes w v m (Some fault) all h = quiet_world nodes w m all

module _ (nodes : Nodes) (sound : Distinct nodes) (w : World) (m : Store) (s : Stream) (all : All nodes w m) (station : nodes.is_station s ≡ true) where
  abbrev st : StationState
  st = (w.station s).state

  -- a drone is not this station
  not_here : (e : Stream) → nodes.is_drone e ≡ true → e ≢ s
  not_here e hd = not_both nodes sound e s hd station

  -- the station is as before but for its timestamps and its outcome
  rests : (y : StationNode) → y.state.me ≡ st.me → y.state.operation ≡ st.operation → ((d : Stream) → nodes.is_drone d ≡ true → (g : Moments) → Inv d s (part w m d s) g → Inv d s (part_of d s (w.drone d) y (m.transaction s) (m.opening s) (m.cancelled s) w.sent) g) → Goes nodes (record (quiet w) { station = at w.station s y }) m
  rests y me operation k = record {
    needs = tt;
    all = station_moves nodes sound w m m s y None [] all station (record {
      own = λ d hd. let p = all.pairs d s hd station in (p.0, k d hd p.0 p.1);
      transactions = λ u far. refl;
      openings = λ u far. refl;
      cancels = λ u far. refl;
      frame = tt;
      name = me ∙ all.names s station;
      operation = rw operation (all.operations s station);
      fresh = all.transactions s station;
      at_drone = all.openings s station;
      plans = λ d k. refl;
    });
  }

  -- its clock goes on
  pub wait_goes : (t : ℕ) → Goes nodes (record (quiet w) { station = at w.station s (record (w.station s) { next = max (w.station s).next t }) }) m
  wait_goes t = rests (record (w.station s) { next = max (w.station s).next t }) refl refl (λ d hd g i. on_later d s (part w m d s) g (max (w.station s).next t) i (max_more _ _))

  -- the outcome is handed out
  pub hand_goes : Goes nodes (station_calls w s (w.station s) (stays (untold st)) []) m
  hand_goes = rests (record (w.station s) { state = untold st }) refl refl (λ d hd g i. i)

  -- it stays unchanged
  idle_goes : Goes nodes (station_does w s (w.station s) (stays st) []) m
  idle_goes = rests (w.station s) refl refl (λ d hd g i. i)

  -- it sends a message of another service
  pub speak_goes : Goes nodes (station_speaks w s (w.station s)) m
  speak_goes = record {
    needs = tt;
    all = station_moves nodes sound w m m s (record (w.station s) { next = (w.station s).next + 1 }) (Some (frame_of s (w.station s).next None)) [] all station (record {
      own = λ d hd. let p = all.pairs d s hd station in (p.0, on_spoken d s (not_here d hd) (part w m d s) p.0 p.1);
      transactions = λ u far. refl;
      openings = λ u far. refl;
      cancels = λ u far. refl;
      frame = (refl, λ _. tt);
      name = all.names s station;
      operation = all.operations s station;
      fresh = all.transactions s station;
      at_drone = all.openings s station;
      plans = λ d k. refl;
    });
  }

  -- a step with an operation at the drone e, at a message or a tick
  acts : (e : Stream) (next : ℕ) (last : Stream → ℕ) (a : StationStep) → nodes.is_drone e ≡ true → ((d : Stream) → d ≢ e → last d ≡ (w.station s).last d) → (w.station s).next ≤ next → OfDrone e st.operation → Heeds e s st (with_station e (record (part w m e s) { station_last = last e; station_next = next }) st) a → Goes nodes (station_steps w s (record { state = st; last = last; next = next }) a) m
  acts e next last a drone same_last later before h =
      subst (λ x. Goes nodes (station_sends (record w { news = x }) s (record { state = a.station; last = last; next = next }) a.answer) m) (reported_is s e next (w.drone e).next a.told)
      (goes nodes sound w m s e next last a.station a.answer a.told all station drone same_last later before (news_of a.told) h (λ b. absurd (not_begin a.told b)))

  -- the part with the station's own operation
  own_part : (e : Stream) (q : Part) (g : Moments) (t : StationState) → OfDrone e t.operation → q.operation ≡ view_operation e t.operation → q.synced ≡ is_synced t.synced e → q.pings ≡ t.pings → Inv e s q g → Inv e s (with_station e q t) g
  own_part e q g t o a b c i = own_move (λ z. Inv e s z g) e q t o a b c i

  -- a message, a cancel and a tick with the operation's drone
  hears_own : (e : Stream) (hd : nodes.is_drone e ≡ true) (p : Part) (g : Moments) (t : StationState) (o : Operation) (x : PlanMsg) → o.drone ≡ e → Inv e s (with_station e p (with_operation t (Some o))) g → Heard (pair_of s (with_station e p (with_operation t (Some o))) g) (Some x) → Shows (pair_of s (with_station e p (with_operation t (Some o))) g) (kind_of p.opening) (shown_of p.opening) p.station_last (Some x) → addressee x ≡ node_of s → ((since : ℕ) → since ≤ p.station_last → Said p.sent e since x) → ((to : Name) (c k : ℕ) → x ≡ Ack to c k → (pair_of s (with_station e p (with_operation t (Some o))) g).phase ≡ 3 → IsAbout g.counted g.first_open p.station_last c → RefusedWith p.sent e s p.transaction c) → ((to : Name) (c k : ℕ) → x ≡ Ack to c k → Concludes e s p.sent p.transaction p.opening (pair_of s (with_station e p (with_operation t (Some o))) g) c) → Heeds e s (with_operation t (Some o)) (with_station e p (with_operation t (Some o))) (phase_step (with_operation t (Some o)) o o.phase x)
  hears_own e hd p g t o x is i h sh to said by set =
      subst (λ d. (let u = with_operation t (Some (record o { drone = d })) in Inv e s (with_station e p u) g → Heard (pair_of s (with_station e p u) g) (Some x) → Shows (pair_of s (with_station e p u) g) (kind_of p.opening) (shown_of p.opening) p.station_last (Some x) → Heeds e s u (with_station e p u) (phase_step u (record o { drone = d }) o.phase x))) (sym is)
      (λ i h sh. on_hears e s (not_here e hd) p g t o o.work o.phase x i h sh to said by set) i h sh

  cancels_own : (e : Stream) (hd : nodes.is_drone e ≡ true) (p : Part) (g : Moments) (t : StationState) (o : Operation) → o.drone ≡ e → Inv e s (with_station e p (with_operation t (Some o))) g → Acted e s (with_operation t (Some o)) (with_station e p (with_operation t (Some o))) (operation_cancel (with_operation t (Some o)) (Some o)) Cancels
  cancels_own e hd p g t o is =
      subst (λ d. (let u = with_operation t (Some (record o { drone = d })) in Inv e s (with_station e p u) g → Acted e s u (with_station e p u) (operation_cancel u (Some (record o { drone = d }))) Cancels)) (sym is)
      (on_cancel e s (not_here e hd) p g t o o.phase)

  ticks_own : (e : Stream) (hd : nodes.is_drone e ≡ true) (p : Part) (g : Moments) (t : StationState) (o : Operation) → o.drone ≡ e → Inv e s (with_station e p (with_operation t (Some o))) g → Heeds e s (with_operation t (Some o)) (with_station e p (with_operation t (Some o))) (operation_tick (with_operation t (Some o)) (Some o))
  ticks_own e hd p g t o is =
      subst (λ d. (let u = with_operation t (Some (record o { drone = d })) in Inv e s (with_station e p u) g → Heeds e s u (with_station e p u) (operation_tick u (Some (record o { drone = d }))))) (sym is)
      (on_tick e s (not_here e hd) p g t o o.work o.phase)

  -- a call that reports no outcome
  untold_call : (a : StationStep) (event : StoreEvent) → a.told ≡ None → Goes nodes (station_does w s (w.station s) a (event ∷ [])) m → Goes nodes (station_calls w s (w.station s) a (event ∷ [])) m
  untold_call a event e h = subst (λ x. Goes nodes (station_does w s (w.station s) a (event ∷ outcome_news s x)) m) (sym e) h

  -- what holds of the pair with the drone of the operation
  with_own : (o : Operation) → st.operation ≡ Some o → (hd : nodes.is_drone o.drone ≡ true) × (g : Moments) × Inv o.drone s (with_station o.drone (part w m o.drone s) (with_operation st (Some o))) g
  with_own o is =
      let hd : nodes.is_drone o.drone ≡ true = subst (OfDrones nodes) is (all.operations s station) in
      let p = all.pairs o.drone s hd station in
      (hd, p.0, own_part o.drone (part w m o.drone s) p.0 (with_operation st (Some o)) refl (ap (view_operation o.drone) is) refl refl p.1)

  -- a tick
  tick_goes : (z : Option Operation) → st.operation ≡ z → Goes nodes (station_steps w s (w.station s) (operation_tick st z)) m
  tick_goes None is = idle_goes
  tick_goes (Some o) is =
      let k = with_own o is in
      acts o.drone (w.station s).next (w.station s).last (operation_tick st (Some o)) k.0 (λ d far. refl) (omega arith) (subst (OfDrone o.drone) (sym is) refl)
      (subst (λ z. Heeds o.drone s (with_operation st z) (with_station o.drone (part w m o.drone s) (with_operation st z)) (operation_tick (with_operation st z) (Some o))) (sym is) (ticks_own o.drone k.0 (part w m o.drone s) k.1 st o refl k.2))

  pub station_tick_goes : Goes nodes (station_steps w s (w.station s) (station_tick st)) m
  station_tick_goes = tick_goes st.operation refl

  -- a cancel of its own
  cancel_goes : (z : Option Operation) → st.operation ≡ z → Goes nodes (station_calls w s (w.station s) (operation_cancel st z) (cancel_news s z)) m
  cancel_goes None is = idle_goes
  cancel_goes (Some o) is =
      let k = with_own o is in
      let a = operation_cancel st (Some o) in
      untold_call a (Cancelled s) (cancel_reported st o) (goes nodes sound w m s o.drone (w.station s).next (w.station s).last a.station a.answer a.told all station k.0 (λ d far. refl) (omega arith) (subst (OfDrone o.drone) (sym is) refl) Cancels
      (subst (λ z. Acted o.drone s (with_operation st z) (with_station o.drone (part w m o.drone s) (with_operation st z)) (operation_cancel (with_operation st z) (Some o)) Cancels) (sym is) (cancels_own o.drone k.0 (part w m o.drone s) k.1 st o refl k.2))
      (λ b. absurd b))

  pub station_cancel_goes : Goes nodes (station_calls w s (w.station s) (station_cancel st) (cancel_news s st.operation)) m
  station_cancel_goes = cancel_goes st.operation refl

  -- a call that begins
  begun : (e : Stream) (x : StationNews) (a : StationState → StationStep) → nodes.is_drone e ≡ true → st.operation ≡ None → ((p : Part) (g : Moments) → Inv e s (with_station e p (with_operation st None)) g → Acted e s (with_operation st None) (with_station e p (with_operation st None)) (a (with_operation st None)) x) → Goes nodes (station_does w s (w.station s) (a st) (store_news s e (w.station s).next (w.drone e).next x)) m
  begun e x a hd is h =
      let p = all.pairs e s hd station in
      let q : Part = part w m e s in
      let i = own_part e q p.0 (with_operation st None) tt (ap (view_operation e) is) refl refl p.1 in
      let r = a st in
      goes nodes sound w m s e (w.station s).next (w.station s).last r.station r.answer r.told all station hd (λ d far. refl) (omega arith) (subst (OfDrone e) (sym is) tt) x
      (subst (λ z. Acted e s (with_operation st z) (with_station e q (with_operation st z)) (a (with_operation st z)) x) (sym is) (h q p.0 i))
      (λ _. is)

  -- each call that begins an operation
  pub begin_goes : (e : Stream) (kind : PlanKind) (plan : List Item) → nodes.is_drone e ≡ true → Goes nodes (unless_refused (upload_refusal st (number_of kind) plan) w (station_calls w s (w.station s) (begin_upload st e (number_of kind) plan) (Upload_begun s e (number_of kind) plan (w.station s).next (w.drone e).next ∷ []))) m
  begin_goes e kind plan hd =
      unless nodes w _ m (upload_refusal st (number_of kind) plan) all (λ r.
      let f = upload_free st (number_of kind) plan r in
      untold_call (begin_upload st e (number_of kind) plan) (Upload_begun s e (number_of kind) plan (w.station s).next (w.drone e).next) (begins_reported st (operation_of Uploads e (number_of kind) plan))
      (begun e (Begins_upload (number_of kind) plan) (λ t. begin_upload t e (number_of kind) plan) hd f.0 (λ p g i. on_begin e s (not_here e hd) p g st (number_of kind) plan f.1 i)))

  pub clear_goes : (e : Stream) (kind : Option PlanKind) → nodes.is_drone e ≡ true → Goes nodes (unless_refused (refusal st) w (station_calls w s (w.station s) (begin_clear st e (clear_number kind)) (Clear_begun s e (clear_number kind) (w.drone e).next ∷ []))) m
  clear_goes e kind hd =
      unless nodes w _ m (refusal st) all (λ r.
      let f = free st r in
      untold_call (begin_clear st e (clear_number kind)) (Clear_begun s e (clear_number kind) (w.drone e).next) (begins_reported st (operation_of Clears e (clear_number kind) []))
      (begun e (Begins_clear (clear_number kind)) (λ t. begin_clear t e (clear_number kind)) hd f.0 (λ p g i. on_clear e s (not_here e hd) p g st (clear_number kind) f.1 i)))

  pub get_goes : (e : Stream) (kind : PlanKind) → nodes.is_drone e ≡ true → Goes nodes (unless_refused (refusal st) w (station_calls w s (w.station s) (begin_get st e (number_of kind)) (Get_begun s e (number_of kind) (w.drone e).next ∷ []))) m
  get_goes e kind hd =
      unless nodes w _ m (refusal st) all (λ r.
      let f = free st r in
      untold_call (begin_get st e (number_of kind)) (Get_begun s e (number_of kind) (w.drone e).next) (begins_reported st (operation_of Gets e (number_of kind) []))
      (begun e (Begins_get (number_of kind)) (λ t. begin_get t e (number_of kind)) hd f.0 (λ p g i. on_get e s (not_here e hd) p g st (number_of kind) f.1 i)))

  -- a frame that is admitted
  module _ (k : ℕ) (f : Frame) (is : slice_get w.sent k ≡ Some f) (late : (w.station s).last f.from < f.timestamp) where
    abbrev last : Stream → ℕ
    last = at (w.station s).last f.from f.timestamp

    abbrev next : ℕ
    next = max (w.station s).next f.timestamp

    admitted : (d : Stream) → nodes.is_drone d ≡ true → (g : Moments) → Inv d s (part w m d s) g → Inv d s (record (part w m d s) { station_last = last d; station_next = next }) g
    admitted d hd g i = elim (split f.from d) [
      | inl own ↦ (let t = (truth_at d s (pair_of s (part w m d s) g) (subject (part w m d s).transaction (part w m d s).opening) w.sent k f is i.truths).1 in
          subst (λ z. Inv d s (record (part w m d s) { station_last = z; station_next = next }) g) (sym (ap last own ∙ at_same (w.station s).last f.from f.timestamp))
          (inv_heard d s (not_here d hd) (part w m d s) g f.timestamp next i (subst (λ z. (w.station s).last z < f.timestamp) (sym own) late) (t.by_drone (sym own)) (max_more _ _)))
      | inr far ↦ subst (λ z. Inv d s (record (part w m d s) { station_last = z; station_next = next }) g) (sym (at_apart (w.station s).last f.from d f.timestamp far)) (on_later d s (part w m d s) g next i (max_more _ _))
    ]

    unheeded : Goes nodes (station_steps w s (record { state = st; last = last; next = next }) (stays st)) m
    unheeded = rests (record { state = st; last = last; next = next }) refl refl admitted

    own_message : (x : PlanMsg) (o : Operation) → f.message ≡ Some x → st.operation ≡ Some o → f.from ≡ o.drone → addressee x ≡ node_of s → Goes nodes (station_steps w s (record { state = st; last = last; next = next }) (phase_step st o o.phase x)) m
    own_message x o is_x is_op own to =
        let e = o.drone in
        let hd : nodes.is_drone e ≡ true = subst (OfDrones nodes) is_op (all.operations s station) in
        let p = all.pairs e s hd station in
        let q : Part = part w m e s in
        let t = (truth_at e s (pair_of s q p.0) (subject q.transaction q.opening) w.sent k f is p.1.truths).1 in
        let l : q.station_last < f.timestamp = subst (λ z. (w.station s).last z < f.timestamp) own late in
        let known : f.timestamp < q.drone_next = t.by_drone own in
        let for_me : IsTo (node_of s) f.message = subst (IsTo (node_of s)) (sym is_x) to in
        let before : SentByDrone (pair_of s q p.0) f.timestamp (Some x) = subst (SentByDrone (pair_of s q p.0) f.timestamp) is_x (t.drone own for_me) in
        let shows : Shows (pair_of s q p.0) (kind_of q.opening) (shown_of q.opening) f.timestamp (Some x) = subst (Shows (pair_of s q p.0) (kind_of q.opening) (shown_of q.opening) f.timestamp) is_x (t.shows own for_me) in
        let at_last : f.timestamp ≡ last e = sym (ap last (sym own) ∙ at_same (w.station s).last f.from f.timestamp) in
        let P : Part → Type 0 = λ z. Inv e s z p.0 × Heard (pair_of s z p.0) (Some x) × Shows (pair_of s z p.0) (kind_of z.opening) (shown_of z.opening) z.station_last (Some x) × ((since : ℕ) → since ≤ z.station_last → Said z.sent e since x) × ((u : Name) (c kind : ℕ) → x ≡ Ack u c kind → (pair_of s z p.0).phase ≡ 3 → IsAbout p.0.counted p.0.first_open z.station_last c → RefusedWith z.sent e s z.transaction c) × ((u : Name) (c kind : ℕ) → x ≡ Ack u c kind → Concludes e s z.sent z.transaction z.opening (pair_of s z p.0) c) in
        let now : P (record q { station_last = f.timestamp; station_next = next }) = (
          inv_heard e s (not_here e hd) q p.0 f.timestamp next p.1 l known (max_more _ _),
          heard_facts (pair_of s q p.0) f.timestamp next (Some x) p.1.facts l known (max_more _ _) before,
          shows_again (pair_of s q p.0) (pair_of s (record q { station_last = f.timestamp; station_next = next }) p.0) (kind_of q.opening) (shown_of q.opening) f.timestamp (Some x) (λ a b. (a, refl)) shows,
          λ since h. said_at w.sent k f e since x is own h is_x,
          λ u c kind ack ph about. answered_at e s q.transaction p.0.counted p.0.first_open w.sent k f c kind is own (is_x ∙ ap Some ack ∙ ap (λ (n : Name). Some (Ack n c kind)) (subst (λ y. addressee y ≡ node_of s) ack to)) about (p.1.answers ph),
          λ u c kind ack. (
            λ ph last one. let b = replied (pair_of s q p.0) p.1.facts ph in settled_at e s (pair_of s q p.0) q.transaction q.opening w.sent k f kind is own (is_x ∙ ap Some ack ∙ ap (λ (n : Name). Some (Ack n c kind)) (subst (λ y. addressee y ≡ node_of s) ack to) ∙ ap (λ n. Some (Ack (node_of s) n kind)) one) b.0 (let z = b.1 in omega arith) last p.1.truths,
            λ ph none. subst (Accepts (pair_of s q p.0) (emptied_of q.opening) f.timestamp) (is_x ∙ ap Some ack) (t.accepts own for_me) ph l none,
          ),
        ) in
        let v : Part = record q { station_last = last e; station_next = next } in
        let there : P v = subst (λ z. P (record q { station_last = z; station_next = next })) at_last now in
        let own_there : P (with_station e v (with_operation st (Some o))) = own_move P e v (with_operation st (Some o)) refl (ap (view_operation e) is_op) refl refl there in
        acts e next last (phase_step st o o.phase x) hd (λ d far. at_apart (w.station s).last f.from d f.timestamp (λ z. far (z ∙ own))) (max_more _ _) (subst (OfDrone e) (sym is_op) refl)
        (subst (λ z. Heeds e s (with_operation st z) (with_station e v (with_operation st z)) (phase_step (with_operation st z) o o.phase x)) (sym is_op) (hears_own e hd v p.0 st o x refl own_there.0 own_there.1 own_there.2 to own_there.3 own_there.4 own_there.5))

    by_operation : (x : PlanMsg) (z : Option Operation) → f.message ≡ Some x → st.operation ≡ z → Goes nodes (station_steps w s (record { state = st; last = last; next = next }) (operation_step st z f.from x)) m
    by_operation x None is_x is_op = unheeded
    by_operation x (Some o) is_x is_op =
        by_test (λ a. Goes nodes (station_steps w s (record { state = st; last = last; next = next }) a) m) (same_stream f.from o.drone && same_name (addressee x) st.me) _ _
        (λ z. let b = both_true _ _ z in own_message x o is_x is_op (stream_eq _ _ b.0) (name_eq _ _ b.1 ∙ all.names s station))
        (λ _. unheeded)

    by_message : (x : Option PlanMsg) → f.message ≡ x → Goes nodes (station_steps w s (record { state = st; last = last; next = next }) (station_takes st f.from x)) m
    by_message None e = unheeded
    by_message (Some x) e = by_operation x st.operation e refl

  -- a sent frame is given to the station
  frame_goes : (k : ℕ) (f : Frame) → slice_get w.sent k ≡ Some f → Goes nodes (station_admits w s (w.station s) f) m
  frame_goes k f is =
      by_test (λ v. Goes nodes v m) (nat_lt ((w.station s).last f.from) f.timestamp) _ _
      (λ l. by_message k f is (less _ _ l) f.message refl)
      (λ _. quiet_world nodes w m all)

  -- one with this index, if there is one
  pub coming_goes : (k : ℕ) (f : Option Frame) → slice_get w.sent k ≡ f → Goes nodes (to_station w s f) m
  coming_goes k None e = quiet_world nodes w m all
  coming_goes k (Some f) e = frame_goes k f e
