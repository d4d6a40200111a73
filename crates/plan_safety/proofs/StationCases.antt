-- The station with an operation at the drone: resynchronisation attempts, starts, and the end.
use Rattle.std.proofs.Common.{◌≡◌, ◌≢◌, ℕ, zero, suc, ◌+◌, ◌<◌, ◌≤◌, ◌⊎◌, inl, inr, Bool, true, false, if◌then◌else◌, ◌==◌, ◌&&◌, ◌||◌, nat_lt, List, [], ◌∷◌, length, take, Option, Some, None, refl, sym, ap, subst, arith, ◌∙◌}
use Rattle.std.specs.Prelude.{slice_get}
use Rattle.mav_names.specs.declared.names.Stream.{Stream}
use Rattle.plan_items.specs.declared.items.Item.{Item}
use Rattle.plan_items.specs.declared.messages.PlanMsg.{PlanMsg}
use Rattle.plan_items.specs.declared.messages.PlanMsg.TheVariants.{Count, Request, Item as Give, Ack, List as Listing, Clear, Ping}
use Rattle.plan_upload.specs.Addresses.{same_stream, node_of, everyone}
use Rattle.plan_upload.specs.Station.{StationState, StationStep, Operation, Work, Uploads, Clears, Gets, Phase, Pinging, Cancelling, Sending, Clearing, Listing_items, Getting, Told, Told_installed, Told_not_installed, Told_unknown, Told_cleared, Told_got, Told_ended, phase_number, last_ping, sends, becomes, pinging, resynchronises, starts, is_synced, synced_too, synchronised, ends, ends_with, given_code, synchronises}
use Rattle.plan_safety.specs.Frames.{Frame, Said}
use Rattle.plan_safety.specs.Store.{Transaction, Stage, Fresh, In_place, Closed, Acked, RefusedWith, staged, unless_placed}
use Rattle.plan_safety.proofs.Keys.{by_test, eq_true, eq_false, same, apart, both_true, bool_split, flag, flag_true, flag_false, is_flagged, zero_or}
use Rattle.plan_safety.proofs.Pair as pair
use Rattle.plan_safety.proofs.Pair.{Pair, Facts, SentByStation, SentByDrone, AnswersCancel, attempts, attempts_spent, starts_count, starts_clear, starts_listing, pings, a_ping, a_count, a_clear, a_list, an_ack}
use Rattle.plan_safety.proofs.StationSide as side
use Rattle.plan_safety.proofs.Part.{Seen, Shows, kind_of, shown_of, stage_number, Part, Moments, pair_of, Subject, subject, Truth, Truths, IsClear, IsGet, Final, Numbered, Coded, Terminates, GathersIn, CancelSaid, Settled, again_same, Operating, Inv, Keeps, keeps_truth, truths_keep, coded_more, final_more, gathers_at, fresh, in_place}
use Rattle.plan_safety.proofs.Acknowledgements.{settles_none, accepts_new, answered_counted}
use Rattle.plan_safety.proofs.StationNews.{Silent, news_of, SeesPlan, SeesCleared, SeesEnd, Acted, Heeds, with_station, station_said, end_cancelled}

-- the operation o, at the drone d, in the phase f
abbrev pub op : Operation → Stream → Phase → Option Operation
op o d f = Some (record o { drone = d; phase = f })

abbrev pub with_operation : StationState → Option Operation → StationState
with_operation t o = record t { operation = o }

-- the operation goes on, and a frame is sent
pub op_sends : (d s : Stream) (sent : List Frame) (m : Frame) (t : Transaction) (c : Option Seen) (cancelled : Bool) (old_pings new_pings : ℕ) (o : Operation) (f : Phase) (idle : ℕ) (asked final_sent : Bool) (number : Option ℕ) (total : ℕ) (got : List Item) → Operating d s sent t c cancelled old_pings o → Numbered new_pings number → GathersIn (shown_of c) f got total → (final_sent ≡ true → Final (m ∷ sent) d s t) → CancelSaid (m ∷ sent) d s t.since (λ earlier. Final earlier d s t) final_sent o.kind f → Operating d s (m ∷ sent) t c cancelled new_pings (record o { phase = f; idle = idle; asked = asked; final_sent = final_sent; number = number; total = total; got = got })
op_sends d s sent m t c cancelled old_pings new_pings o f idle asked final_sent number total got h n g l x = record {
  means = h.means;
  numbered = n;
  coded = coded_more d s sent m t o.code h.coded;
  terminates = h.terminates;
  gathers = g;
  final = l;
  cancel = x;
}

-- a phase has a number
phase_some : (f : Phase) → 0 < phase_number f
phase_some Pinging = omega arith
phase_some Cancelling = omega arith
phase_some Sending = omega arith
phase_some Clearing = omega arith
phase_some Listing_items = omega arith
phase_some Getting = omega arith

-- what is true of the frames that are sent
attempt_new : (p : Pair) (e : ℕ) → SentByStation (attempts p e) 0 0 0 (λ x. None) p.station_next (a_ping p.next_ping)
attempt_new p e = (omega arith, omega arith, λ _ _. omega arith)

count_new : (p : Pair) (jkind kind total : ℕ) (plan : ℕ → Option Item) → Facts p → SentByStation (starts_count p) jkind kind total plan p.station_next (a_count total kind)
count_new p jkind kind total plan f = grind arith

clear_new : (p : Pair) (jkind kind total : ℕ) (plan : ℕ → Option Item) (e : ℕ) → Facts p → p.work ≡ 2 → 0 < e → e ≤ p.station_next → SentByStation (starts_clear p e) jkind kind total plan p.station_next (a_clear jkind)
clear_new p jkind kind total plan e f on a b = grind arith

listing_new : (p : Pair) (jkind kind total : ℕ) (plan : ℕ → Option Item) (e : ℕ) → Facts p → p.work ≡ 3 → 0 < e → e ≤ p.station_next → SentByStation (starts_listing p e) jkind kind total plan p.station_next (a_list jkind)
listing_new p jkind kind total plan e f on a b = grind arith

-- what an answer to a cancel says to the station
pub record Synchronises (p : Pair) (c k : ℕ) : Type 0 where
  pub phase : p.phase ≡ 2
  pub late : p.first_reply < p.station_last
  pub code : AnswersCancel c
  pub truth : SentByDrone p p.station_last (an_ack c k)

-- what makes an end safe
pub record CanEnd (p : Pair) : Type 0 where
  pub work : 0 < p.work
  pub shut : p.has_open ≡ 0
  pub counts : p.last_count ≤ p.drone_last
  pub clears : p.last_job ≤ p.drone_last
  pub requests : p.last_request ≤ p.station_last
  pub acks : p.last_verdict ≤ p.station_last
  pub heard : p.last_shown ≤ p.station_last
  pub late : p.drone_last < p.last_cancel → p.result < 2

-- the answer to a cancel makes an end safe, and says what the result is
synced_can : (p : Pair) (c k : ℕ) → Facts p → Synchronises p c k → CanEnd p
synced_can p c k f h = grind arith

synced_zero : (p : Pair) (k : ℕ) → Facts p → Synchronises p 0 k → p.final_sent ≡ 1 → p.stage ≡ 2
synced_zero p k f h last = grind arith

-- the drone has started again since it opened the upload
pub synced_one : (p : Pair) (k : ℕ) → Facts p → Synchronises p 1 k → p.final_sent ≡ 1 → p.lost ≡ 1
synced_one p k f h last = grind arith

synced_fifteen : (p : Pair) (k : ℕ) → Facts p → Synchronises p 15 k → p.work ≡ 1 → p.stage ≡ 1
synced_fifteen p k f h on = grind arith

synced_early : (p : Pair) (c k : ℕ) → Facts p → Synchronises p c k → p.work ≡ 1 → p.final_sent ≡ 0 → p.stage ≡ 1
synced_early p c k f h on last = grind arith

-- before an upload starts nothing was opened
unopened : (p : Pair) → Facts p → p.phase ≡ 2 → p.terminating ≡ 0 → p.first_open ≡ 0
unopened p f ph t = grind arith

-- stages that aren't fresh
not_fresh : (s : Stage) → stage_number s ≢ 1 → stage_number s ≤ 2
not_fresh Fresh h = omega arith
not_fresh In_place h = omega arith
not_fresh Closed h = omega arith

-- the moment of the first Clear or List
first_job_at : (n : ℕ) (e : ℕ) → (x : ℕ) × (0 < n → 0 < x) × (e ≤ n → x ≤ n) × (0 < e → x ≡ e) × (e ≡ 0 → x ≡ n)
first_job_at n e = elim (zero_or e) [ inl z ↦ (n, λ h. h, λ h. omega arith, λ h. absurd (omega arith), λ h. refl) | inr z ↦ (e, λ h. z, λ h. h, λ h. refl, λ h. absurd (omega arith)) ]

-- synchronised drones
synced_here : (l : List Stream) (d : Stream) → is_synced (synced_too l d) d ≡ true
synced_here l d = by_both (is_synced l d) refl
  where
    by_both : (b : Bool) → is_synced l d ≡ b → is_synced (if b then l else d ∷ take 255 l) d ≡ true
    by_both true e = e
    by_both false e = rw (same d) refl

-- flags of lists
or_less : (b a c : Bool) → flag a ≤ flag c → flag (b || a) ≤ flag (b || c)
or_less true a c h = omega arith
or_less false a c h = h

-- dropping the longest kept keeps no new one
synced_take : (n : ℕ) (l : List Stream) (x : Stream) → flag (is_synced (take n l) x) ≤ flag (is_synced l x)
synced_take zero l x = omega arith
synced_take (suc n) [] x = omega arith
synced_take (suc n) (y ∷ ys) x = or_less (same_stream y x) _ _ (synced_take n ys x)

-- one drone more is no other
synced_else : (l : List Stream) (d x : Stream) → x ≢ d → flag (is_synced (synced_too l d) x) ≤ flag (is_synced l x)
synced_else l d x h =
    by_test (λ (m : List Stream). flag (is_synced m x) ≤ flag (is_synced l x)) (is_synced l d) l (d ∷ take 255 l)
    (λ _. omega arith)
    (λ _. rw (apart d x (λ e. h (sym e))) (synced_take 255 l x))

pub synchronised_at : (t : StationState) (d x : Stream) → x ≢ d → flag (is_synced (synchronised t d).synced x) ≤ flag (is_synced t.synced x)
synchronised_at t d x h = synced_else t.synced d x h

-- before phase 5 nothing is shown
pub shows_low : (p : Pair) (kind : ℕ) (plan : List Item) (t : ℕ) (m : Option PlanMsg) → p.phase < 5 → Shows p kind plan t m
shows_low p kind plan t (Some (Ping to usec n)) h = tt
shows_low p kind plan t (Some (Count to n c)) h = λ a b l. absurd (omega arith)
shows_low p kind plan t (Some (Give to i c x)) h = λ a b l. absurd (omega arith)
shows_low p kind plan t (Some (Request to i c)) h = tt
shows_low p kind plan t (Some (Ack to c i)) h = tt
shows_low p kind plan t (Some (Clear to c)) h = tt
shows_low p kind plan t (Some (Listing to c)) h = tt
shows_low p kind plan t None h = tt

-- the kind of what is open, in the words of the frames
clear_is : (c : Option Seen) (k : ℕ) → IsClear k c → kind_of c ≡ k
clear_is None k h = absurd h
clear_is (Some c) k h = h.1

get_is : (c : Option Seen) (k : ℕ) → IsGet k c → kind_of c ≡ k
get_is None k h = absurd h
get_is (Some c) k h = h.1

-- what is open in an upload, and in another operation
no_job : (p : Pair) → Facts p → p.work ≡ 1 → p.job ≡ 0
no_job p f e = grind arith

pub some_job : (p : Pair) → Facts p → 1 < p.work → 0 < p.job
some_job p f e = grind arith

first_job_sent : (p : Pair) → Facts p → p.first_job ≤ p.station_next
first_job_sent p f = grind arith

-- an attempt reports no outcome
pub attempt_reported : (u : StationState) (o : Operation) → (resynchronises u o).told ≡ None
attempt_reported u o = by_test (λ (a : StationStep). a.told ≡ None) (nat_lt u.pings last_ping) _ _ (λ _. refl) (λ _. refl)

module _ (d s : Stream) (ne : d ≢ s) where
  -- an attempt begins, and the operation is terminating if a Count was sent
  pub on_silent_attempt : (p : Part) (g : Moments) (t : StationState) (o : Operation) (f : Phase) (code : Option ℕ) (terminating : Bool) → Inv d s (with_station d p (with_operation t (op o d f))) g → (0 < g.first_count → 0 < flag terminating) → Coded p.sent d s p.transaction code → Terminates p.cancelled o.work terminating → Acted d s (with_operation t (op o d f)) (with_station d p (with_operation t (op o d f))) (resynchronises (with_operation t (op o d f)) (record o { drone = d; phase = f; code = code; terminating = terminating })) Silent
  on_silent_attempt p g t o f code terminating i end cd tm =
      let u = with_operation t (op o d f) in
      let v = with_station d p u in
      let q : Pair = pair_of s v g in
      let some : 0 < q.phase = phase_some f in
      let h : Moments = record g { first_ping = p.station_next; first_reply = 0 } in
      let o' : Operation = record o { drone = d; phase = f; code = code; terminating = terminating } in
      let ping = Ping everyone t.boot (t.pings + 1) in
      by_test (λ a. Acted d s u v a Silent) (nat_lt t.pings last_ping) (sends (record u { pings = t.pings + 1 }) (pinging o' (Some (t.pings + 1))) ping) (becomes u (pinging o' None))
      (λ _. record {
        needs = tt;
        moments = h;
        sends_to = refl;
        of_drone = refl;
        synced = λ _ _. omega arith;
        pings = omega arith;
        me = refl;
        inv =
            station_said d s ne v g h (sends (record u { pings = t.pings + 1 }) (pinging o' (Some (t.pings + 1))) ping).station ping (attempts q (flag terminating)) i refl
            (side.attempts_facts q (flag terminating) i.facts some end)
            (record { drone_next = omega arith; station_next = omega arith; shows = λ a b. absurd (omega arith); again = record { attempt = λ a b. absurd (omega arith); clear = λ a. absurd (omega arith) }; drone = λ u x. side.attempts_drone q (flag terminating) u x i.facts some end; station = λ ck k n l u x. side.attempts_station q (flag terminating) ck k n l u x i.facts some end })
            (attempt_new q (flag terminating)) tt (omega arith)
            (record { means = i.operation.means; numbered = (let z : t.pings + 1 ≤ t.pings + 1 = omega arith in z); coded = coded_more d s p.sent (record { from = s; timestamp = p.station_next; message = Some ping }) p.transaction code cd; terminates = tm; gathers = tt; final = λ e. final_more d s p.sent _ p.transaction (i.operation.final e); cancel = tt })
            i.since_count (λ x. inr (i.count x)) (λ x. ((i.asked x).0, inr (i.asked x).1)) (λ ph. absurd (omega arith));
      })
      (λ _. let j = subject p.transaction p.opening in let r : Pair = attempts_spent q (flag terminating) in record {
        needs = tt;
        moments = h;
        sends_to = tt;
        of_drone = refl;
        synced = λ _ _. omega arith;
        pings = omega arith;
        me = refl;
        inv = record {
          facts = side.attempts_spent_facts q (flag terminating) i.facts some end;
          truths = truths_keep d s q r j j (keeps_truth d s q r j (record { drone_next = omega arith; station_next = omega arith; shows = λ a b. absurd (omega arith); again = record { attempt = λ a b. absurd (omega arith); clear = λ a. absurd (omega arith) }; drone = λ u x. side.attempts_spent_drone q (flag terminating) u x i.facts some end; station = λ ck k n l u x. side.attempts_spent_station q (flag terminating) ck k n l u x i.facts some end })) p.sent i.truths;
          upload = i.upload;
          operation = record { means = i.operation.means; numbered = tt; coded = cd; terminates = tm; gathers = tt; final = i.operation.final; cancel = tt };
          for_drone = i.for_drone;
          since = i.since;
          since_count = i.since_count;
          count = i.count;
          download = λ a b. absurd (omega arith);
          asked = i.asked;
          answers = λ ph. absurd (omega arith);
        };
      })

  -- the same, as a step at a message or a tick
  pub on_attempt : (p : Part) (g : Moments) (t : StationState) (o : Operation) (f : Phase) (code : Option ℕ) (terminating : Bool) → Inv d s (with_station d p (with_operation t (op o d f))) g → (0 < g.first_count → 0 < flag terminating) → Coded p.sent d s p.transaction code → Terminates p.cancelled o.work terminating → Heeds d s (with_operation t (op o d f)) (with_station d p (with_operation t (op o d f))) (resynchronises (with_operation t (op o d f)) (record o { drone = d; phase = f; code = code; terminating = terminating }))
  on_attempt p g t o f code terminating i end cd tm =
      let u = with_operation t (op o d f) in
      let o' : Operation = record o { drone = d; phase = f; code = code; terminating = terminating } in
      subst (λ x. Acted d s u (with_station d p u) (resynchronises u o') (news_of x)) (sym (attempt_reported u o')) (on_silent_attempt p g t o f code terminating i end cd tm)

  -- synchronised, and not terminating: it starts
  on_start : (p : Part) (g : Moments) (t : StationState) (o : Operation) (w : Work) (c k : ℕ) → (let u = with_operation t (op (record o { work = w; terminating = false }) d Cancelling) in Inv d s (with_station d p u) g → Synchronises (pair_of s (with_station d p u) g) c k → Heeds d s u (with_station d p u) (starts (synchronised u d) (record o { work = w; terminating = false; drone = d; phase = Cancelling })))
  on_start p g t o Uploads c k i h =
      let o' : Operation = record o { work = Uploads; terminating = false; drone = d; phase = Cancelling } in
      let u = with_operation t (Some o') in
      let v = with_station d p u in
      let q : Pair = pair_of s v g in
      let m : Moments = record g { first_count = p.station_next; last_count = p.station_next; counted = p.drone_next; first_ping = 0; first_reply = 0 } in
      let ek : o.kind ≡ p.transaction.kind = i.operation.means.0 in
      let ep : length o.plan ≡ length p.transaction.plan = ap length i.operation.means.1 in
      let can = synced_can q c k i.facts h in
      record {
        needs = tt;
        moments = m;
        sends_to = refl;
        of_drone = refl;
        synced = synchronised_at t d;
        pings = omega arith;
        me = refl;
        inv =
            station_said d s ne v g m (starts (synchronised u d) o').station (Count (node_of d) (length o.plan) o.kind) (starts_count q) i (rw (synced_here t.synced d) refl)
            (side.starts_count_facts q i.facts refl refl refl can.acks can.heard)
            (record { drone_next = omega arith; station_next = omega arith; shows = λ a b. absurd (omega arith); again = record { attempt = λ a b. absurd (omega arith); clear = λ a. absurd (omega arith) }; drone = λ u x. side.starts_count_drone q u x i.facts refl refl refl can.acks can.heard; station = λ ck k n l u x. side.starts_count_station q ck k n l u x i.facts refl refl refl can.acks can.heard })
            (rw (ek, ep) (count_new q (kind_of p.opening) p.transaction.kind (length p.transaction.plan) (slice_get p.transaction.plan) i.facts))
            refl (omega arith)
            (op_sends d s p.sent _ p.transaction p.opening p.cancelled t.pings t.pings o' Sending 0 o.asked o.final_sent None 0 [] i.operation tt tt (λ e. final_more d s p.sent _ p.transaction (i.operation.final e)) tt)
            (λ _. i.since) (λ _. inl (refl, i.since, ap (λ n. Some (Count (node_of d) (length o.plan) n)) ek ∙ ap (λ n. Some (Count (node_of d) n p.transaction.kind)) ep))
            (λ x. ((i.asked x).0, inr (i.asked x).1))
            (λ _. answered_counted d s p.transaction p.drone_next g.first_open q (subject p.transaction p.opening) p.sent (unopened q i.facts refl refl) (omega arith) i.truths);
      }
  on_start p g t o Clears c k i h =
      let o' : Operation = record o { work = Clears; terminating = false; drone = d; phase = Cancelling } in
      let u = with_operation t (Some o') in
      let v = with_station d p u in
      let q : Pair = pair_of s v g in
      let n = first_job_at p.station_next g.first_job in
      let some : 0 < p.station_next = (let z = i.facts.last_count_sent in omega arith) in
      let e : 0 < n.0 = n.1 some in
      let l : n.0 ≤ q.station_next = n.2 (first_job_sent q i.facts) in
      let m : Moments = record g { first_job = n.0; last_job = p.station_next; first_ping = 0; first_reply = 0 } in
      let can = synced_can q c k i.facts h in
      let ec : kind_of p.opening ≡ o.kind = clear_is p.opening o.kind i.operation.means in
      record {
        needs = tt;
        moments = m;
        sends_to = refl;
        of_drone = refl;
        synced = synchronised_at t d;
        pings = omega arith;
        me = refl;
        inv =
            station_said d s ne v g m (starts (synchronised u d) o').station (Clear (node_of d) o.kind) (starts_clear q n.0) i (rw (synced_here t.synced d) refl)
            (side.starts_clear_facts q n.0 i.facts refl refl refl can.acks can.heard can.late e l n.3 n.4)
            (record { drone_next = omega arith; station_next = omega arith; shows = λ a b. absurd (omega arith); again = record { attempt = λ a b. absurd (omega arith); clear = λ _. inr can.acks }; drone = λ u x. side.starts_clear_drone q n.0 u x i.facts refl refl refl can.acks can.heard can.late e l n.3 n.4; station = λ ck k n' l' u x. side.starts_clear_station q n.0 ck k n' l' u x i.facts refl refl refl can.acks can.heard can.late e l n.3 n.4 })
            (subst (λ x. SentByStation (starts_clear q n.0) x p.transaction.kind (length p.transaction.plan) (slice_get p.transaction.plan) p.station_next (a_clear o.kind)) (sym ec) (clear_new q o.kind p.transaction.kind (length p.transaction.plan) (slice_get p.transaction.plan) n.0 i.facts refl e l))
            refl (omega arith)
            (op_sends d s p.sent _ p.transaction p.opening p.cancelled t.pings t.pings o' Clearing 0 o.asked o.final_sent None 0 [] i.operation tt tt (λ e. final_more d s p.sent _ p.transaction (i.operation.final e)) tt)
            i.since_count (λ x. inr (i.count x)) (λ x. ((i.asked x).0, inr (i.asked x).1)) (λ ph. absurd (omega arith));
      }
  on_start p g t o Gets c k i h =
      let o' : Operation = record o { work = Gets; terminating = false; drone = d; phase = Cancelling } in
      let u = with_operation t (Some o') in
      let v = with_station d p u in
      let q : Pair = pair_of s v g in
      let n = first_job_at p.station_next g.first_job in
      let some : 0 < p.station_next = (let z = i.facts.last_count_sent in omega arith) in
      let e : 0 < n.0 = n.1 some in
      let l : n.0 ≤ q.station_next = n.2 (first_job_sent q i.facts) in
      let m : Moments = record g { first_job = n.0; last_job = p.station_next; first_ping = 0; first_reply = 0; now_shown = 0 } in
      let can = synced_can q c k i.facts h in
      let ec : kind_of p.opening ≡ o.kind = get_is p.opening o.kind i.operation.means in
      record {
        needs = tt;
        moments = m;
        sends_to = refl;
        of_drone = refl;
        synced = synchronised_at t d;
        pings = omega arith;
        me = refl;
        inv =
            station_said d s ne v g m (starts (synchronised u d) o').station (Listing (node_of d) o.kind) (starts_listing q n.0) i (rw (synced_here t.synced d) refl)
            (side.starts_listing_facts q n.0 i.facts refl refl refl can.acks can.heard can.late e l n.3 n.4)
            (record { drone_next = omega arith; station_next = omega arith; shows = λ a b. absurd (omega arith); again = record { attempt = λ a b. absurd (omega arith); clear = λ a. absurd (omega arith) }; drone = λ u x. side.starts_listing_drone q n.0 u x i.facts refl refl refl can.acks can.heard can.late e l n.3 n.4; station = λ ck k n' l' u x. side.starts_listing_station q n.0 ck k n' l' u x i.facts refl refl refl can.acks can.heard can.late e l n.3 n.4 })
            (subst (λ x. SentByStation (starts_listing q n.0) x p.transaction.kind (length p.transaction.plan) (slice_get p.transaction.plan) p.station_next (a_list o.kind)) (sym ec) (listing_new q o.kind p.transaction.kind (length p.transaction.plan) (slice_get p.transaction.plan) n.0 i.facts refl e l))
            refl (omega arith)
            (op_sends d s p.sent _ p.transaction p.opening p.cancelled t.pings t.pings o' Listing_items 0 o.asked o.final_sent None 0 [] i.operation tt tt (λ e. final_more d s p.sent _ p.transaction (i.operation.final e)) tt)
            i.since_count (λ x. inr (i.count x)) (λ x. ((i.asked x).0, inr (i.asked x).1)) (λ ph. absurd (omega arith));
      }

  -- an upload is over, and its transaction's stage is then `stage`
  upload_over : (p : Part) (g : Moments) (t : StationState) (stage : Stage) → Inv d s (with_station d p t) g → CanEnd (pair_of s (with_station d p t) g) → (pair_of s (with_station d p t) g).work ≡ 1 → stage_number stage ≢ 1 → Inv d s (record (with_station d p (with_operation (synchronised t d) None)) { transaction = staged p.transaction stage }) (record g { first_count = 0; first_open = 0; first_ping = 0; first_reply = 0; first_job = 0 })
  upload_over p g t stage i c work not_one =
      let v = with_station d p t in
      let q : Pair = pair_of s v g in
      let m : Moments = record g { first_count = 0; first_open = 0; first_ping = 0; first_reply = 0; first_job = 0 } in
      let z : q.job ≡ 0 = no_job q i.facts work in
      let n = stage_number stage in
      let two : n ≤ 2 = not_fresh stage not_one in
      let r : Pair = pair.ends q n q.job in
      let j = subject p.transaction p.opening in
      let k : Keeps q r = record { drone_next = omega arith; station_next = omega arith; shows = λ a b. absurd (omega arith); again = record { attempt = λ a b. absurd (omega arith); clear = λ a. absurd (omega arith) }; drone = λ u x. side.ends_drone q n q.job u x i.facts c.work c.shut c.counts c.clears c.requests c.acks c.heard not_one two z c.late; station = λ ck kk n' l u x. side.ends_station q n q.job ck kk n' l u x i.facts c.work c.shut c.counts c.clears c.requests c.acks c.heard not_one two z c.late } in
      let is : pair_of s (record (with_station d p (with_operation (synchronised t d) None)) { transaction = staged p.transaction stage }) m ≡ r = rw (synced_here t.synced d) refl in
      record {
        facts = subst Facts (sym is) (side.ends_facts q n q.job i.facts c.work c.shut c.counts c.clears c.requests c.acks c.heard not_one two z c.late);
        truths = subst (λ x. Truths d s x j p.sent) (sym is) (truths_keep d s q r j j (keeps_truth d s q r j k) p.sent i.truths);
        upload = gathers_at d s p.sent p.transaction stage p.drone.upload i.upload;
        operation = tt;
        for_drone = λ x. absurd (not_one x);
        since = i.since;
        since_count = λ x. absurd (omega arith);
        count = λ x. absurd (omega arith);
        download = λ a b. absurd (omega arith);
        asked = λ x. absurd (omega arith);
        answers = λ ph. absurd (omega arith);
      }

  -- each outcome of an upload
  pub on_installed : (p : Part) (g : Moments) (t : StationState) → Inv d s (with_station d p t) g → CanEnd (pair_of s (with_station d p t) g) → (pair_of s (with_station d p t) g).work ≡ 1 → stage_number p.transaction.stage ≡ 2 → Heeds d s t (with_station d p t) (ends t d Told_installed)
  on_installed p g t i c work e = record {
    needs = in_place p.transaction.stage e;
    moments = record g { first_count = 0; first_open = 0; first_ping = 0; first_reply = 0; first_job = 0 };
    sends_to = tt;
    of_drone = tt;
    synced = synchronised_at t d;
    pings = omega arith;
    me = refl;
    inv = upload_over p g t p.transaction.stage i c work (λ x. absurd (omega arith));
  }

  pub on_not_installed : (p : Part) (g : Moments) (t : StationState) (code : ℕ) → Inv d s (with_station d p t) g → CanEnd (pair_of s (with_station d p t) g) → (pair_of s (with_station d p t) g).work ≡ 1 → stage_number p.transaction.stage ≡ 1 → (code ≡ 15) ⊎ RefusedWith p.sent d s p.transaction code → Heeds d s t (with_station d p t) (ends t d (Told_not_installed code))
  on_not_installed p g t code i c work e cause = record {
    needs = (fresh p.transaction.stage e, cause);
    moments = record g { first_count = 0; first_open = 0; first_ping = 0; first_reply = 0; first_job = 0 };
    sends_to = tt;
    of_drone = tt;
    synced = synchronised_at t d;
    pings = omega arith;
    me = refl;
    inv = upload_over p g t Closed i c work (λ x. absurd (omega arith));
  }

  pub on_unknown : (p : Part) (g : Moments) (t : StationState) → Inv d s (with_station d p t) g → CanEnd (pair_of s (with_station d p t) g) → (pair_of s (with_station d p t) g).work ≡ 1 → (pair_of s (with_station d p t) g).lost ≡ 1 → Acked p.sent d s p.transaction.drone_since 1 → Final p.sent d s p.transaction → Said p.sent s p.transaction.since (Ack (node_of d) 15 p.transaction.kind) → Settled p.sent d s p.transaction → Heeds d s t (with_station d p t) (ends t d Told_unknown)
  on_unknown p g t i c work lost acked final cancel settled = record {
    needs = (λ e. absurd (let y : 0 < stage_number p.transaction.stage = i.facts.work_stage work in let y' : stage_number p.transaction.stage ≡ 0 = ap stage_number e in omega arith), is_flagged p.transaction.lost lost, acked, final, cancel, settled);
    moments = record g { first_count = 0; first_open = 0; first_ping = 0; first_reply = 0; first_job = 0 };
    sends_to = tt;
    of_drone = tt;
    synced = synchronised_at t d;
    pings = omega arith;
    me = refl;
    inv = upload_over p g t (unless_placed p.transaction.stage) i c work (after_not_fresh p.transaction.stage);
  }
    where
      after_not_fresh : (s : Stage) → stage_number (unless_placed s) ≢ 1
      after_not_fresh Fresh = λ e. absurd (omega arith)
      after_not_fresh In_place = λ e. absurd (omega arith)
      after_not_fresh Closed = λ e. absurd (omega arith)

  -- a clear or a download is over
  over : (p : Part) (g : Moments) (t : StationState) → Inv d s (with_station d p t) g → CanEnd (pair_of s (with_station d p t) g) → 1 < (pair_of s (with_station d p t) g).work → Inv d s (record (with_station d p (with_operation (synchronised t d) None)) { opening = None }) (record g { first_count = 0; first_open = 0; first_ping = 0; first_reply = 0; first_job = 0 })
  over p g t i c on =
      let v = with_station d p t in
      let q : Pair = pair_of s v g in
      let m : Moments = record g { first_count = 0; first_open = 0; first_ping = 0; first_reply = 0; first_job = 0 } in
      let z : q.stage ≢ 1 = not_one q i.facts on in
      let k : Keeps q (pair.ends q q.stage 0) = record { drone_next = omega arith; station_next = omega arith; shows = λ a b. absurd (omega arith); again = record { attempt = λ a b. absurd (omega arith); clear = λ a. absurd (omega arith) }; drone = λ u x. side.ends_drone q q.stage 0 u x i.facts c.work c.shut c.counts c.clears c.requests c.acks c.heard z i.facts.stage_range refl c.late; station = λ ck kk n l u x. side.ends_station q q.stage 0 ck kk n l u x i.facts c.work c.shut c.counts c.clears c.requests c.acks c.heard z i.facts.stage_range refl c.late } in
      let is : pair_of s (record (with_station d p (with_operation (synchronised t d) None)) { opening = None }) m ≡ pair.ends q q.stage 0 = rw (synced_here t.synced d) refl in
      record {
        facts = subst Facts (sym is) (side.ends_facts q q.stage 0 i.facts c.work c.shut c.counts c.clears c.requests c.acks c.heard z i.facts.stage_range refl c.late);
        truths = subst (λ x. Truths d s x (subject p.transaction None) p.sent) (sym is) (truths_keep d s q (pair.ends q q.stage 0) (subject p.transaction p.opening) (subject p.transaction None) (other_kind (pair.ends q q.stage 0) (subject p.transaction p.opening) (subject p.transaction None) refl refl refl refl refl refl k) p.sent i.truths);
        upload = i.upload;
        operation = tt;
        for_drone = i.for_drone;
        since = i.since;
        since_count = λ x. absurd (omega arith);
        count = λ x. absurd (omega arith);
        download = λ a b. absurd (omega arith);
        asked = λ x. absurd (omega arith);
        answers = λ ph. absurd (omega arith);
      }
    where
      not_one : (p : Pair) → Facts p → 1 < p.work → p.stage ≢ 1
      not_one p f on = grind arith

      kind_free : (q : Pair) (ck ck' k n : ℕ) (l : ℕ → Option Item) (u : ℕ) (m : Option PlanMsg) → q.first_job ≡ 0 → SentByStation q ck k n l u m → SentByStation q ck' k n l u m
      kind_free q ck ck' k n l u (Some (Ping a b c)) e h = h
      kind_free q ck ck' k n l u (Some (Count a b c)) e h = h
      kind_free q ck ck' k n l u (Some (Give a b c x)) e h = h
      kind_free q ck ck' k n l u (Some (Request a b c)) e h = h
      kind_free q ck ck' k n l u (Some (Ack a b c)) e h = h
      kind_free q ck ck' k n l u None e h = h
      kind_free q ck ck' k n l u (Some (Clear a b)) e h = (h.0, h.1, h.2, λ x _. absurd (omega arith), h.4, h.5)
      kind_free q ck ck' k n l u (Some (Listing a b)) e h = (h.0, h.1, h.2, λ x _. absurd (omega arith), h.4, h.5)

      other_kind : {p : Pair} (q : Pair) (j j' : Subject) → q.first_job ≡ 0 → q.phase ≡ 0 → q.first_reply ≡ 0 → j'.kind ≡ j.kind → j'.total ≡ j.total → j'.plan ≡ j.plan → Keeps p q → (f : Frame) (earlier : List Frame) → Truth d s p j f earlier → Truth d s q j' f earlier
      other_kind q j j' e ph none a b c k f earlier t = record {
        drone = λ x y. k.drone f.timestamp f.message (t.drone x y);
        shows = λ _ _. shows_low q j'.jkind j'.shown f.timestamp f.message (omega arith);
        station = λ x y. rw (a, b, c) (kind_free q j.jkind j'.jkind j.kind j.total j.plan f.timestamp f.message e (k.station j.jkind j.kind j.total j.plan f.timestamp f.message (t.station x y)));
        last = λ _ _. settles_none d s q j' f.timestamp earlier f.message none;
        accepts = λ x y. accepts_new q q j'.emptied f.timestamp f.message (λ z. absurd (omega arith)) (k.drone f.timestamp f.message (t.drone x y));
        named = t.named;
        by_drone = λ e. let l = t.by_drone e in let n = k.drone_next in omega arith;
        by_station = λ e. let l = t.by_station e in let n = k.station_next in omega arith;
      }

  -- each outcome of a clear and of a download
  pub on_ended : (p : Part) (g : Moments) (t : StationState) (code : ℕ) → Inv d s (with_station d p t) g → CanEnd (pair_of s (with_station d p t) g) → 1 < (pair_of s (with_station d p t) g).work → SeesEnd p.sent d s p.cancelled p.opening code → Heeds d s t (with_station d p t) (ends t d (Told_ended code))
  on_ended p g t code i c work cause = record {
    needs = cause;
    moments = record g { first_count = 0; first_open = 0; first_ping = 0; first_reply = 0; first_job = 0 };
    sends_to = tt;
    of_drone = tt;
    synced = synchronised_at t d;
    pings = omega arith;
    me = refl;
    inv = over p g t i c work;
  }

  pub on_cleared : (p : Part) (g : Moments) (t : StationState) → Inv d s (with_station d p t) g → CanEnd (pair_of s (with_station d p t) g) → 1 < (pair_of s (with_station d p t) g).work → SeesCleared p.opening → Heeds d s t (with_station d p t) (ends t d Told_cleared)
  on_cleared p g t i c work clear = record {
    needs = clear;
    moments = record g { first_count = 0; first_open = 0; first_ping = 0; first_reply = 0; first_job = 0 };
    sends_to = tt;
    of_drone = tt;
    synced = synchronised_at t d;
    pings = omega arith;
    me = refl;
    inv = over p g t i c work;
  }

  pub on_got : (p : Part) (g : Moments) (t : StationState) (kind : ℕ) (plan : List Item) → Inv d s (with_station d p t) g → CanEnd (pair_of s (with_station d p t) g) → 1 < (pair_of s (with_station d p t) g).work → SeesPlan p.opening plan → Heeds d s t (with_station d p t) (ends_with t d (Some (Ack (node_of d) 0 kind)) (Told_got plan))
  on_got p g t kind plan i c work sees =
      let u = with_operation (synchronised t d) None in
      let v = record (with_station d p u) { opening = None } in
      let m : Moments = record g { first_count = 0; first_open = 0; first_ping = 0; first_reply = 0; first_job = 0 } in
      let j = over p g t i c work in
      let q : Pair = pair_of s v m in
      record {
        needs = sees;
        moments = m;
        sends_to = refl;
        of_drone = tt;
        synced = synchronised_at t d;
        pings = omega arith;
        me = refl;
        inv =
            station_said d s ne v m m u (Ack (node_of d) 0 kind) (pings q) j refl (side.pings_facts q j.facts)
            (record { drone_next = omega arith; station_next = omega arith; shows = λ a b. (a, refl); again = again_same _ _ refl refl refl (omega arith); drone = λ u x. side.pings_drone q u x j.facts; station = λ ck k n l u x. side.pings_station q ck k n l u x j.facts })
            (omega arith, λ e. absurd (omega arith), λ e. absurd (omega arith)) refl (omega arith) tt j.since_count (λ x. inr (j.count x)) (λ x. absurd (omega arith)) (λ ph. absurd (omega arith));
      }

  -- the answer to the cancel: `acked` is the frame
  pub on_synchronises : (p : Part) (g : Moments) (t : StationState) (o : Operation) (w : Work) (terminating : Bool) (c k : ℕ) → (let u = with_operation t (op (record o { work = w; terminating = terminating }) d Cancelling) in Inv d s (with_station d p u) g → Synchronises (pair_of s (with_station d p u) g) c k → Acked p.sent d s (pair_of s (with_station d p u) g).began c → (o.final_sent ≡ true → c ≡ 1 → Settled p.sent d s p.transaction) → Heeds d s u (with_station d p u) (synchronises u (record o { work = w; terminating = terminating; drone = d; phase = Cancelling }) c))
  on_synchronises p g t o w false c k i h acked settled = on_start p g t o w c k i h
  on_synchronises p g t o Clears true c k i h acked settled =
      let u = with_operation t (op (record o { work = Clears; terminating = true }) d Cancelling) in
      on_ended p g u 15 i (synced_can (pair_of s (with_station d p u) g) c k i.facts h) (omega arith) (end_cancelled d s p.sent p.cancelled p.opening (some_job (pair_of s (with_station d p u) g) i.facts (omega arith)) (i.operation.terminates refl))
  on_synchronises p g t o Gets true c k i h acked settled =
      let u = with_operation t (op (record o { work = Gets; terminating = true }) d Cancelling) in
      on_ended p g u 15 i (synced_can (pair_of s (with_station d p u) g) c k i.facts h) (omega arith) (end_cancelled d s p.sent p.cancelled p.opening (some_job (pair_of s (with_station d p u) g) i.facts (omega arith)) (i.operation.terminates refl))
  on_synchronises p g t o Uploads true c k i h acked settled =
      let u = with_operation t (op (record o { work = Uploads; terminating = true }) d Cancelling) in
      let v = with_station d p u in
      let q : Pair = pair_of s v g in
      let P : Told → Type 0 = λ n. Heeds d s u v (ends u d n) in
      let can : CanEnd q = synced_can q c k i.facts h in
      by_test P (o.final_sent && (c == 0)) _ _
      (λ e. let b = both_true _ _ e in on_installed p g u i can refl (synced_zero q k i.facts (subst (λ n. Synchronises q n k) (eq_true _ _ b.1) h) (flag_true _ b.0)))
      (λ not0. by_test P (o.final_sent && (c == 1)) _ _
      (λ e. let b = both_true _ _ e in let one : c ≡ 1 = eq_true _ _ b.1 in
      on_unknown p g u i can refl (synced_one q k i.facts (subst (λ n. Synchronises q n k) one h) (flag_true _ b.0)) (subst (λ n. Acked p.sent d s p.transaction.drone_since n) one acked) (i.operation.final b.0) (subst (λ n. Said p.sent s p.transaction.since (Ack (node_of d) 15 n)) i.operation.means.0 i.operation.cancel.0) (settled b.0 one))
      (λ not1. on_not_installed p g u (given_code o.code) i can refl (stage_one not0 not1) (cause o.code i.operation.coded)))
    where
      last_one : (c : ℕ) → AnswersCancel c → c ≢ 0 → c ≢ 1 → c ≡ 15
      last_one c s a b = grind arith

      right : (b : Bool) (n m : ℕ) → b ≡ true → (b && (n == m)) ≡ false → n ≢ m
      right true n m e f = eq_false n m f
      right false n m e f = absurd (cc)

      stage_one : (o.final_sent && (c == 0)) ≡ false → (o.final_sent && (c == 1)) ≡ false → stage_number p.transaction.stage ≡ 1
      stage_one n0 n1 =
          let q : Pair = pair_of s (with_station d p (with_operation t (op (record o { work = Uploads; terminating = true }) d Cancelling))) g in
          elim (bool_split o.final_sent) [
            | inl e ↦ synced_fifteen q k i.facts (subst (λ n. Synchronises q n k) (last_one c h.code (right o.final_sent c 0 e n0) (right o.final_sent c 1 e n1)) h) refl
            | inr e ↦ synced_early q c k i.facts h refl (flag_false _ e)
          ]

      cause : (code : Option ℕ) → Coded p.sent d s p.transaction code → (given_code code ≡ 15) ⊎ RefusedWith p.sent d s p.transaction (given_code code)
      cause None h = inl refl
      cause (Some n) h = inr h
