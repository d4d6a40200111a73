-- The station with an operation at the drone: a message of the drone, a cancel of its own, and a tick.
use Rattle.std.proofs.Common.{◌≡◌, ◌≢◌, ℕ, ◌+◌, ◌<◌, ◌≤◌, inl, inr, Bool, true, false, ◌==◌, ◌&&◌, ◌||◌, nat_lt, List, [], ◌∷◌, ◌++◌, length, take, Option, Some, None, refl, sym, ap, subst, arith, ◌∙◌}
use Rattle.std.specs.Prelude.{slice_get}
use Rattle.mav_names.specs.declared.names.Name.{Name}
use Rattle.mav_names.specs.declared.names.Stream.{Stream}
use Rattle.plan_items.specs.declared.items.Item.{Item}
use Rattle.plan_items.specs.declared.messages.PlanMsg.{PlanMsg}
use Rattle.plan_items.specs.declared.messages.PlanMsg.TheVariants.{Count, Request, Item as Give, Ack, Ping}
use Rattle.plan_items.specs.Kinds.{limit_of}
use Rattle.plan_upload.specs.Addresses.{node_of, everyone}
use Rattle.std.proofs.lemmas.List.{take_all}
use Rattle.plan_upload.specs.Drone.{idle_limit}
use Rattle.plan_upload.specs.Station.{StationState, StationStep, Operation, Work, Uploads, Clears, Gets, Phase, Pinging, Cancelling, Sending, Clearing, Listing_items, Getting, phase_number, addressee, stays, sends, becomes, terminated, refused, item_asked, upload_acked, counted, item_got, is_number, phase_step, idle_again, tries_again, pinged, phase_tick, phase_cancel, operation_cancel}
use Rattle.plan_safety.specs.Frames.{Frame, Said}
use Rattle.plan_safety.specs.Store.{Job, A_clear, A_get, Transaction, Acked, RefusesCount, RefusedWith}
use Rattle.plan_safety.proofs.Keys.{by_test, number_same, eq_true, eq_false, less, not_less, both_true, flag, flag_true, flag_false}
use Rattle.plan_safety.proofs.Part as Part
use Rattle.plan_safety.proofs.Lists.{in_range, next_front}
use Rattle.plan_safety.proofs.Pair.{Pair, Facts, SentByStation, SentByDrone, AnswersCancel, IsVerdict, hears, later_station, cancels, sends_item, marks_terminating, gets, pings, counts, a_ping, a_count, an_item, an_ack}
use Rattle.plan_safety.proofs.StationSide as side
use Rattle.plan_safety.proofs.Part.{Seen, Shows, kind_of, shown_of, shown_by, since_of, HasShown, IsShown, IsGet, GathersIn, Numbered, Terminates, Final, Settled, emptied_of, again_same, Operating, Operates, Part, Moments, pair_of, subject, Inv, keeps_truth, truths_keep, work_number, job_number, number_in, attempt_number, began_at, operates_more, final_more}
use Rattle.plan_safety.proofs.Acknowledgements.{IsAbout}
use Rattle.plan_safety.proofs.StationNews.{Silent, Cancels, SeesCleared, SeesPlan, Acted, Heeds, with_station, station_said, OfDrone, end_acked, end_too_many}
use Rattle.plan_safety.proofs.StationCases.{with_operation, op, op_sends, CanEnd, on_silent_attempt, on_attempt, on_synchronises, on_installed, on_ended, on_cleared, on_got, some_job}

-- the station has admitted the timestamp t, and its next one is n
abbrev pub heard : Part → ℕ → ℕ → Part
heard p t n = record p { station_last = t; station_next = n }

-- marks of an upload only rise
flag_or : (b c : Bool) → flag b ≤ flag (b || c)
flag_or true c = omega arith
flag_or false c = omega arith

flag_range : (b : Bool) → flag b ≤ 1
flag_range true = omega arith
flag_range false = omega arith

last_flag : (b : Bool) (i n : ℕ) → i + 1 ≡ n → flag (b || (i + 1 == n)) ≡ 1
last_flag true i n e = refl
last_flag false i n e = rw e (ap flag (number_same n))

-- no resynchronisation while an upload is sent
in_attempt : (p : Pair) → Facts p → p.phase ≡ 3 → 0 < p.first_ping → ⊥
in_attempt p f h x = grind arith

-- what is true of an item, and of a cancel
item_new : (p : Pair) (jkind kind total : ℕ) (plan : ℕ → Option Item) (last i : ℕ) (x : Item) → Facts p → p.phase ≡ 3 → i < total → plan i ≡ Some x → (i + 1 ≡ total → last ≡ 1) → SentByStation (sends_item p last) jkind kind total plan p.station_next (an_item i kind x)
item_new p jkind kind total plan last i x f h l is e = (omega arith, λ y. absurd (in_attempt p f h y), λ _ _. (refl, f.last_count_sent, refl, l, is, e))

cancel_new : (p : Pair) (jkind kind total : ℕ) (plan : ℕ → Option Item) (k : ℕ) → SentByStation (cancels p) jkind kind total plan p.station_next (an_ack 15 k)
cancel_new p jkind kind total plan k = (omega arith, λ _. omega arith, λ _ _ _. refl)

-- what an acknowledgement says in each phase
done_can : (p : Pair) (k : ℕ) → Facts p → p.phase ≡ 3 → p.asked ≡ 1 → SentByDrone p p.station_last (an_ack 0 k) → CanEnd p
done_can p k f ph a h = grind arith

done_stage : (p : Pair) (k : ℕ) → Facts p → p.phase ≡ 3 → p.asked ≡ 1 → SentByDrone p p.station_last (an_ack 0 k) → (p.stage ≡ 2) × (p.work ≡ 1)
done_stage p k f ph a h = grind arith

cleared_can : (p : Pair) (c k : ℕ) → Facts p → 3 < p.phase → p.phase < 6 → IsVerdict c → SentByDrone p p.station_last (an_ack c k) → p.station_last ≡ p.last_verdict → p.last_job ≤ p.drone_last → (4 < p.phase → p.now_shown ≡ 0) → CanEnd p × (1 < p.work)
cleared_can p c k f ph under a h z l w = grind arith

getting_can : (p : Pair) → Facts p → p.phase ≡ 6 → CanEnd p × (1 < p.work)
getting_can p f ph = grind arith

counted_can : (p : Pair) → Facts p → p.phase ≡ 5 → 0 < p.now_shown → p.station_last ≡ p.now_shown → CanEnd p × (1 < p.work)
counted_can p f ph some at = grind arith

-- codes, by their tests
refusing : (c : ℕ) → ((c == 3) || (c == 14)) ≡ true → IsVerdict c
refusing c e = grind arith

cancel_answered : (c : ℕ) → ((c == 0) || ((c == 1) || (c == 15))) ≡ true → AnswersCancel c
cancel_answered c e = grind arith

accepting : (c : ℕ) → (c == 0) ≡ true → IsVerdict c
accepting c e = grind arith

refusing_upload : (c : ℕ) → ((c == 3) || ((c == 4) || ((c == 5) || (c == 14)))) ≡ true → IsVerdict c
refusing_upload c e = grind arith

refusing_count : (c : ℕ) → ((c == 3) || ((c == 4) || ((c == 5) || (c == 14)))) ≡ true → RefusesCount c
refusing_count c e = grind arith

-- what is true of the frames that a tick sends again
ping_new : (p : Pair) (n : ℕ) → Facts p → p.phase ≡ 1 → n ≡ p.number → n < p.next_ping → SentByStation (pings p) 0 0 0 (λ x. None) p.station_next (a_ping n)
ping_new p n f h e l = grind arith

count_again : (p : Pair) (jkind kind total : ℕ) (plan : ℕ → Option Item) → Facts p → p.phase ≡ 3 → SentByStation (counts p) jkind kind total plan p.station_next (a_count total kind)
count_again p jkind kind total plan f h = grind arith

-- a resynchronised upload is terminating
still_terminating : (p : Pair) → Facts p → p.phase ≡ 2 → 0 < p.first_count → 0 < p.terminating
still_terminating p f h c = grind arith

no_count : (p : Pair) → Facts p → 3 < p.phase → 0 < p.first_count → ⊥
no_count p f h c = grind arith

-- the drone's frame was sent since the operation began
cancel_began : (p : Pair) → Facts p → p.phase ≡ 2 → p.began ≤ p.station_last
cancel_began p f h = grind arith

asked_opened : (p : Pair) → Facts p → p.asked ≡ 1 → (0 < p.first_open) × (p.first_open ≤ p.station_last)
asked_opened p f h = grind arith

getting_began : (p : Pair) → Facts p → p.phase ≡ 6 → p.began ≤ p.station_last
getting_began p f h = grind arith

-- the drone's timestamp when it began, of an upload and of another
began_other : (w : Work) (a b : ℕ) → 1 < work_number w → began_at w a b ≡ b
began_other Uploads a b h = absurd (omega arith)
began_other Clears a b h = refl
began_other Gets a b h = refl

-- in phase 4 a clear is open
clear_job : (p : Pair) → Facts p → p.phase ≡ 4 → p.job ≡ 1
clear_job p f h = grind arith

sees_cleared : (c : Option Seen) → number_in c (λ (x : Seen). job_number x.job) ≡ 1 → emptied_of c ≡ true → SeesCleared c
sees_cleared None e all = absurd (omega arith)
sees_cleared (Some c) e all = (by_job c.job e, all)
  where
    by_job : (j : Job) → job_number j ≡ 1 → j ≡ A_clear
    by_job A_clear e = refl
    by_job (A_get x) e = absurd (omega arith)

-- a download is open
is_get : (t : Transaction) (c : Option Seen) (w : Work) (kind : ℕ) (plan : List Item) → work_number w ≡ 3 → Part.Means t c w kind plan → IsGet kind c
is_get t c Uploads kind plan e h = absurd (omega arith)
is_get t c Clears kind plan e h = absurd (omega arith)
is_get t c Gets kind plan e h = h

-- what is known of the message that was heard: the moments before it
pub record Heard (p : Pair) (x : Option PlanMsg) : Type 0 where
  pub truth : SentByDrone p p.station_last x
  pub reply : p.phase ≡ 2 → p.first_reply < p.station_last
  pub request : (to : Name) (i k : ℕ) → x ≡ Some (Request to i k) → (0 < p.first_open) × (p.first_open ≤ p.station_last)
  pub verdict : (to : Name) (c k : ℕ) → x ≡ Some (Ack to c k) → 2 < p.phase → IsVerdict c → p.began ≤ p.station_last
  pub counted : (to : Name) (c k : ℕ) → x ≡ Some (Ack to c k) → p.phase ≡ 3 → IsVerdict c → p.counted ≤ p.station_last
  pub job : (to : Name) (c k : ℕ) → x ≡ Some (Ack to c k) → 3 < p.phase → IsVerdict c → (p.station_last ≡ p.last_verdict) × (p.last_job ≤ p.drone_last) × (4 < p.phase → p.now_shown ≡ 0)
  pub count : (to : Name) (n k : ℕ) → x ≡ Some (Count to n k) → p.phase ≡ 5 → (0 < p.now_shown) × (p.station_last ≡ p.now_shown)
  pub item : p.phase ≡ 6 → p.now_shown < p.station_last

-- the plan that is got
sees : (c : Option Seen) (plan : List Item) → HasShown c → plan ≡ shown_of c → SeesPlan c plan
sees None plan h e = absurd h
sees (Some c) plan h e = by_job c.job h e
  where
    by_job : (w : Job) → IsShown w → plan ≡ shown_by w → w ≡ A_get (Some plan)
    by_job A_clear h e = absurd h
    by_job (A_get None) h e = absurd h
    by_job (A_get (Some x)) h e = ap (λ y. A_get (Some y)) (sym e)

-- no item
none_got : (x : List Item) → length x ≡ 0 → [] ≡ x
none_got [] e = refl
none_got (y ∷ ys) e = absurd (omega arith)

-- the number of this attempt's PING
number_is : (pings seq : ℕ) (n : Option ℕ) → is_number n seq ≡ true → seq ≡ attempt_number pings n
number_is pings seq None e = absurd (cc)
number_is pings seq (Some n) e = sym (eq_true n seq e)

-- what an acknowledgement with this code says of an upload that ends unknown, and of a clear that ends
abbrev pub Concludes : Stream → Stream → List Frame → Transaction → Option Seen → Pair → ℕ → Type 0
Concludes d s sent t c q code =
    (q.phase ≡ 2 → q.final_sent ≡ 1 → code ≡ 1 → Settled sent d s t) × (q.phase ≡ 4 → code ≡ 0 → emptied_of c ≡ true)

-- a cancelled operation may terminate
terminates_cancelled : (w : Work) (b : Bool) → Terminates true w b
terminates_cancelled Uploads b = tt
terminates_cancelled Clears b = λ _. refl
terminates_cancelled Gets b = λ _. refl

operates_cancelled : (d s : Stream) (sent : List Frame) (t : Transaction) (c : Option Seen) (cancelled : Bool) (pings : ℕ) (o : Option Operation) → Operates d s sent t c cancelled pings o → Operates d s sent t c true pings o
operates_cancelled d s sent t c cancelled pings None h = tt
operates_cancelled d s sent t c cancelled pings (Some o) h = record { means = h.means; numbered = h.numbered; coded = h.coded; terminates = terminates_cancelled o.work o.terminating; gathers = h.gathers; final = h.final; cancel = h.cancel }

-- in phase 3 no PING was answered
sending_settled : (p : Pair) → Facts p → p.phase ≡ 3 → 0 < p.first_reply → ⊥
sending_settled p f ph some = grind arith

module _ (d s : Stream) (ne : d ≢ s) where
  -- the pair after a frame was admitted
  pub inv_heard : (p : Part) (g : Moments) (t n : ℕ) → Inv d s p g → p.station_last < t → t < p.drone_next → p.station_next ≤ n → Inv d s (heard p t n) g
  inv_heard p g t n i late known more =
      let q : Pair = pair_of s p g in
      let f : Facts (hears q t) = side.hears_facts q t i.facts late known in
      let j = subject p.transaction p.opening in
      record {
        facts = side.later_station_facts (hears q t) n f more;
        truths = truths_keep d s q (later_station (hears q t) n) j j (λ x earlier y. keeps_truth d s (hears q t) (later_station (hears q t) n) j
            (record { drone_next = omega arith; station_next = more; shows = λ a b. (a, refl); again = again_same _ _ refl refl refl (omega arith); drone = λ v x. side.later_station_drone (hears q t) n v x f more; station = λ ck k tt' l v x. side.later_station_station (hears q t) n ck k tt' l v x f more }) x earlier
            (keeps_truth d s q (hears q t) j (record { drone_next = omega arith; station_next = omega arith; shows = λ a b. (a, refl); again = again_same _ _ refl refl refl (omega arith); drone = λ v x. side.hears_drone q t v x i.facts late known; station = λ ck k tt' l v x. side.hears_station q t ck k tt' l v x i.facts late known }) x earlier y)) p.sent i.truths;
        upload = i.upload;
        operation = i.operation;
        for_drone = i.for_drone;
        since = (let z = i.since in omega arith);
        since_count = i.since_count;
        count = i.count;
        download = i.download;
        asked = i.asked;
        answers = i.answers;
      }

  -- nothing changes
  pub rested : (p : Part) (g : Moments) (t : StationState) → Inv d s (with_station d p t) g → OfDrone d t.operation → Heeds d s t (with_station d p t) (stays t)
  rested p g t i o = record { needs = tt; moments = g; inv = i; sends_to = tt; of_drone = o; synced = λ _ _. omega arith; pings = omega arith; me = refl }

  -- the same operation but for what doesn't enter the pair, with nothing sent
  waits : (p : Part) (g : Moments) (t : StationState) (o : Operation) (f : Phase) → (let u = with_operation t (op o d f) in Inv d s (with_station d p u) g → Heeds d s u (with_station d p u) (tries_again u (record o { drone = d; phase = f }) None))
  waits p g t o f i = record {
    needs = tt;
    moments = g;
    sends_to = tt;
    of_drone = refl;
    synced = λ _ _. omega arith;
    pings = omega arith;
    me = refl;
    inv = record {
      facts = i.facts;
      truths = i.truths;
      upload = i.upload;
      operation = record { means = i.operation.means; numbered = i.operation.numbered; coded = i.operation.coded; terminates = i.operation.terminates; gathers = i.operation.gathers; final = i.operation.final; cancel = i.operation.cancel };
      for_drone = i.for_drone;
      since = i.since;
      since_count = i.since_count;
      count = i.count;
      download = i.download;
      asked = i.asked;
      answers = i.answers;
    };
  }

  -- the code of an Ack of the drone
  acked_with : (p : Part) (to : Name) (c k since : ℕ) → to ≡ node_of s → Said p.sent d since (Ack to c k) → Acked p.sent d s since c
  acked_with p to c k since is h = (k, subst (λ y. Said p.sent d since (Ack y c k)) is h)

  -- the reply to the PING
  on_reply : (p : Part) (g : Moments) (t : StationState) (o : Operation) → (let u = with_operation t (op o d Pinging) in Inv d s (with_station d p u) g → 0 < g.first_reply → g.first_reply ≤ p.station_last → Heeds d s u (with_station d p u) (sends u (record o { drone = d; phase = Cancelling }) (Ack (node_of d) 15 o.kind)))
  on_reply p g t o i some late =
      let v = with_station d p (with_operation t (op o d Pinging)) in
      let q : Pair = pair_of s v g in
      record {
        needs = tt;
        moments = record g { last_cancel = p.station_next };
        sends_to = refl;
        of_drone = refl;
        synced = λ _ _. omega arith;
        pings = omega arith;
        me = refl;
        inv =
            station_said d s ne v g (record g { last_cancel = p.station_next }) (with_operation t (op o d Cancelling)) (Ack (node_of d) 15 o.kind) (cancels q) i refl
            (side.cancels_facts q i.facts refl some late)
            (record { drone_next = omega arith; station_next = omega arith; shows = λ a b. absurd (omega arith); again = record { attempt = λ _ b. inl (refl, b); clear = λ a. absurd (omega arith) }; drone = λ u x. side.cancels_drone q u x i.facts refl some late; station = λ ck k n l u x. side.cancels_station q ck k n l u x i.facts refl some late })
            (cancel_new q 0 0 0 (λ x. None) o.kind) refl (omega arith)
            (op_sends d s p.sent _ p.transaction p.opening p.cancelled t.pings t.pings (record o { drone = d; phase = Pinging }) Cancelling o.idle o.asked o.final_sent o.number o.total o.got i.operation i.operation.numbered tt (λ e. final_more d s p.sent _ p.transaction (i.operation.final e)) (inl (refl, i.since, refl), λ e. inl (refl, refl, i.operation.final e)))
            i.since_count (λ x. inr (i.count x)) (λ x. ((i.asked x).0, inr (i.asked x).1)) (λ ph. absurd (omega arith));
      }

  -- MISSION_REQUEST_INT
  on_item_asked : (p : Part) (g : Moments) (t : StationState) (o : Operation) (seq : ℕ) (x : Option Item) → (let u = with_operation t (op (record o { work = Uploads }) d Sending) in Inv d s (with_station d p u) g → 0 < g.first_open → g.first_open ≤ p.station_last → slice_get o.plan seq ≡ x → Heeds d s u (with_station d p u) (item_asked u (record o { work = Uploads; drone = d; phase = Sending }) seq x))
  on_item_asked p g t o seq None i some late is = rested p g (with_operation t (op (record o { work = Uploads }) d Sending)) i refl
  on_item_asked p g t o seq (Some x) i some late is =
      let o' : Operation = record o { work = Uploads; drone = d; phase = Sending } in
      let v = with_station d p (with_operation t (Some o')) in
      let q : Pair = pair_of s v g in
      let within : seq < length o.plan = in_range o.plan seq x is in
      let marked : Bool = o.final_sent || (seq + 1 == length o.plan) in
      let last = flag marked in
      let up : q.final_sent ≤ last = flag_or o.final_sent _ in
      let one : last ≤ 1 = flag_range _ in
      record {
        needs = tt;
        moments = g;
        sends_to = refl;
        of_drone = refl;
        synced = λ _ _. omega arith;
        pings = omega arith;
        me = refl;
        inv =
            station_said d s ne v g g (with_operation t (op (record o { work = Uploads; asked = true; idle = 0; final_sent = marked }) d Sending)) (Give (node_of d) seq o.kind x) (sends_item q last) i refl
            (side.sends_item_facts q last i.facts refl some late up one)
            (record { drone_next = omega arith; station_next = omega arith; shows = λ a b. (a, refl); again = record { attempt = λ a _. absurd (sending_settled q i.facts refl a); clear = λ a. absurd (omega arith) }; drone = λ u x. side.sends_item_drone q last u x i.facts refl some late up one; station = λ ck k n l u x. side.sends_item_station q last ck k n l u x i.facts refl some late up one })
            (subst (λ (l : List Item). SentByStation (sends_item q last) (kind_of p.opening) p.transaction.kind (length l) (slice_get l) p.station_next (an_item seq o.kind x)) i.operation.means.1
            (subst (λ k. SentByStation (sends_item q last) (kind_of p.opening) k (length o.plan) (slice_get o.plan) p.station_next (an_item seq o.kind x)) i.operation.means.0
            (item_new q (kind_of p.opening) o.kind (length o.plan) (slice_get o.plan) last seq x i.facts refl within is (last_flag o.final_sent seq (length o.plan)))))
            refl (omega arith)
            (op_sends d s p.sent _ p.transaction p.opening p.cancelled t.pings t.pings o' Sending 0 true marked o.number o.total o.got i.operation i.operation.numbered tt (λ e. final_now p.sent p.transaction o.final_sent i.operation.final i.operation.means.0 i.operation.means.1 e i.since) tt)
            i.since_count (λ x. inr (i.count x)) (λ x. ((i.asked x).0, inr (i.asked x).1)) i.answers;
      }
    where
      final_now : (sent : List Frame) (tr : Transaction) (b : Bool) → (b ≡ true → Final sent d s tr) → o.kind ≡ tr.kind → o.plan ≡ tr.plan → (b || (seq + 1 == length o.plan)) ≡ true → tr.since ≤ p.station_next → Final (record { from = s; timestamp = p.station_next; message = Some (Give (node_of d) seq o.kind x) } ∷ sent) d s tr
      final_now sent tr true h ek ep e l = final_more d s sent _ tr (h refl)
      final_now sent tr false h ek ep e l = (seq, x, eq_true _ _ e ∙ ap length ep, subst (λ y. slice_get y seq ≡ Some x) ep is, inl (refl, l, ap (λ k. Some (Give (node_of d) seq k x)) ek))

  -- only an upload sends
  sending_work : (p : Pair) → Facts p → p.phase ≡ 3 → p.work ≡ 1
  sending_work p f h = grind arith

  -- only a download lists
  listing_work : (p : Pair) → Facts p → 4 < p.phase → p.work ≡ 3
  listing_work p f h = grind arith

  -- the count of the plan that was shown
  on_counted : (p : Part) (g : Moments) (t : StationState) (o : Operation) (n : ℕ) → (let u = with_operation t (op o d Listing_items) in let q = pair_of s (with_station d p u) g in Inv d s (with_station d p u) g → 0 < q.now_shown → q.station_last ≡ q.now_shown → n ≡ length (shown_of p.opening) → HasShown p.opening → Heeds d s u (with_station d p u) (counted u (record o { drone = d; phase = Listing_items }) n))
  on_counted p g t o n i some at len has =
      let u = with_operation t (op o d Listing_items) in
      let v = with_station d p u in
      let q : Pair = pair_of s v g in
      let can = counted_can q i.facts refl some at in
      let late : q.now_shown ≤ q.station_last = omega arith in
      by_test (Heeds d s u v) (n == 0) _ _
      (λ z. on_got d s ne p g u o.kind [] i can.0 can.1 (sees p.opening [] has (none_got (shown_of p.opening) (let y : n ≡ 0 = eq_true _ _ z in omega arith))))
      (λ nz. let more : 0 < n = above n nz in
      by_test (Heeds d s u v) (nat_lt (limit_of o.kind) n) _ _
      (λ l. on_ended d s ne p g u 4 i can.0 can.1 (end_too_many d s p.sent p.cancelled p.opening o.kind n (is_get p.transaction p.opening o.work o.kind o.plan (listing_work q i.facts (omega arith)) i.operation.means) more len (less _ _ l)))
      (λ _. record {
        needs = tt;
        moments = g;
        sends_to = refl;
        of_drone = refl;
        synced = λ _ _. omega arith;
        pings = omega arith;
        me = refl;
        inv =
            station_said d s ne v g g (with_operation t (op (record o { idle = 0; total = n; got = [] }) d Getting)) (Request (node_of d) 0 o.kind) (gets q) i refl
            (side.gets_facts q i.facts refl some late)
            (record { drone_next = omega arith; station_next = omega arith; shows = λ a b. (omega arith, refl); again = record { attempt = λ _ b. inl (refl, b); clear = λ a. absurd (omega arith) }; drone = λ u x. side.gets_drone q u x i.facts refl some late; station = λ ck k n l u x. side.gets_station q ck k n l u x i.facts refl some late })
            ((let z : p.station_next < p.station_next + 1 = omega arith in z), λ c. absurd (no_count q i.facts (omega arith) c)) refl (omega arith)
            (op_sends d s p.sent _ p.transaction p.opening p.cancelled t.pings t.pings (record o { drone = d; phase = Listing_items }) Getting 0 o.asked o.final_sent o.number n [] i.operation i.operation.numbered (refl, subst (λ n. 0 < n) len more, len) (λ e. final_more d s p.sent _ p.transaction (i.operation.final e)) tt)
            i.since_count (λ x. inr (i.count x)) (λ x. ((i.asked x).0, inr (i.asked x).1)) (λ ph. absurd (omega arith));
      }))
    where
      above : (n : ℕ) → (n == 0) ≡ false → 0 < n
      above n e = grind arith

  -- the next item of the plan that was shown
  on_item_got : (p : Part) (g : Moments) (t : StationState) (o : Operation) (item : Item) → (let u = with_operation t (op o d Getting) in Inv d s (with_station d p u) g → slice_get (shown_of p.opening) (length o.got) ≡ Some item → HasShown p.opening → Heeds d s u (with_station d p u) (item_got u (record o { drone = d; phase = Getting }) (o.got ++ item ∷ [])))
  on_item_got p g t o item i is has =
      let u = with_operation t (op o d Getting) in
      let v = with_station d p u in
      let q : Pair = pair_of s v g in
      let items = o.got ++ item ∷ [] in
      let plan = shown_of p.opening in
      let gathers = i.operation.gathers in
      let front : items ≡ take (length items) plan = next_front plan o.got item gathers.0 is in
      let can = getting_can q i.facts refl in
      by_test (Heeds d s u v) (nat_lt (length items) o.total) _ _
      (λ short. record {
        needs = tt;
        moments = g;
        sends_to = refl;
        of_drone = refl;
        synced = λ _ _. omega arith;
        pings = omega arith;
        me = refl;
        inv =
            station_said d s ne v g g (with_operation t (op (record o { idle = 0; got = items }) d Getting)) (Request (node_of d) (length items) o.kind) (pings q) i refl
            (side.pings_facts q i.facts)
            (record { drone_next = omega arith; station_next = omega arith; shows = λ a b. (a, refl); again = again_same _ _ refl refl refl (omega arith); drone = λ u x. side.pings_drone q u x i.facts; station = λ ck k n l u x. side.pings_station q ck k n l u x i.facts })
            ((let z : p.station_next < p.station_next + 1 = omega arith in z), λ c. absurd (no_count q i.facts (omega arith) c)) refl (omega arith)
            (op_sends d s p.sent _ p.transaction p.opening p.cancelled t.pings t.pings (record o { drone = d; phase = Getting }) Getting 0 o.asked o.final_sent o.number o.total items i.operation i.operation.numbered (front, subst (λ n. length items < n) gathers.2 (less _ _ short), gathers.2) (λ e. final_more d s p.sent _ p.transaction (i.operation.final e)) tt)
            i.since_count (λ x. inr (i.count x)) (λ x. ((i.asked x).0, inr (i.asked x).1)) (λ ph. absurd (omega arith));
      })
      (λ long. on_got d s ne p g u o.kind items i can.0 can.1 (sees p.opening items has (front ∙ take_all (length items) plan (subst (λ n. n ≤ length items) gathers.2 (not_less _ _ long)))))

  -- an upload is refused, or given up
  on_refused : (p : Part) (g : Moments) (t : StationState) (o : Operation) (c : ℕ) → (let u = with_operation t (op (record o { work = Uploads }) d Sending) in Inv d s (with_station d p u) g → RefusedWith p.sent d s p.transaction c → Heeds d s u (with_station d p u) (refused u (record o { work = Uploads; drone = d; phase = Sending }) c))
  on_refused p g t o c i by = on_attempt d s ne p g t (record o { work = Uploads }) Sending (Some c) true i (λ _. omega arith) by tt

  -- an acknowledgement while the upload is sent
  on_upload_acked : (p : Part) (g : Moments) (t : StationState) (o : Operation) (to : Name) (c k : ℕ) → (let u = with_operation t (op (record o { work = Uploads }) d Sending) in Inv d s (with_station d p u) g → Heard (pair_of s (with_station d p u) g) (Some (Ack to c k)) → (IsAbout g.counted g.first_open p.station_last c → RefusedWith p.sent d s p.transaction c) → Heeds d s u (with_station d p u) (upload_acked u (record o { work = Uploads; drone = d; phase = Sending }) c))
  on_upload_acked p g t o to c k i h by =
      let u = with_operation t (op (record o { work = Uploads }) d Sending) in
      let P : StationStep → Type 0 = Heeds d s u (with_station d p u) in
      let q : Pair = pair_of s (with_station d p u) g in
      by_test P o.asked _ _
      (λ asked.
      by_test P (c == 0) _ _
      (λ z. by_test P o.final_sent _ _
      (λ last. let tr = subst (λ n. SentByDrone q q.station_last (an_ack n k)) (eq_true _ _ z) h.truth in
      let r = done_stage q k i.facts refl (flag_true _ asked) tr in
      on_installed d s ne p g u i (done_can q k i.facts refl (flag_true _ asked) tr) refl r.0)
      (λ _. rested p g u i refl))
      (λ not0. let b = asked_opened q i.facts (flag_true _ asked) in on_refused p g t o c i (by (inr (b.0, b.1, eq_false c 0 not0)))))
      (λ _. by_test P ((c == 3) || ((c == 4) || ((c == 5) || (c == 14)))) _ _
      (λ e. on_refused p g t o c i (by (inl (h.counted to c k refl refl (refusing_upload c e), refusing_count c e))))
      (λ _. rested p g u i refl))

  -- a verdict ends a clear or a download: the drone's code since it began
  ended_by : (p : Part) (w : Work) (to : Name) (c k : ℕ) → 1 < work_number w → to ≡ node_of s → ((since : ℕ) → since ≤ p.station_last → Said p.sent d since (Ack to c k)) → began_at w p.transaction.drone_since (since_of p.opening) ≤ p.station_last → Acked p.sent d s (since_of p.opening) c
  ended_by p w to c k more me said began = acked_with p to c k (since_of p.opening) me (said (since_of p.opening) (subst (λ n. n ≤ p.station_last) (began_other w p.transaction.drone_since (since_of p.opening) more) began))

  -- each message of the drone, by the phase
  pub on_hears : (p : Part) (g : Moments) (t : StationState) (o : Operation) (w : Work) (f : Phase) (x : PlanMsg) → (let u = with_operation t (op (record o { work = w }) d f) in Inv d s (with_station d p u) g → Heard (pair_of s (with_station d p u) g) (Some x) → Shows (pair_of s (with_station d p u) g) (kind_of p.opening) (shown_of p.opening) p.station_last (Some x) → addressee x ≡ node_of s → ((since : ℕ) → since ≤ p.station_last → Said p.sent d since x) → ((to : Name) (c k : ℕ) → x ≡ Ack to c k → (pair_of s (with_station d p u) g).phase ≡ 3 → IsAbout g.counted g.first_open p.station_last c → RefusedWith p.sent d s p.transaction c) → ((to : Name) (c k : ℕ) → x ≡ Ack to c k → Concludes d s p.sent p.transaction p.opening (pair_of s (with_station d p u) g) c) → Heeds d s u (with_station d p u) (phase_step u (record o { work = w; drone = d; phase = f }) f x))
  on_hears p g t o w Pinging (Ping to usec n) i h sh me said by set =
      let u = with_operation t (op (record o { work = w }) d Pinging) in
      let q : Pair = pair_of s (with_station d p u) g in
      by_test (Heeds d s u (with_station d p u)) ((usec == t.boot) && is_number o.number n) _ _
      (λ e. let r = h.truth.2 (i.facts.phase_attempt (omega arith) (omega arith)) (number_is t.pings n o.number (both_true _ _ e).1) in on_reply p g t (record o { work = w }) i r.0 r.1)
      (λ _. rested p g u i refl)
  on_hears p g t o w Cancelling (Ack to c k) i h sh me said by set =
      let u = with_operation t (op (record o { work = w }) d Cancelling) in
      let q : Pair = pair_of s (with_station d p u) g in
      by_test (Heeds d s u (with_station d p u)) ((c == 0) || ((c == 1) || (c == 15))) _ _
      (λ e. on_synchronises d s ne p g t o w o.terminating c k i (record { phase = refl; late = h.reply refl; code = cancel_answered c e; truth = h.truth }) (acked_with p to c k q.began me (said q.began (cancel_began q i.facts refl))) (λ last one. (set to c k refl).0 refl (ap flag last) one))
      (λ _. rested p g u i refl)
  on_hears p g t o Uploads Sending (Request to seq k) i h sh me said by set =
      let u = with_operation t (op (record o { work = Uploads }) d Sending) in
      by_test (Heeds d s u (with_station d p u)) (k == o.kind) _ _
      (λ _. let r = h.request to seq k refl in on_item_asked p g t o seq (slice_get o.plan seq) i r.0 r.1 refl)
      (λ _. rested p g u i refl)
  on_hears p g t o Clears Sending x i h sh me said by set = absurd (let z : (pair_of s (with_station d p (with_operation t (op (record o { work = Clears }) d Sending))) g).work ≡ 1 = sending_work _ i.facts refl in omega arith)
  on_hears p g t o Gets Sending x i h sh me said by set = absurd (let z : (pair_of s (with_station d p (with_operation t (op (record o { work = Gets }) d Sending))) g).work ≡ 1 = sending_work _ i.facts refl in omega arith)
  on_hears p g t o Uploads Sending (Ack to c k) i h sh me said by set = on_upload_acked p g t o to c k i h (by to c k refl refl)
  on_hears p g t o w Clearing (Ack to c k) i h sh me said by set =
      let u = with_operation t (op (record o { work = w }) d Clearing) in
      let q : Pair = pair_of s (with_station d p u) g in
      let P : StationStep → Type 0 = Heeds d s u (with_station d p u) in
      by_test P (c == 0) _ _
      (λ e. let r = h.job to c k refl (omega arith) (accepting c e) in let b = cleared_can q c k i.facts (omega arith) (omega arith) (accepting c e) h.truth r.0 r.1 r.2 in on_cleared d s ne p g u i b.0 b.1 (sees_cleared p.opening (clear_job q i.facts refl) ((set to c k refl).1 refl (eq_true c 0 e))))
      (λ _. by_test P ((c == 3) || (c == 14)) _ _
      (λ e. let r = h.job to c k refl (omega arith) (refusing c e) in let b = cleared_can q c k i.facts (omega arith) (omega arith) (refusing c e) h.truth r.0 r.1 r.2 in
      on_ended d s ne p g u c i b.0 b.1 (end_acked d s p.sent p.cancelled p.opening c (some_job q i.facts b.1) (ended_by p w to c k b.1 me said (h.verdict to c k refl (omega arith) (refusing c e)))))
      (λ _. rested p g u i refl))
  on_hears p g t o w Listing_items (Ack to c k) i h sh me said by set =
      let u = with_operation t (op (record o { work = w }) d Listing_items) in
      let q : Pair = pair_of s (with_station d p u) g in
      by_test (Heeds d s u (with_station d p u)) ((c == 3) || (c == 14)) _ _
      (λ e. let r = h.job to c k refl (omega arith) (refusing c e) in let b = cleared_can q c k i.facts (omega arith) (omega arith) (refusing c e) h.truth r.0 r.1 r.2 in
      on_ended d s ne p g u c i b.0 b.1 (end_acked d s p.sent p.cancelled p.opening c (some_job q i.facts b.1) (ended_by p w to c k b.1 me said (h.verdict to c k refl (omega arith) (refusing c e)))))
      (λ _. rested p g u i refl)
  on_hears p g t o w Listing_items (Count to n k) i h sh me said by set =
      let u = with_operation t (op (record o { work = w }) d Listing_items) in
      by_test (Heeds d s u (with_station d p u)) (k == o.kind) _ _
      (λ _. let c = h.count to n k refl refl in let now : g.now_shown ≤ p.station_last = (let z = c.1 in omega arith) in let y = sh (omega arith) c.0 now in let x = i.download (omega arith) c.0 in on_counted p g t (record o { work = w }) n i c.0 c.1 y.1 x.0)
      (λ _. rested p g u i refl)
  on_hears p g t o w Getting (Give to seq k x) i h sh me said by set =
      let u = with_operation t (op (record o { work = w }) d Getting) in
      by_test (Heeds d s u (with_station d p u)) ((k == o.kind) && (seq == length o.got)) _ _
      (λ e. let some : 0 < g.now_shown = i.facts.getting_listed refl in let late : g.now_shown < p.station_last = h.item refl in let far : 4 < 6 = omega arith in let y = sh far some late in let at : seq ≡ length o.got = eq_true seq (length o.got) (both_true (k == o.kind) (seq == length o.got) e).1 in
      on_item_got p g t (record o { work = w }) x i (subst (λ n. slice_get (shown_of p.opening) n ≡ Some x) at y.1) (i.download far some).0)
      (λ _. rested p g u i refl)
  on_hears p g t o w Getting (Ack to c k) i h sh me said by set =
      let u = with_operation t (op (record o { work = w }) d Getting) in
      let q : Pair = pair_of s (with_station d p u) g in
      by_test (Heeds d s u (with_station d p u)) (c == 0) _ _
      (λ _. rested p g u i refl)
      (λ _. let b = getting_can q i.facts refl in on_ended d s ne p g u c i b.0 b.1 (end_acked d s p.sent p.cancelled p.opening c (some_job q i.facts b.1) (ended_by p w to c k b.1 me said (getting_began q i.facts refl))))
  on_hears p g t o w f x i h sh me said by set = rested p g (with_operation t (op (record o { work = w }) d f)) i refl

  -- a cancel of the station's own, if it was marked in the store
  marked : (p : Part) (g : Moments) (t : StationState) (o : Operation) (f : Phase) → phase_number f < 3 → (let u = with_operation t (op o d f) in Inv d s (with_station d (record p { cancelled = true }) u) g → Heeds d s u (with_station d (record p { cancelled = true }) u) (becomes u (record o { terminating = true; drone = d; phase = f })))
  marked p g t o f l i =
      let v = with_station d (record p { cancelled = true }) (with_operation t (op o d f)) in
      let q : Pair = pair_of s v g in
      let r : 0 < q.first_ping = i.facts.phase_attempt (i.facts.work_phase (work_some o.work)) l in
      let j = subject p.transaction p.opening in
      record {
        needs = tt;
        moments = g;
        sends_to = tt;
        of_drone = refl;
        synced = λ _ _. omega arith;
        pings = omega arith;
        me = refl;
        inv = record {
          facts = side.marks_terminating_facts q i.facts r;
          truths = truths_keep d s q (marks_terminating q) j j (keeps_truth d s q (marks_terminating q) j (record { drone_next = omega arith; station_next = omega arith; shows = λ a b. (a, refl); again = again_same _ _ refl refl refl (omega arith); drone = λ u x. side.marks_terminating_drone q u x i.facts r; station = λ ck k n y u x. side.marks_terminating_station q ck k n y u x i.facts r })) p.sent i.truths;
          upload = i.upload;
          operation = record { means = i.operation.means; numbered = i.operation.numbered; coded = i.operation.coded; terminates = terminates_cancelled o.work true; gathers = i.operation.gathers; final = i.operation.final; cancel = i.operation.cancel };
          for_drone = i.for_drone;
          since = i.since;
          since_count = i.since_count;
          count = i.count;
          download = i.download;
          asked = i.asked;
          answers = i.answers;
        };
      }
    where
      work_some : (w : Work) → 0 < work_number w
      work_some Uploads = omega arith
      work_some Clears = omega arith
      work_some Gets = omega arith

  -- the mark alone changes nothing
  inv_cancelled : (p : Part) (g : Moments) → Inv d s p g → Inv d s (record p { cancelled = true }) g
  inv_cancelled p g i = record {
    facts = i.facts;
    truths = i.truths;
    upload = i.upload;
    operation = operates_cancelled d s p.sent p.transaction p.opening p.cancelled p.pings p.operation i.operation;
    for_drone = i.for_drone;
    since = i.since;
    since_count = i.since_count;
    count = i.count;
    download = i.download;
    asked = i.asked;
    answers = i.answers;
  }

  -- a step with the mark set is a cancel
  as_cancel : (p : Part) (t : StationState) (a : StationStep) → Acted d s t (record p { cancelled = true }) a Silent → Acted d s t p a Cancels
  as_cancel p t a h = record { needs = tt; moments = h.moments; inv = h.inv; of_drone = h.of_drone; sends_to = h.sends_to; synced = h.synced; pings = h.pings; me = h.me }

  -- a cancel that resynchronises
  attempt_cancelled : (p : Part) (g : Moments) (t : StationState) (o : Operation) (f : Phase) → (let u = with_operation t (op o d f) in Inv d s (with_station d (record p { cancelled = true }) u) g → Acted d s u (with_station d p u) (terminated u (record o { drone = d; phase = f })) Cancels)
  attempt_cancelled p g t o f i =
      let u = with_operation t (op o d f) in
      as_cancel (with_station d p u) u (terminated u (record o { drone = d; phase = f }))
      (on_silent_attempt d s ne (record p { cancelled = true }) g t o f o.code true i (λ _. omega arith) i.operation.coded (terminates_cancelled o.work true))

  -- a cancel, by the phase
  pub on_cancel : (p : Part) (g : Moments) (t : StationState) (o : Operation) (f : Phase) → (let u = with_operation t (op o d f) in Inv d s (with_station d p u) g → Acted d s u (with_station d p u) (operation_cancel u (op o d f)) Cancels)
  on_cancel p g t o f before =
      let u = with_operation t (op o d f) in
      let i = inv_cancelled (with_station d p u) g before in
      by_test (λ a. Acted d s u (with_station d p u) a Cancels) o.terminating _ _
      (λ _. as_cancel (with_station d p u) u (stays u) (rested (record p { cancelled = true }) g u i refl))
      (λ _. by_phase f i)
    where
      by_phase : (f : Phase) → (let u = with_operation t (op o d f) in Inv d s (with_station d (record p { cancelled = true }) u) g → Acted d s u (with_station d p u) (phase_cancel u (record o { drone = d; phase = f }) f) Cancels)
      by_phase Pinging i = let u = with_operation t (op o d Pinging) in as_cancel (with_station d p u) u (becomes u (record o { terminating = true; drone = d; phase = Pinging })) (marked p g t o Pinging (omega arith) i)
      by_phase Cancelling i = let u = with_operation t (op o d Cancelling) in as_cancel (with_station d p u) u (becomes u (record o { terminating = true; drone = d; phase = Cancelling })) (marked p g t o Cancelling (omega arith) i)
      by_phase Sending i = attempt_cancelled p g t o Sending i
      by_phase Clearing i = attempt_cancelled p g t o Clearing i
      by_phase Listing_items i = attempt_cancelled p g t o Listing_items i
      by_phase Getting i = attempt_cancelled p g t o Getting i

  -- a tick: the same PING again
  on_pinged : (p : Part) (g : Moments) (t : StationState) (o : Operation) (n : Option ℕ) → (let u = with_operation t (op (record o { number = n }) d Pinging) in Inv d s (with_station d p u) g → Heeds d s u (with_station d p u) (pinged u n))
  on_pinged p g t o None i = rested p g (with_operation t (op (record o { number = None }) d Pinging)) i refl
  on_pinged p g t o (Some n) i =
      let o' : Operation = record o { number = Some n; drone = d; phase = Pinging } in
      let u = with_operation t (Some o') in
      let v = with_station d p u in
      let q : Pair = pair_of s v g in
      let used : n ≤ t.pings = i.operation.numbered in
      record {
        needs = tt;
        moments = g;
        sends_to = refl;
        of_drone = refl;
        synced = λ _ _. omega arith;
        pings = omega arith;
        me = refl;
        inv =
            station_said d s ne v g g u (Ping everyone t.boot n) (pings q) i refl
            (side.pings_facts q i.facts)
            (record { drone_next = omega arith; station_next = omega arith; shows = λ a b. (a, refl); again = again_same _ _ refl refl refl (omega arith); drone = λ u x. side.pings_drone q u x i.facts; station = λ ck k n l u x. side.pings_station q ck k n l u x i.facts })
            (ping_new q n i.facts refl refl (omega arith)) tt (omega arith)
            (op_sends d s p.sent _ p.transaction p.opening p.cancelled t.pings t.pings o' Pinging o.idle o.asked o.final_sent (Some n) o.total o.got i.operation used tt (λ e. final_more d s p.sent _ p.transaction (i.operation.final e)) tt)
            i.since_count (λ x. inr (i.count x)) (λ x. ((i.asked x).0, inr (i.asked x).1)) (λ ph. absurd (omega arith));
      }

  -- a tick: the Count again
  on_recount : (p : Part) (g : Moments) (t : StationState) (o : Operation) → o.asked ≡ false → (let u = with_operation t (op (record o { work = Uploads }) d Sending) in Inv d s (with_station d p u) g → Heeds d s u (with_station d p u) (tries_again u (record o { work = Uploads; drone = d; phase = Sending }) (Some (Count (node_of d) (length o.plan) o.kind))))
  on_recount p g t o not_asked i =
      let o' : Operation = record o { work = Uploads; drone = d; phase = Sending } in
      let u = with_operation t (Some o') in
      let v = with_station d p u in
      let q : Pair = pair_of s v g in
      let ek : o.kind ≡ p.transaction.kind = i.operation.means.0 in
      let ep : length o.plan ≡ length p.transaction.plan = ap length i.operation.means.1 in
      let a : q.asked ≡ 0 = flag_false _ not_asked in
      record {
        needs = tt;
        moments = record g { last_count = p.station_next };
        sends_to = refl;
        of_drone = refl;
        synced = λ _ _. omega arith;
        pings = omega arith;
        me = refl;
        inv =
            station_said d s ne v g (record g { last_count = p.station_next }) (with_operation t (Some (idle_again o'))) (Count (node_of d) (length o.plan) o.kind) (counts q) i refl
            (side.counts_facts q i.facts refl a)
            (record { drone_next = omega arith; station_next = omega arith; shows = λ a b. (a, refl); again = again_same _ _ refl refl refl (omega arith); drone = λ u x. side.counts_drone q u x i.facts refl a; station = λ ck k n l u x. side.counts_station q ck k n l u x i.facts refl a })
            (rw (ek, ep) (count_again q (kind_of p.opening) p.transaction.kind (length p.transaction.plan) (slice_get p.transaction.plan) i.facts refl))
            refl (omega arith)
            (op_sends d s p.sent _ p.transaction p.opening p.cancelled t.pings t.pings o' Sending (o.idle + 1) o.asked o.final_sent o.number o.total o.got i.operation i.operation.numbered tt (λ e. final_more d s p.sent _ p.transaction (i.operation.final e)) tt)
            i.since_count (λ x. inr (i.count x)) (λ x. ((i.asked x).0, inr (i.asked x).1)) i.answers;
      }

  -- a tick: the Request again
  on_request_again : (p : Part) (g : Moments) (t : StationState) (o : Operation) → (let u = with_operation t (op o d Getting) in Inv d s (with_station d p u) g → Heeds d s u (with_station d p u) (tries_again u (record o { drone = d; phase = Getting }) (Some (Request (node_of d) (length o.got) o.kind))))
  on_request_again p g t o i =
      let o' : Operation = record o { drone = d; phase = Getting } in
      let v = with_station d p (with_operation t (Some o')) in
      let q : Pair = pair_of s v g in
      record {
        needs = tt;
        moments = g;
        sends_to = refl;
        of_drone = refl;
        synced = λ _ _. omega arith;
        pings = omega arith;
        me = refl;
        inv =
            station_said d s ne v g g (with_operation t (Some (idle_again o'))) (Request (node_of d) (length o.got) o.kind) (pings q) i refl
            (side.pings_facts q i.facts)
            (record { drone_next = omega arith; station_next = omega arith; shows = λ a b. (a, refl); again = again_same _ _ refl refl refl (omega arith); drone = λ u x. side.pings_drone q u x i.facts; station = λ ck k n l u x. side.pings_station q ck k n l u x i.facts })
            ((let z : p.station_next < p.station_next + 1 = omega arith in z), λ c. absurd (no_count q i.facts (omega arith) c)) refl (omega arith)
            (op_sends d s p.sent _ p.transaction p.opening p.cancelled t.pings t.pings o' Getting (o.idle + 1) o.asked o.final_sent o.number o.total o.got i.operation i.operation.numbered i.operation.gathers (λ e. final_more d s p.sent _ p.transaction (i.operation.final e)) tt)
            i.since_count (λ x. inr (i.count x)) (λ x. ((i.asked x).0, inr (i.asked x).1)) (λ ph. absurd (omega arith));
      }

  -- a tick
  pub on_tick : (p : Part) (g : Moments) (t : StationState) (o : Operation) (w : Work) (f : Phase) → (let u = with_operation t (op (record o { work = w }) d f) in Inv d s (with_station d p u) g → Heeds d s u (with_station d p u) (phase_tick u (record o { work = w; drone = d; phase = f }) f))
  on_tick p g t o w Pinging i = on_pinged p g t (record o { work = w }) o.number i
  on_tick p g t o w Cancelling i = on_attempt d s ne p g t (record o { work = w }) Cancelling o.code o.terminating i (λ c. still_terminating (pair_of s (with_station d p (with_operation t (op (record o { work = w }) d Cancelling))) g) i.facts refl c) i.operation.coded i.operation.terminates
  on_tick p g t o Clears Sending i = absurd (let z : (pair_of s (with_station d p (with_operation t (op (record o { work = Clears }) d Sending))) g).work ≡ 1 = sending_work _ i.facts refl in omega arith)
  on_tick p g t o Gets Sending i = absurd (let z : (pair_of s (with_station d p (with_operation t (op (record o { work = Gets }) d Sending))) g).work ≡ 1 = sending_work _ i.facts refl in omega arith)
  on_tick p g t o Uploads Sending i =
      let o' : Operation = record o { work = Uploads; drone = d; phase = Sending } in
      let u = with_operation t (Some o') in
      let v = with_station d p u in
      by_test (Heeds d s u v) (nat_lt (o.idle + 1) idle_limit) _ _
      (λ _. by_test (λ x. Heeds d s u v (tries_again u o' x)) o.asked _ _
      (λ _. waits p g t (record o { work = Uploads }) Sending i)
      (λ not_asked. on_recount p g t o not_asked i))
      (λ _. on_attempt d s ne p g t (record o { work = Uploads }) Sending o.code true i (λ _. omega arith) i.operation.coded tt)
  on_tick p g t o w Clearing i =
      let u = with_operation t (op (record o { work = w }) d Clearing) in
      let v = with_station d p u in
      by_test (Heeds d s u v) (nat_lt (o.idle + 1) idle_limit) _ _
      (λ _. waits p g t (record o { work = w }) Clearing i)
      (λ _. on_attempt d s ne p g t (record o { work = w }) Clearing o.code o.terminating i (λ c. absurd (no_count (pair_of s v g) i.facts (omega arith) c)) i.operation.coded i.operation.terminates)
  on_tick p g t o w Listing_items i =
      let u = with_operation t (op (record o { work = w }) d Listing_items) in
      let v = with_station d p u in
      by_test (Heeds d s u v) (nat_lt (o.idle + 1) idle_limit) _ _
      (λ _. waits p g t (record o { work = w }) Listing_items i)
      (λ _. on_attempt d s ne p g t (record o { work = w }) Listing_items o.code o.terminating i (λ c. absurd (no_count (pair_of s v g) i.facts (omega arith) c)) i.operation.coded i.operation.terminates)
  on_tick p g t o w Getting i =
      let u = with_operation t (op (record o { work = w }) d Getting) in
      let v = with_station d p u in
      by_test (Heeds d s u v) (nat_lt (o.idle + 1) idle_limit) _ _
      (λ _. on_request_again p g t (record o { work = w }) i)
      (λ _. on_attempt d s ne p g t (record o { work = w }) Getting o.code o.terminating i (λ c. absurd (no_count (pair_of s v g) i.facts (omega arith) c)) i.operation.coded i.operation.terminates)
