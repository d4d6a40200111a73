-- The station begins an operation at the drone; and what it does elsewhere.
use Rattle.std.proofs.Common.{◌≡◌, ◌≢◌, ℕ, ◌+◌, ◌<◌, ◌≤◌, inl, inr, Bool, true, nat_lt, List, [], length, Option, Some, None, refl, sym, ap, subst, arith}
use Rattle.std.specs.Prelude.{slice_get}
use Rattle.mav_names.specs.declared.names.Stream.{Stream}
use Rattle.plan_items.specs.declared.items.Item.{Item}
use Rattle.plan_items.specs.declared.messages.PlanMsg.{PlanMsg}
use Rattle.plan_items.specs.declared.messages.PlanMsg.TheVariants.{Count, Request, Item as Give, Ack, List as Listing, Clear, Ping}
use Rattle.plan_upload.specs.Addresses.{same_stream, everyone}
use Rattle.plan_upload.specs.Drone.{Upload, is_own}
use Rattle.plan_upload.specs.Station.{StationState, StationStep, Operation, Uploads, Clears, Gets, last_ping, is_synced, sends, becomes, pinging, starts, resynchronises, operation_of, begin_upload, begin_clear, begin_get}
use Rattle.plan_safety.specs.Frames.{Frame}
use Rattle.plan_safety.specs.Store.{Job, A_clear, A_get, Transaction, begun}
use Rattle.plan_safety.proofs.Keys.{by_test, same, flag, flag_true, differ}
use Rattle.plan_safety.proofs.Pair.{Pair, Facts, SentByStation, SentByDrone, elsewhere, begins_attempt, begins_count, begins_clear, begins_clear_attempt, begins_get, begins_get_attempt, a_ping, a_count, a_clear, a_list}
use Rattle.plan_safety.proofs.StationSide as side
use Rattle.plan_safety.proofs.Part.{Seen, Shows, job_number, Part, Moments, pair_of, Subject, subject, Truth, Gathers, Inv, truths_keep, stage_number, gathers_more, number_in}
use Rattle.plan_safety.proofs.Acknowledgements.{settles_none, accepts_new, answered_counted}
use Rattle.plan_safety.proofs.StationNews.{Begins_upload, Begins_clear, Begins_get, Acted, with_station, seen}
use Rattle.plan_safety.proofs.StationCases.{with_operation, shows_low}

-- what is true of each frame again, with another subject
pub changes : (d s : Stream) (p q : Pair) (j k : Subject) → p.drone_next ≤ q.drone_next → p.station_next ≤ q.station_next → ((u : ℕ) (m : Option PlanMsg) → Shows q k.jkind k.shown u m) → ((u : ℕ) (m : Option PlanMsg) → SentByDrone p u m → SentByDrone q u m) → ((u : ℕ) (m : Option PlanMsg) → SentByStation p j.jkind j.kind j.total j.plan u m → SentByStation q k.jkind k.kind k.total k.plan u m) → (q.first_reply ≡ 0) × (q.phase ≡ 4 → p.last_verdict ≤ q.station_last) → (f : Frame) (earlier : List Frame) → Truth d s p j f earlier → Truth d s q k f earlier
changes d s p q j k a b v x y z f earlier t = record {
  shows = λ _ _. v f.timestamp f.message;
  drone = λ e h. x f.timestamp f.message (t.drone e h);
  station = λ e h. y f.timestamp f.message (t.station e h);
  last = λ _ _. settles_none d s q k f.timestamp earlier f.message z.0;
  accepts = λ e h. accepts_new p q k.emptied f.timestamp f.message z.1 (t.drone e h);
  named = t.named;
  by_drone = λ e. let l = t.by_drone e in omega arith;
  by_station = λ e. let l = t.by_station e in omega arith;
}

-- with no upload open nothing is gathered
gathers_none : (d s : Stream) (sent : List Frame) (o n : Transaction) (u : Option Upload) → flag (is_own u s) ≡ 0 → Gathers d s sent o u → Gathers d s sent n u
gathers_none d s sent o n None e h = tt
gathers_none d s sent o n (Some u) e h = λ own. absurd (let z : flag (same_stream u.stream s) ≡ 1 = rw own (ap flag (same s)) in omega arith)

-- what is true of the first frame of an operation
begin_count_new : (p : Pair) (jkind kind total : ℕ) (plan : ℕ → Option Item) → Facts p → SentByStation (begins_count p p.drone_next) jkind kind total plan p.station_next (a_count total kind)
begin_count_new p jkind kind total plan f = grind arith

begin_attempt_new : (p : Pair) → Facts p → SentByStation (begins_attempt p p.drone_next) 0 0 0 (λ x. None) p.station_next (a_ping p.next_ping)
begin_attempt_new p f = grind arith

begin_clear_new : (p : Pair) (jkind kind total : ℕ) (plan : ℕ → Option Item) → Facts p → SentByStation (begins_clear p p.drone_next) jkind kind total plan p.station_next (a_clear jkind)
begin_clear_new p jkind kind total plan f = grind arith

begin_clear_attempt_new : (p : Pair) → Facts p → SentByStation (begins_clear_attempt p p.drone_next) 0 0 0 (λ x. None) p.station_next (a_ping p.next_ping)
begin_clear_attempt_new p f = grind arith

begin_get_new : (p : Pair) (jkind kind total : ℕ) (plan : ℕ → Option Item) → Facts p → SentByStation (begins_get p p.drone_next) jkind kind total plan p.station_next (a_list jkind)
begin_get_new p jkind kind total plan f = grind arith

begin_get_attempt_new : (p : Pair) → Facts p → SentByStation (begins_get_attempt p p.drone_next) 0 0 0 (λ x. None) p.station_next (a_ping p.next_ping)
begin_get_attempt_new p f = grind arith

-- before a Count nothing is shown
shows_none : (p : Pair) (kind : ℕ) (plan : List Item) (t : ℕ) (m : Option PlanMsg) → p.now_shown ≡ 0 → Shows p kind plan t m
shows_none p kind plan t (Some (Ping to usec n)) h = tt
shows_none p kind plan t (Some (Count to n c)) h = λ a b l. absurd (omega arith)
shows_none p kind plan t (Some (Give to i c x)) h = λ a b l. absurd (omega arith)
shows_none p kind plan t (Some (Request to i c)) h = tt
shows_none p kind plan t (Some (Ack to c i)) h = tt
shows_none p kind plan t (Some (Clear to c)) h = tt
shows_none p kind plan t (Some (Listing to c)) h = tt
shows_none p kind plan t None h = tt

-- with no operation nothing is open, and nothing is fresh
shut : (p : Pair) → Facts p → p.work ≡ 0 → p.has_open ≡ 0
shut p f h = grind arith

idle : (p : Pair) → Facts p → p.work ≡ 0 → p.stage ≡ 1 → ⊥
idle p f h e = grind arith

no_job : (p : Pair) → Facts p → p.work ≡ 0 → p.job ≡ 0
no_job p f h = grind arith

not_replied : (p : Pair) → Facts p → p.work ≡ 0 → p.first_reply ≡ 0
not_replied p f h = grind arith

-- nothing else is open
none_open : (c : Option Seen) → number_in c (λ (x : Seen). job_number x.job) ≡ 0 → c ≡ None
none_open None e = refl
none_open (Some c) e = absurd (some c.job e)
  where
    some : (w : Job) → job_number w ≡ 0 → ⊥
    some A_clear e = absurd (omega arith)
    some (A_get x) e = absurd (omega arith)

module _ (d s : Stream) (ne : d ≢ s) where
  -- an upload begins, if a PING number is left
  pub on_begin : (p : Part) (g : Moments) (t : StationState) (kind : ℕ) (plan : List Item) → nat_lt t.pings last_ping ≡ true → (let u = with_operation t None in Inv d s (with_station d p u) g → Acted d s u (with_station d p u) (begin_upload u d kind plan) (Begins_upload kind plan))
  on_begin p g t kind plan left i =
      let u = with_operation t None in
      let v = with_station d p u in
      let q : Pair = pair_of s v g in
      let n : Transaction = begun d kind plan p.station_next p.drone_next in
      let j = subject p.transaction p.opening in
      let k = subject n p.opening in
      let ready : StationState = record u { outcome = None } in
      let o : Operation = operation_of Uploads d kind plan in
      let P : StationStep → Type 0 = λ a. Acted d s u v a (Begins_upload kind plan) in
      by_test P (is_synced t.synced d) (starts ready o) (resynchronises ready o)
      (λ e. let b : q.synced ≡ 1 = flag_true _ e in
      let m : Moments = record g { first_count = p.station_next; last_count = p.station_next; counted = p.drone_next; first_open = 0; first_ping = 0; first_reply = 0 } in
      record {
        needs = λ x. idle q i.facts refl (ap stage_number x);
        moments = m;
        sends_to = refl;
        of_drone = refl;
        synced = λ _ _. omega arith;
        pings = omega arith;
        me = refl;
        inv = record {
          facts = side.begins_count_facts q p.drone_next i.facts refl b refl;
          truths = (
            record { drone = λ x _. absurd (ne (sym x)); shows = λ x _. absurd (ne (sym x)); last = λ x _. absurd (ne (sym x)); accepts = λ x _. absurd (ne (sym x)); station = λ _ _. begin_count_new q k.jkind kind (length plan) (slice_get plan) i.facts; named = λ _ _. refl; by_drone = λ x. absurd (ne (sym x)); by_station = λ _. omega arith },
            truths_keep d s q (begins_count q p.drone_next) j k (changes d s q (begins_count q p.drone_next) j k (omega arith) (omega arith) (λ u m. shows_low (begins_count q p.drone_next) k.jkind k.shown u m (omega arith)) (λ y x. side.begins_count_drone q p.drone_next y x i.facts refl b refl) (λ y x. side.begins_count_station q p.drone_next j.jkind j.kind j.total j.plan k.jkind k.kind k.total k.plan y x i.facts refl b refl) (refl, λ ph. absurd (omega arith))) p.sent i.truths,
          );
          upload = gathers_none d s _ p.transaction n p.drone.upload (shut q i.facts refl) (gathers_more d s p.sent _ p.transaction p.drone.upload i.upload);
          operation = record { means = (refl, refl); numbered = tt; coded = tt; terminates = tt; gathers = tt; final = λ e. absurd (cc); cancel = tt };
          for_drone = λ _. refl;
          since = omega arith;
          since_count = λ _. omega arith;
          count = λ _. inl (refl, omega arith, refl);
          download = λ a b. absurd (omega arith);
          asked = λ x. absurd (omega arith);
          answers = λ _. (λ x _. absurd (ne (sym x)), answered_counted d s n p.drone_next 0 q j p.sent refl (omega arith) i.truths);
        };
      })
      (λ _. let m : Moments = record g { first_count = 0; first_open = 0; first_ping = p.station_next; first_reply = 0 } in
      by_test P (nat_lt t.pings last_ping) (sends (record ready { pings = t.pings + 1 }) (pinging o (Some (t.pings + 1))) (Ping everyone t.boot (t.pings + 1))) (becomes ready (pinging o None))
      (λ _. record {
        needs = λ x. idle q i.facts refl (ap stage_number x);
        moments = m;
        sends_to = refl;
        of_drone = refl;
        synced = λ _ _. omega arith;
        pings = omega arith;
        me = refl;
        inv = record {
          facts = side.begins_attempt_facts q p.drone_next i.facts refl refl;
          truths = (
            record { drone = λ x _. absurd (ne (sym x)); shows = λ x _. absurd (ne (sym x)); last = λ x _. absurd (ne (sym x)); accepts = λ x _. absurd (ne (sym x)); station = λ _ _. begin_attempt_new q i.facts; named = λ _ _. tt; by_drone = λ x. absurd (ne (sym x)); by_station = λ _. omega arith },
            truths_keep d s q (begins_attempt q p.drone_next) j k (changes d s q (begins_attempt q p.drone_next) j k (omega arith) (omega arith) (λ u m. shows_low (begins_attempt q p.drone_next) k.jkind k.shown u m (omega arith)) (λ y x. side.begins_attempt_drone q p.drone_next y x i.facts refl refl) (λ y x. side.begins_attempt_station q p.drone_next j.jkind j.kind j.total j.plan k.jkind k.kind k.total k.plan y x i.facts refl refl) (refl, λ ph. absurd (omega arith))) p.sent i.truths,
          );
          upload = gathers_none d s _ p.transaction n p.drone.upload (shut q i.facts refl) (gathers_more d s p.sent _ p.transaction p.drone.upload i.upload);
          operation = record { means = (refl, refl); numbered = (let z : t.pings + 1 ≤ t.pings + 1 = omega arith in z); coded = tt; terminates = tt; gathers = tt; final = λ e. absurd (cc); cancel = tt };
          for_drone = λ _. refl;
          since = omega arith;
          since_count = λ x. absurd (omega arith);
          count = λ x. absurd (omega arith);
          download = λ a b. absurd (omega arith);
          asked = λ x. absurd (omega arith);
          answers = λ ph. absurd (omega arith);
        };
      })
      (λ e. absurd (differ _ left e)))

  -- a clear begins, if a PING number is left
  pub on_clear : (p : Part) (g : Moments) (t : StationState) (kind : ℕ) → nat_lt t.pings last_ping ≡ true → (let u = with_operation t None in Inv d s (with_station d p u) g → Acted d s u (with_station d p u) (begin_clear u d kind) (Begins_clear kind))
  on_clear p g t kind left i =
      let u = with_operation t None in
      let v = with_station d p u in
      let q : Pair = pair_of s v g in
      let j = subject p.transaction p.opening in
      let k = subject p.transaction (seen kind A_clear p.drone_next) in
      let ready : StationState = record u { outcome = None } in
      let o : Operation = operation_of Clears d kind [] in
      let P : StationStep → Type 0 = λ a. Acted d s u v a (Begins_clear kind) in
      by_test P (is_synced t.synced d) (starts ready o) (resynchronises ready o)
      (λ e. let b : q.synced ≡ 1 = flag_true _ e in
      let m : Moments = record g { first_ping = 0; first_reply = 0; first_job = p.station_next; last_job = p.station_next } in
      record {
        needs = none_open p.opening (no_job q i.facts refl);
        moments = m;
        sends_to = refl;
        of_drone = refl;
        synced = λ _ _. omega arith;
        pings = omega arith;
        me = refl;
        inv = record {
          facts = side.begins_clear_facts q p.drone_next i.facts refl b refl;
          truths = (
            record { drone = λ x _. absurd (ne (sym x)); shows = λ x _. absurd (ne (sym x)); last = λ x _. absurd (ne (sym x)); accepts = λ x _. absurd (ne (sym x)); station = λ _ _. begin_clear_new q kind k.kind k.total k.plan i.facts; named = λ _ _. refl; by_drone = λ x. absurd (ne (sym x)); by_station = λ _. omega arith },
            truths_keep d s q (begins_clear q p.drone_next) j k (changes d s q (begins_clear q p.drone_next) j k (omega arith) (omega arith) (λ u m. shows_low (begins_clear q p.drone_next) k.jkind k.shown u m (omega arith)) (λ y x. side.begins_clear_drone q p.drone_next y x i.facts refl b refl) (λ y x. side.begins_clear_station q p.drone_next j.jkind j.kind j.total j.plan k.jkind k.kind k.total k.plan y x i.facts refl b refl) (refl, λ _. i.facts.synced_ack refl b)) p.sent i.truths,
          );
          upload = gathers_more d s p.sent _ p.transaction p.drone.upload i.upload;
          operation = record { means = (refl, refl); numbered = tt; coded = tt; terminates = λ e. absurd (cc); gathers = tt; final = λ e. absurd (cc); cancel = tt };
          for_drone = i.for_drone;
          since = (let z = i.since in omega arith);
          since_count = i.since_count;
          count = λ x. inr (i.count x);
          download = λ a b. absurd (omega arith);
          asked = λ x. ((i.asked x).0, inr (i.asked x).1);
          answers = λ ph. absurd (omega arith);
        };
      })
      (λ _. let m : Moments = record g { first_ping = p.station_next; first_reply = 0; first_job = 0 } in
      by_test P (nat_lt t.pings last_ping) (sends (record ready { pings = t.pings + 1 }) (pinging o (Some (t.pings + 1))) (Ping everyone t.boot (t.pings + 1))) (becomes ready (pinging o None))
      (λ _. record {
        needs = none_open p.opening (no_job q i.facts refl);
        moments = m;
        sends_to = refl;
        of_drone = refl;
        synced = λ _ _. omega arith;
        pings = omega arith;
        me = refl;
        inv = record {
          facts = side.begins_clear_attempt_facts q p.drone_next i.facts refl refl;
          truths = (
            record { drone = λ x _. absurd (ne (sym x)); shows = λ x _. absurd (ne (sym x)); last = λ x _. absurd (ne (sym x)); accepts = λ x _. absurd (ne (sym x)); station = λ _ _. begin_clear_attempt_new q i.facts; named = λ _ _. tt; by_drone = λ x. absurd (ne (sym x)); by_station = λ _. omega arith },
            truths_keep d s q (begins_clear_attempt q p.drone_next) j k (changes d s q (begins_clear_attempt q p.drone_next) j k (omega arith) (omega arith) (λ u m. shows_low (begins_clear_attempt q p.drone_next) k.jkind k.shown u m (omega arith)) (λ y x. side.begins_clear_attempt_drone q p.drone_next y x i.facts refl refl) (λ y x. side.begins_clear_attempt_station q p.drone_next j.jkind j.kind j.total j.plan k.jkind k.kind k.total k.plan y x i.facts refl refl) (refl, λ ph. absurd (omega arith))) p.sent i.truths,
          );
          upload = gathers_more d s p.sent _ p.transaction p.drone.upload i.upload;
          operation = record { means = (refl, refl); numbered = (let z : t.pings + 1 ≤ t.pings + 1 = omega arith in z); coded = tt; terminates = λ e. absurd (cc); gathers = tt; final = λ e. absurd (cc); cancel = tt };
          for_drone = i.for_drone;
          since = (let z = i.since in omega arith);
          since_count = i.since_count;
          count = λ x. inr (i.count x);
          download = λ a b. absurd (omega arith);
          asked = λ x. ((i.asked x).0, inr (i.asked x).1);
          answers = λ ph. absurd (omega arith);
        };
      })
      (λ e. absurd (differ _ left e)))

  -- a download begins, if a PING number is left
  pub on_get : (p : Part) (g : Moments) (t : StationState) (kind : ℕ) → nat_lt t.pings last_ping ≡ true → (let u = with_operation t None in Inv d s (with_station d p u) g → Acted d s u (with_station d p u) (begin_get u d kind) (Begins_get kind))
  on_get p g t kind left i =
      let u = with_operation t None in
      let v = with_station d p u in
      let q : Pair = pair_of s v g in
      let j = subject p.transaction p.opening in
      let k = subject p.transaction (seen kind (A_get None) p.drone_next) in
      let ready : StationState = record u { outcome = None } in
      let o : Operation = operation_of Gets d kind [] in
      let P : StationStep → Type 0 = λ a. Acted d s u v a (Begins_get kind) in
      by_test P (is_synced t.synced d) (starts ready o) (resynchronises ready o)
      (λ e. let b : q.synced ≡ 1 = flag_true _ e in
      let m : Moments = record g { first_ping = 0; first_reply = 0; first_job = p.station_next; last_job = p.station_next; now_shown = 0 } in
      record {
        needs = none_open p.opening (no_job q i.facts refl);
        moments = m;
        sends_to = refl;
        of_drone = refl;
        synced = λ _ _. omega arith;
        pings = omega arith;
        me = refl;
        inv = record {
          facts = side.begins_get_facts q p.drone_next i.facts refl b refl;
          truths = (
            record { drone = λ x _. absurd (ne (sym x)); shows = λ x _. absurd (ne (sym x)); last = λ x _. absurd (ne (sym x)); accepts = λ x _. absurd (ne (sym x)); station = λ _ _. begin_get_new q kind k.kind k.total k.plan i.facts; named = λ _ _. refl; by_drone = λ x. absurd (ne (sym x)); by_station = λ _. omega arith },
            truths_keep d s q (begins_get q p.drone_next) j k (changes d s q (begins_get q p.drone_next) j k (omega arith) (omega arith) (λ u m. shows_none (begins_get q p.drone_next) k.jkind k.shown u m refl) (λ y x. side.begins_get_drone q p.drone_next y x i.facts refl b refl) (λ y x. side.begins_get_station q p.drone_next j.jkind j.kind j.total j.plan k.jkind k.kind k.total k.plan y x i.facts refl b refl) (refl, λ ph. absurd (omega arith))) p.sent i.truths,
          );
          upload = gathers_more d s p.sent _ p.transaction p.drone.upload i.upload;
          operation = record { means = (tt, refl); numbered = tt; coded = tt; terminates = λ e. absurd (cc); gathers = tt; final = λ e. absurd (cc); cancel = tt };
          for_drone = i.for_drone;
          since = (let z = i.since in omega arith);
          since_count = i.since_count;
          count = λ x. inr (i.count x);
          download = λ a b. absurd (omega arith);
          asked = λ x. ((i.asked x).0, inr (i.asked x).1);
          answers = λ ph. absurd (omega arith);
        };
      })
      (λ _. let m : Moments = record g { first_ping = p.station_next; first_reply = 0; first_job = 0 } in
      by_test P (nat_lt t.pings last_ping) (sends (record ready { pings = t.pings + 1 }) (pinging o (Some (t.pings + 1))) (Ping everyone t.boot (t.pings + 1))) (becomes ready (pinging o None))
      (λ _. record {
        needs = none_open p.opening (no_job q i.facts refl);
        moments = m;
        sends_to = refl;
        of_drone = refl;
        synced = λ _ _. omega arith;
        pings = omega arith;
        me = refl;
        inv = record {
          facts = side.begins_get_attempt_facts q p.drone_next i.facts refl refl;
          truths = (
            record { drone = λ x _. absurd (ne (sym x)); shows = λ x _. absurd (ne (sym x)); last = λ x _. absurd (ne (sym x)); accepts = λ x _. absurd (ne (sym x)); station = λ _ _. begin_get_attempt_new q i.facts; named = λ _ _. tt; by_drone = λ x. absurd (ne (sym x)); by_station = λ _. omega arith },
            truths_keep d s q (begins_get_attempt q p.drone_next) j k (changes d s q (begins_get_attempt q p.drone_next) j k (omega arith) (omega arith) (λ u m. shows_low (begins_get_attempt q p.drone_next) k.jkind k.shown u m (omega arith)) (λ y x. side.begins_get_attempt_drone q p.drone_next y x i.facts refl refl) (λ y x. side.begins_get_attempt_station q p.drone_next j.jkind j.kind j.total j.plan k.jkind k.kind k.total k.plan y x i.facts refl refl) (refl, λ ph. absurd (omega arith))) p.sent i.truths,
          );
          upload = gathers_more d s p.sent _ p.transaction p.drone.upload i.upload;
          operation = record { means = (tt, refl); numbered = (let z : t.pings + 1 ≤ t.pings + 1 = omega arith in z); coded = tt; terminates = λ e. absurd (cc); gathers = tt; final = λ e. absurd (cc); cancel = tt };
          for_drone = i.for_drone;
          since = (let z = i.since in omega arith);
          since_count = i.since_count;
          count = λ x. inr (i.count x);
          download = λ a b. absurd (omega arith);
          asked = λ x. ((i.asked x).0, inr (i.asked x).1);
          answers = λ ph. absurd (omega arith);
        };
      })
      (λ e. absurd (differ _ left e)))

  -- the station has no operation at the drone and does something elsewhere: its numbers rise, and its latest
  -- transaction may be another
  pub on_elsewhere : (p : Part) (g : Moments) (pings next : ℕ) (o : Transaction) (b cancelled : Bool) → Inv d s p g → p.operation ≡ None → p.pings ≤ pings → p.station_next ≤ next → (stage_number o.stage ≢ 1) → stage_number o.stage ≤ 2 → o.since ≤ next → flag b ≤ flag p.synced → Inv d s (record p { pings = pings; station_next = next; transaction = o; synced = b; cancelled = cancelled }) g
  on_elsewhere p g pings next o set cancelled i none a b c e f less =
      subst (λ z. Inv d s (record p { operation = z; pings = pings; station_next = next; transaction = o; synced = set; cancelled = cancelled }) g) (sym none)
      (after (subst (λ z. Inv d s (record p { operation = z }) g) none i) a b c e f less)
    where
      not_counted : (p : Pair) → Facts p → p.work ≡ 0 → 0 < p.first_count → ⊥
      not_counted p f on c = grind arith

      not_opened : (p : Pair) → Facts p → p.work ≡ 0 → 0 < p.first_open → ⊥
      not_opened p f on c = grind arith

      after : Inv d s (record p { operation = None }) g → p.pings ≤ pings → p.station_next ≤ next → (stage_number o.stage ≢ 1) → stage_number o.stage ≤ 2 → o.since ≤ next → flag set ≤ flag p.synced → Inv d s (record p { operation = None; pings = pings; station_next = next; transaction = o; synced = set; cancelled = cancelled }) g
      after i a b c e f less =
          let q : Pair = pair_of s (record p { operation = None }) g in
          let x = stage_number o.stage in
          let l = flag o.lost in
          let r : Pair = elsewhere q (pings + 1) next x (flag set) l in
          let j = subject p.transaction p.opening in
          let k = subject o p.opening in
          let a' : q.next_ping ≤ pings + 1 = omega arith in
          record {
            facts = side.elsewhere_facts q (pings + 1) next x (flag set) l i.facts refl a' b c e less;
            truths = truths_keep d s q r j k (changes d s q r j k (omega arith) b (λ u m. shows_low r k.jkind k.shown u m (omega arith)) (λ y z. side.elsewhere_drone q (pings + 1) next x (flag set) l y z i.facts refl a' b c e less) (λ y z. side.elsewhere_station q (pings + 1) next x (flag set) l j.jkind j.kind j.total j.plan k.jkind k.kind k.total k.plan y z i.facts refl a' b c e less) (not_replied q i.facts refl, λ ph. absurd (omega arith))) p.sent i.truths;
            upload = gathers_none d s p.sent p.transaction o p.drone.upload (shut q i.facts refl) i.upload;
            operation = tt;
            for_drone = λ y. absurd (c y);
            since = f;
            since_count = λ y. absurd (not_counted q i.facts refl y);
            count = λ y. absurd (not_counted q i.facts refl y);
            download = λ a b. absurd (omega arith);
            asked = λ y. absurd (not_opened q i.facts refl y);
            answers = λ ph. absurd (omega arith);
          }
