-- The drone, at a List and a Request of the station that it has admitted.
use Rattle.std.proofs.Common.{◌≡◌, ◌≢◌, ℕ, ◌+◌, ◌<◌, ◌≤◌, inr, Bool, ◌==◌, ◌&&◌, nat_lt, List, [], ◌∷◌, length, Option, Some, None, refl, sym, subst, arith, ◌∙◌}
use Rattle.std.specs.Prelude.{slice_get}
use Rattle.mav_names.specs.declared.names.Stream.{Stream}
use Rattle.plan_items.specs.declared.items.Item.{Item}
use Rattle.plan_items.specs.declared.messages.PlanMsg.{PlanMsg}
use Rattle.plan_items.specs.declared.messages.PlanMsg.TheVariants.{Count, Request, Item as Give, Ack, List as Listing, Clear, Ping}
use Rattle.plan_upload.specs.Addresses.{same_stream, node_of}
use Rattle.plan_upload.specs.Plans.{plan_at}
use Rattle.plan_upload.specs.Drone.{Download, Shows as Showing, rests, ack, download_without, undownloaded, copy_of, is_downloading, list_comes, give_item, request_comes}
use Rattle.plan_upload.specs.Station.{Operation, Work, Uploads, Clears, Gets, Phase, Pinging, Cancelling, Sending, Clearing, Listing_items, Getting, phase_number}
use Rattle.plan_safety.specs.Frames.{Frame}
use Rattle.plan_safety.specs.Store.{Transaction, A_get}
use Rattle.plan_safety.proofs.Keys.{by_test, eq_true, number_same, stream_eq, both_true}
use Rattle.plan_safety.proofs.Pair.{Pair, Facts, SentByDrone, speaks, lists, a_count, an_ack}
use Rattle.plan_safety.proofs.DroneSide as side
use Rattle.plan_safety.proofs.Part.{Seen, Shows, Copies, GathersIn, Means, Operates, shown_of, Part, Moments, pair_of, subject, Inv, truths_keep, Again, again_same, settles_again, accepts_again, Final, number_in, work_number, gathers_more, coded_more, final_more, cancel_more, Answers}
use Rattle.plan_safety.proofs.Leaf.{Own, drone_said}
use Rattle.plan_safety.proofs.DroneCases.{Clearing as Listed, clear_refuses, on_denial, on_answer, three, denied, left_copies, refuses_only, no_clear}

-- what is known of a List that was admitted, beside what is known of a Clear
pub record Listing_comes (p : Pair) : Type 0 where
  pub own : p.first_job ≤ p.drone_last
  pub work : p.work ≡ 3
  pub phase : p.phase < 6
  pub attempt : p.first_reply ≡ 0

-- what is true of a Count of the plan, and of a refused Request
lists_new : (p : Pair) (k n : ℕ) → SentByDrone (lists p) p.drone_next (a_count n k)
lists_new p k n = (omega arith, omega arith, λ _ _ _. refl)

thirteen_new : (p : Pair) (k : ℕ) → Facts p → SentByDrone (speaks p) p.drone_next (an_ack 13 k)
thirteen_new p k f = grind arith

-- the code 13 answers no cancel and no Clear
no_thirteen : ◌≢◌ {A = ℕ} 13 0 × ◌≢◌ {A = ℕ} 13 1
no_thirteen = (λ e. absurd (omega arith), λ e. absurd (omega arith))

-- a Count leaves attempts and clears as they are
unlisted_again : (p : Pair) → Again p (lists p)
unlisted_again p = again_same p (lists p) refl refl refl (omega arith)

-- since the upload was opened no Request of an earlier operation is admitted
no_request : (p : Pair) → Facts p → (0 < p.first_count → p.drone_last < p.first_count) → 0 < p.first_open → ⊥
no_request p f early some = grind arith

-- the copy is of the plan
copy_copies : (s : Stream) (k : ℕ) (x : List Item) → Copies s k x (copy_of s k x)
copy_copies s k [] = tt
copy_copies s k (y ∷ ys) = λ _. (refl, refl)

-- a frame from before the Count
shows_early : (p : Pair) (kind : ℕ) (plan : List Item) (t : ℕ) (m : Option PlanMsg) → t < p.now_shown → Shows p kind plan t m
shows_early p kind plan t (Some (Ping to usec n)) h = tt
shows_early p kind plan t (Some (Count to n c)) h = λ a b l. absurd (omega arith)
shows_early p kind plan t (Some (Give to i c x)) h = λ a b l. absurd (omega arith)
shows_early p kind plan t (Some (Request to i c)) h = tt
shows_early p kind plan t (Some (Ack to c i)) h = tt
shows_early p kind plan t (Some (Clear to c)) h = tt
shows_early p kind plan t (Some (Listing to c)) h = tt
shows_early p kind plan t None h = tt

-- before phase 6 nothing was gathered
gathers_free : (x : List Item) (f : Phase) (got : List Item) (total : ℕ) → phase_number f < 6 → GathersIn x f got total
gathers_free x Pinging got total h = tt
gathers_free x Cancelling got total h = tt
gathers_free x Sending got total h = tt
gathers_free x Clearing got total h = tt
gathers_free x Listing_items got total h = tt
gathers_free x Getting got total h = absurd (omega arith)

-- an open download
abbrev pub getting : ℕ → Option (List Item) → ℕ × List ℕ → Option Seen
getting kind shown since = Some (record { kind = kind; job = A_get shown; drone_since = since.0; emptied = since.1 })

-- the operation is that download, whatever it is shown
means_again : (t : Transaction) (k : ℕ) (n : ℕ × List ℕ) (x y : Option (List Item)) (w : Work) (kind : ℕ) (plan : List Item) → work_number w ≡ 3 → Means t (getting k x n) w kind plan → Means t (getting k y n) w kind plan
means_again t k n x y Uploads kind plan e h = absurd (omega arith)
means_again t k n x y Clears kind plan e h = absurd (omega arith)
means_again t k n x y Gets kind plan e h = h

get_again : (d s : Stream) (sent : List Frame) (f : Frame) (t : Transaction) (k : ℕ) (n : ℕ × List ℕ) (x y : Option (List Item)) (cancelled : Bool) (pings : ℕ) (o : Option Operation) → number_in o (λ (z : Operation). work_number z.work) ≡ 3 → number_in o (λ (z : Operation). phase_number z.phase) < 6 → Operates d s sent t (getting k x n) cancelled pings o → Operates d s (f ∷ sent) t (getting k y n) cancelled pings o
get_again d s sent f t k n x y cancelled pings None e l h = tt
get_again d s sent f t k n x y cancelled pings (Some o) e l h = record {
  means = means_again t k n x y o.work o.kind o.plan e h.means;
  numbered = h.numbered;
  coded = coded_more d s sent f t o.code h.coded;
  terminates = h.terminates;
  gathers = gathers_free (shown_of (getting k y n)) o.phase o.got o.total l;
  final = λ z. final_more d s sent f t (h.final z);
  cancel = cancel_more d s sent f t.since (λ earlier. Final earlier d s t) o.final_sent o.kind o.phase h.cancel;
}

abbrev pub with_download : Part → Option Download → Part
with_download p w = record p { drone = record p.drone { download = w } }

abbrev pub with_opening : Part → Option Seen → Part
with_opening p c = record p { opening = c }

module _ (d s : Stream) (ne : d ≢ s) where
  -- at most the own download is closed, or its idle number changes
  pub on_download : (p : Part) (g : Moments) (w : Option Download) → ((k : ℕ) (x : List Item) → Copies s k x p.drone.download → Copies s k x w) → Inv d s p g → Inv d s (with_download p w) g
  on_download p g w cp i = record {
    facts = i.facts;
    truths = i.truths;
    upload = i.upload;
    operation = i.operation;
    for_drone = i.for_drone;
    since = i.since;
    since_count = i.since_count;
    count = i.count;
    download = λ a b. let o = i.download a b in (o.0, cp _ _ o.1);
    asked = i.asked;
    answers = i.answers;
  }

  -- the own download is closed
  pub on_undownloaded : (p : Part) (g : Moments) → Inv d s p g → Own d s p (rests (undownloaded p.drone s))
  on_undownloaded p g i = record { needs = tt; moments = g; inv = on_download p g (download_without p.drone.download s) (λ k x z. left_copies s k x p.drone.download z) i }

  -- what is true of the acknowledgement that denies it
  denied_request : (p : Part) (g : Moments) (kind : ℕ) → Inv d s p g → (0 < g.first_count → p.drone_last < g.first_count) → Answers d s p.transaction g.counted g.first_open p.drone_next p.sent (Some (ack s 13 kind))
  denied_request p g kind i early = (λ _ r. absurd ((refuses_only 13 r).2 refl), λ some _ _. absurd (no_request (pair_of s p g) i.facts early some))

  -- the item that is asked for, of the copy
  on_give : (p : Part) (g : Moments) (c : Download) (seq kind : ℕ) (x : Option Item) → Inv d s (with_download p (Some c)) g → (0 < g.first_count → p.drone_last < g.first_count) → slice_get c.items seq ≡ x → c.stream ≡ s → c.kind ≡ kind → Own d s (with_download p (Some c)) (give_item (with_download p (Some c)).drone s c seq kind x)
  on_give p g c seq kind None i early e own ek = record { needs = tt; moments = g; inv = on_answer d s ne (with_download p (Some c)) g (ack s 13 kind) i (thirteen_new (pair_of s (with_download p (Some c)) g) kind i.facts) tt (λ _. denied_request (with_download p (Some c)) g kind i early) no_thirteen }
  on_give p g c seq kind (Some x) i early e own ek =
      let v = with_download p (Some c) in
      let q : Pair = pair_of s v g in
      record {
        needs = tt;
        moments = g;
        inv =
            drone_said d s ne v g g (record v.drone { download = Some (record c { idle = 0 }) }) (Give (node_of s) seq kind x) (speaks q) i refl (side.speaks_facts q i.facts)
            (record { drone_next = omega arith; station_next = omega arith; shows = λ a b. (a, refl); again = again_same _ _ refl refl refl (omega arith); drone = λ u x. side.speaks_drone q u x i.facts; station = λ ck k t l u x. side.speaks_station q ck k t l u x i.facts })
            (λ _. (let z : q.drone_next < q.drone_next + 1 = omega arith in z)) (omega arith) i.upload refl
            (λ _. λ a b _. let o = (i.download a b).1 own in (sym ek ∙ o.0, subst (λ (y : List Item). slice_get y seq ≡ Some x) o.1 e))
            (λ k x z. z) (λ y. ((i.asked y).0, inr (i.asked y).1)) i.answers (λ _ _. tt) (λ _. (tt, tt));
      }

  -- MISSION_REQUEST_INT
  pub on_request : (p : Part) (g : Moments) (w : Option Download) (seq kind : ℕ) → Inv d s (with_download p w) g → (0 < g.first_count → p.drone_last < g.first_count) → Own d s (with_download p w) (request_comes (with_download p w).drone s w seq kind)
  on_request p g None seq kind i early = record { needs = tt; moments = g; inv = on_answer d s ne (with_download p None) g (ack s 13 kind) i (thirteen_new (pair_of s (with_download p None) g) kind i.facts) tt (λ _. denied_request (with_download p None) g kind i early) no_thirteen }
  on_request p g (Some c) seq kind i early =
      let v = with_download p (Some c) in
      by_test (Own d s v) (same_stream c.stream s && (c.kind == kind)) _ _
      (λ e. let b = both_true _ _ e in on_give p g c seq kind (slice_get c.items seq) i early refl (stream_eq _ _ b.0) (eq_true _ _ b.1))
      (λ _. record { needs = tt; moments = g; inv = on_answer d s ne v g (ack s 13 kind) i (thirteen_new (pair_of s v g) kind i.facts) tt (λ _. denied_request v g kind i early) no_thirteen })

  -- it shows its plan
  on_shown : (p : Part) (g : Moments) (k : ℕ) (n : ℕ × List ℕ) (x : Option (List Item)) → (let v = with_opening p (getting k x n) in Inv d s v g → Listed (pair_of s v g) → Listing_comes (pair_of s v g) → Own d s v (record { drone = record p.drone { download = copy_of s k (plan_at p.drone.plans k) }; answer = Some (Count (node_of s) (length (plan_at p.drone.plans k)) k); event = Showing s k (plan_at p.drone.plans k) }))
  on_shown p g k n x i a b =
      let v = with_opening p (getting k x n) in
      let plan = plan_at p.drone.plans k in
      let q : Pair = pair_of s v g in
      let j = subject p.transaction v.opening in
      let j' = subject p.transaction (getting k (Some plan) n) in
      record {
        needs = refl;
        moments = record g { last_shown = p.drone_next; now_shown = p.drone_next };
        inv = rw (number_same k) (record {
          facts = side.lists_facts q i.facts a.begun b.own a.job b.work a.last a.first a.unlisted b.attempt b.phase;
          truths = (
            record { drone = λ _ _. lists_new q k (length plan); shows = λ _ _. λ _ _ _. (refl, refl); last = λ _ _. tt; accepts = λ _ _. tt; station = λ y _. absurd (ne y); named = λ y _. absurd (ne y); by_drone = λ _. omega arith; by_station = λ y. absurd (ne y) },
            truths_keep d s q (lists q) j j' (λ f earlier t. record {
              drone = λ y z. side.lists_drone q f.timestamp f.message i.facts a.begun b.own a.job b.work a.last a.first a.unlisted b.attempt b.phase (t.drone y z);
              shows = λ y z. shows_early (lists q) k plan f.timestamp f.message (t.by_drone y);
              station = λ y z. side.lists_station q k p.transaction.kind (length p.transaction.plan) (slice_get p.transaction.plan) f.timestamp f.message i.facts a.begun b.own a.job b.work a.last a.first a.unlisted b.attempt b.phase (t.station y z);
              last = λ y z. settles_again d s q (lists q) j f.timestamp earlier f.message (unlisted_again q) (t.by_drone y) (t.last y z);
              accepts = λ y z. accepts_again q (lists q) j.emptied j'.emptied f.timestamp f.message (unlisted_again q) (λ e. e) (t.drone y z) (t.accepts y z);
              named = t.named;
              by_drone = λ y. let l = t.by_drone y in omega arith;
              by_station = t.by_station;
            }) p.sent i.truths,
          );
          upload = gathers_more d s p.sent _ p.transaction p.drone.upload i.upload;
          operation = get_again d s p.sent _ p.transaction k n x (Some plan) p.cancelled p.pings p.operation b.work b.phase i.operation;
          for_drone = i.for_drone;
          since = i.since;
          since_count = i.since_count;
          count = λ y. inr (i.count y);
          download = λ _ _. (tt, copy_copies s k plan);
          asked = λ y. ((i.asked y).0, inr (i.asked y).1);
          answers = λ ph. (λ _ _. tt, i.answers ph);
        });
      }

  -- MISSION_REQUEST_LIST
  pub on_list : (p : Part) (g : Moments) (k : ℕ) (n : ℕ × List ℕ) (x : Option (List Item)) → (let v = with_opening p (getting k x n) in Inv d s v g → Listed (pair_of s v g) → Listing_comes (pair_of s v g) → Own d s v (list_comes p.drone s k))
  on_list p g k n x i a b =
      let v = with_opening p (getting k x n) in
      let can = clear_refuses (pair_of s v g) i.facts a in
      by_test (Own d s v) (nat_lt 2 k) _ _ (λ _. on_denial d s ne v g 3 k i three can (λ ph. absurd (no_clear (pair_of s v g) i.facts a ph))) (λ _.
      by_test (Own d s v) (is_downloading p.drone.download s) _ _ (λ _. on_denial d s ne v g 14 k i denied can (λ ph. absurd (no_clear (pair_of s v g) i.facts a ph))) (λ _.
      on_shown p g k n x i a b))
