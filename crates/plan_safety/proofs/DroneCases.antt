-- The drone, at a Count, a cancel and a Clear of the station that it has admitted.
use Rattle.std.proofs.Common.{◌≡◌, ◌≢◌, ℕ, ◌<◌, ◌≤◌, ◌⊎◌, inl, inr, Bool, true, false, if◌then◌else◌, ◌==◌, ◌&&◌, ◌||◌, nat_lt, List, [], ◌∷◌, length, Option, Some, None, refl, sym, ap, subst, arith, ◌∙◌}
use Rattle.std.specs.Prelude.{not}
use Rattle.mav_names.specs.declared.names.Stream.{Stream}
use Rattle.plan_items.specs.declared.items.Item.{Item}
use Rattle.plan_items.specs.declared.messages.PlanMsg.{PlanMsg}
use Rattle.plan_items.specs.declared.messages.PlanMsg.TheVariants.{Count, Request, Item as Give, Ack, List as Listing, Clear, Ping}
use Rattle.plan_upload.specs.Station.{Operation, Work, Uploads, Clears, Gets}
use Rattle.plan_items.specs.Kinds.{limit_of}
use Rattle.plan_upload.specs.Addresses.{same_stream}
use Rattle.plan_upload.specs.Plans.{every_kind, without_plan}
use Rattle.plan_upload.specs.Drone.{Download, UploadResult, DroneStep, Empties, answers, ack, ask, closed, is_own, is_other, opened, has_no_room, count_comes, cancel_code, cancel_comes, clear_comes, result_of, with_result, download_without}
use Rattle.plan_safety.proofs.Keys.{by_test, same, apart, stream_eq, flag_true, flag_false, zero_or, both_true, number_same}
use Rattle.plan_safety.proofs.Pair.{Pair, Facts, SentByDrone, speaks, acks, opens, opens_first, closes, an_ack, a_request}
use Rattle.plan_safety.proofs.DroneSide as side
use Rattle.plan_safety.specs.Frames.{Frame}
use Rattle.plan_safety.specs.Store.{Transaction, RefusesCount, is_among, is_emptied}
use Rattle.plan_safety.proofs.Part.{Seen, Shows, Copies, IsClear, Settles, Accepts, Answers, emptied_of, Operates, Means, accepts_again, again_same, Subject, LastCancelled, Again, truths_keep, kind_of, shown_of, Part, Moments, pair_of, Gathers, Inv, Keeps, result_number, subject}
use Rattle.plan_safety.proofs.Acknowledgements.{cancelled_last, answered_opened}
use Rattle.plan_safety.proofs.Leaf.{Own, emptied_kinds, emptied_in, said_part, drone_said}

-- results
pub result_same : (rs : List UploadResult) (s : Stream) (b : Bool) → result_of (with_result rs s b) s ≡ Some b
result_same [] s b = rw (same s) refl
result_same (r ∷ rs) s b = by_both (same_stream r.stream s) refl (result_same rs s b)
  where
    by_both : (x : Bool) → same_stream r.stream s ≡ x → result_of (with_result rs s b) s ≡ Some b → result_of (if x then record { stream = r.stream; installed = b } ∷ rs else r ∷ with_result rs s b) s ≡ Some b
    by_both true e i = rw e refl
    by_both false e i = rw e i

pub result_apart : (rs : List UploadResult) (t s : Stream) (b : Bool) → t ≢ s → result_of (with_result rs t b) s ≡ result_of rs s
result_apart [] t s b h = rw (apart t s h) refl
result_apart (r ∷ rs) t s b h = by_both (same_stream r.stream t) refl (result_apart rs t s b h)
  where
    by_both : (x : Bool) → same_stream r.stream t ≡ x → result_of (with_result rs t b) s ≡ result_of rs s → result_of (if x then record { stream = r.stream; installed = b } ∷ rs else r ∷ with_result rs t b) s ≡ (if same_stream r.stream s then Some r.installed else result_of rs s)
    by_both true e i = let z : same_stream r.stream s ≡ false = apart r.stream s (λ y. h (sym (stream_eq r.stream t e) ∙ y)) in rw z refl
    by_both false e i = rw i refl

-- a code that answers no cancel
abbrev pub IsRefusal : ℕ → Type 0
IsRefusal c = (c ≢ 0) × (c ≢ 15)

-- when an Ack disturbs nothing; z is the latest verdict after it
pub record CanAck (p : Pair) (z : ℕ) : Type 0 where
  pub sending : p.phase ≡ 3 → 0 < p.first_open → p.stage < 2
  pub attempt : 0 < p.first_reply → p.result ≡ 2 → p.phase ≡ 2
  pub early : 0 < p.first_reply → p.result ≡ 2 → p.last_ack ≤ p.first_reply
  pub late : 0 < p.first_reply → p.result ≡ 2 → p.last_cancel ≤ p.drone_last
  pub more : p.last_verdict ≤ z
  pub sent : z ≤ p.drone_next
  pub clearing : 3 < p.phase → p.station_last < z → p.last_job ≤ p.drone_last
  pub first : 3 < p.phase → p.last_verdict ≤ p.station_last
  pub listed : 4 < p.phase → 0 < p.now_shown → z ≤ p.station_last
  pub quiet : p.work ≡ 0 → p.synced ≡ 1 → z ≤ p.station_last
  pub zero : 0 < p.first_reply → p.last_verdict ≤ p.first_reply
  pub second : 0 < p.first_reply → p.first_reply < z → p.phase ≡ 2
  pub after : 0 < p.first_reply → p.first_reply < z → p.last_cancel ≤ p.drone_last
  pub shut : 0 < p.first_reply → p.first_reply < z → p.has_open ≡ 0
  pub alone : 0 < p.first_reply → p.first_reply < z → p.last_ack ≤ p.first_reply

-- when a refusal disturbs nothing
pub record CanRefuse (p : Pair) : Type 0 where
  pub attempt : p.first_reply ≡ 0
  pub sending : p.phase ≡ 3 → 0 < p.first_open → p.stage < 2
  pub clearing : 3 < p.phase → p.last_job ≤ p.drone_last
  pub first : 3 < p.phase → p.last_verdict ≤ p.station_last
  pub unlisted : 4 < p.phase → p.now_shown ≡ 0
  pub work : 0 < p.work

-- a refusal is such an Ack
pub refuse_ack : (p : Pair) → Facts p → CanRefuse p → CanAck p p.drone_next
refuse_ack p f h = grind arith

-- what is true of a refusal that is sent
refused : (p : Pair) (c k : ℕ) → IsRefusal c → Facts p → CanRefuse p → SentByDrone (acks p p.drone_next) p.drone_next (an_ack c k)
refused p c k r f h = grind arith

-- and of one that closes the upload
closes_refused : (p : Pair) (c k : ℕ) → IsRefusal c → Facts p → CanRefuse p → SentByDrone (closes p p.drone_next) p.drone_next (an_ack c k)
closes_refused p c k r f h = grind arith

-- the facts after an Ack
pub acks_ok : (p : Pair) (z : ℕ) → Facts p → CanAck p z → Facts (acks p z)
acks_ok p z f h = side.acks_facts p z f h.sending h.attempt h.early h.late h.more h.sent h.clearing h.first h.listed h.quiet h.zero h.second h.after h.shut h.alone

-- what was true of each message is true after an Ack, and after one that closes the upload
pub keeps_acks : (p : Pair) (z : ℕ) → Facts p → CanAck p z → Keeps p (acks p z)
keeps_acks p z f h = record { drone_next = omega arith; station_next = omega arith; shows = λ a b. (a, refl); again = again_same _ _ refl refl refl (omega arith); drone = λ u x. side.acks_drone p z u x f h.sending h.attempt h.early h.late h.more h.sent h.clearing h.first h.listed h.quiet h.zero h.second h.after h.shut h.alone; station = λ ck k t l u x. side.acks_station p z ck k t l u x f h.sending h.attempt h.early h.late h.more h.sent h.clearing h.first h.listed h.quiet h.zero h.second h.after h.shut h.alone }

pub keeps_closes : (p : Pair) (z : ℕ) → Facts p → 0 < p.has_open → p.last_verdict ≤ z → z ≤ p.drone_next → (0 < p.first_reply → z ≡ p.last_verdict) → Keeps p (closes p z)
keeps_closes p z f h a b c = record { drone_next = omega arith; station_next = omega arith; shows = λ a b. (a, refl); again = again_same _ _ refl refl refl (omega arith); drone = λ u x. side.closes_drone p z u x f h a b c; station = λ ck k t l u x. side.closes_station p z ck k t l u x f h a b c }

-- a message that answers neither a cancel nor a Clear
abbrev pub IsNoVerdict : PlanMsg → Type 0
IsNoVerdict (Ping to usec n) = Unit {0}
IsNoVerdict (Count to n k) = Unit {0}
IsNoVerdict (Give to i k x) = Unit {0}
IsNoVerdict (Request to i k) = Unit {0}
IsNoVerdict (Ack to c k) = (c ≢ 0) × (c ≢ 1)
IsNoVerdict (Clear to k) = Unit {0}
IsNoVerdict (Listing to k) = Unit {0}

no_verdict : (d s : Stream) (p : Pair) (j : Subject) (t : ℕ) (earlier : List Frame) (a : PlanMsg) → IsNoVerdict a → Settles d s p j t earlier (Some a) × Accepts p j.emptied t (Some a)
no_verdict d s p j t earlier (Ping to usec n) h = (tt, tt)
no_verdict d s p j t earlier (Count to n k) h = (tt, tt)
no_verdict d s p j t earlier (Give to i k x) h = (tt, tt)
no_verdict d s p j t earlier (Request to i k) h = (tt, tt)
no_verdict d s p j t earlier (Ack to c k) h = (λ _ _ _ e. absurd (h.1 e), λ _ _ e. absurd (h.0 e))
no_verdict d s p j t earlier (Clear to k) h = (tt, tt)
no_verdict d s p j t earlier (Listing to k) h = (tt, tt)

-- what an Ack with this code has to say of the cancel that it answers, and of the clear
abbrev pub Concludes : Stream → Stream → Part → Pair → ℕ → Type 0
Concludes d s p q c =
    (0 < q.first_reply → q.first_reply < p.drone_next → q.final_sent ≡ 1 → c ≡ 1 → LastCancelled d s (subject p.transaction p.opening) p.sent)
    × (q.phase ≡ 4 → q.station_last < p.drone_next → c ≡ 0 → emptied_of p.opening ≡ true)

-- a refusal says nothing of either
concludes_nothing : (d s : Stream) (p : Part) (q : Pair) (c : ℕ) → IsRefusal c → CanRefuse q → Concludes d s p q c
concludes_nothing d s p q c r h = (λ some _ _ _. absurd (let z = h.attempt in omega arith), λ _ _ e. absurd (r.0 e))

-- nor does OPERATION_CANCELLED
pub concludes_cancelled : (d s : Stream) (p : Part) (q : Pair) → Concludes d s p q 15
concludes_cancelled d s p q = (λ _ _ _ e. absurd (omega arith), λ _ _ e. absurd (omega arith))

-- the latest Ack but 13 is at t, and the latest verdict at z
abbrev pub acked : Moments → ℕ → ℕ → Moments
acked g t z = record g { last_ack = t; last_verdict = z }

module _ (d s : Stream) (ne : d ≢ s) where
  -- an answer that changes nothing and is no Ack, or Ack 13
  pub on_answer : (p : Part) (g : Moments) (a : PlanMsg) → Inv d s p g → SentByDrone (speaks (pair_of s p g)) p.drone_next (Some a) → Shows (speaks (pair_of s p g)) (kind_of p.opening) (shown_of p.opening) p.drone_next (Some a) → ((pair_of s p g).phase ≡ 3 → Answers d s p.transaction g.counted g.first_open p.drone_next p.sent (Some a)) → IsNoVerdict a → Inv d s (said_part d p p.drone a) g
  on_answer p g a i n sh new plain =
      let q : Pair = pair_of s p g in
      drone_said d s ne p g g p.drone a (speaks q) i refl (side.speaks_facts q i.facts)
      (record { drone_next = omega arith; station_next = omega arith; shows = λ a b. (a, refl); again = again_same _ _ refl refl refl (omega arith); drone = λ u x. side.speaks_drone q u x i.facts; station = λ ck k t l u x. side.speaks_station q ck k t l u x i.facts })
      (λ _. n) (omega arith) i.upload refl (λ _. sh) (λ k l z. z) (λ x. ((i.asked x).0, inr (i.asked x).1)) i.answers (λ ph _. new ph) (λ _. no_verdict d s (speaks q) (subject p.transaction p.opening) p.drone_next p.sent a plain)

  -- an Ack, when at most the own download is closed
  pub on_ack : (p : Part) (g : Moments) (w : Option Download) (c k z : ℕ) → ((k : ℕ) (x : List Item) → Copies s k x p.drone.download → Copies s k x w) → Inv d s p g → CanAck (pair_of s p g) z → SentByDrone (acks (pair_of s p g) z) p.drone_next (an_ack c k) → ((pair_of s p g).phase ≡ 3 → Answers d s p.transaction g.counted g.first_open p.drone_next p.sent (Some (ack s c k))) → Concludes d s p (pair_of s p g) c → Inv d s (said_part d p (record p.drone { download = w }) (ack s c k)) (acked g p.drone_next z)
  on_ack p g w c k z cp i h n new set = let q : Pair = pair_of s p g in drone_said d s ne p g (acked g p.drone_next z) (record p.drone { download = w }) (ack s c k) (acks q z) i refl (acks_ok q z i.facts h) (keeps_acks q z i.facts h) (λ _. n) (omega arith) i.upload refl (λ _. tt) cp (λ x. ((i.asked x).0, inr (i.asked x).1)) i.answers (λ ph _. new ph) (λ _. (set.0, set.1))

  -- the own upload is closed
  pub on_close : (p : Part) (g : Moments) (w : Option Download) (c k z : ℕ) → ((k : ℕ) (x : List Item) → Copies s k x p.drone.download → Copies s k x w) → Inv d s p g → 0 < (pair_of s p g).has_open → g.last_verdict ≤ z → z ≤ p.drone_next → (0 < g.first_reply → z ≡ g.last_verdict) → SentByDrone (closes (pair_of s p g) z) p.drone_next (an_ack c k) → ((pair_of s p g).phase ≡ 3 → Answers d s p.transaction g.counted g.first_open p.drone_next p.sent (Some (ack s c k))) → Concludes d s p (pair_of s p g) c → Inv d s (said_part d p (record p.drone { upload = None; results = with_result p.drone.results s false; download = w }) (ack s c k)) (acked g p.drone_next z)
  on_close p g w c k z cp i h a b x n new set =
      let q : Pair = pair_of s p g in
      drone_said d s ne p g (acked g p.drone_next z) (record p.drone { upload = None; results = with_result p.drone.results s false; download = w }) (ack s c k) (closes q z) i (rw (result_same p.drone.results s false) refl) (side.closes_facts q z i.facts h a b x) (keeps_closes q z i.facts h a b x) (λ _. n) (omega arith) tt refl (λ _. tt) cp (λ x. ((i.asked x).0, inr (i.asked x).1)) i.answers (λ ph _. new ph) (λ _. (set.0, set.1))

  -- the own upload is closed with a refusal
  pub on_refusal : (p : Part) (g : Moments) (c k : ℕ) → Inv d s p g → IsRefusal c → CanRefuse (pair_of s p g) → ((pair_of s p g).phase ≡ 3 → Answers d s p.transaction g.counted g.first_open p.drone_next p.sent (Some (ack s c k))) → Own d s p (answers (closed p.drone s) (ack s c k))
  on_refusal p g c k i r h new =
      let q : Pair = pair_of s p g in
      let l : q.last_verdict ≤ q.drone_next = (let z = i.facts.last_verdict_sent in omega arith) in
      by_test (λ e. Own d s p (answers e (ack s c k))) (is_own p.drone.upload s) _ _
      (λ own. record { needs = tt; moments = acked g p.drone_next p.drone_next; inv = on_close p g p.drone.download c k p.drone_next (λ k l z. z) i (let z : q.has_open ≡ 1 = flag_true _ own in omega arith) l (omega arith) (λ x. absurd (let z = h.attempt in omega arith)) (closes_refused q c k r i.facts h) new (concludes_nothing d s p q c r h) })
      (λ other. record { needs = tt; moments = acked g p.drone_next p.drone_next; inv = on_ack p g p.drone.download c k p.drone_next (λ k l z. z) i (refuse_ack q i.facts h) (refused q c k r i.facts h) new (concludes_nothing d s p q c r h) })

  -- a refusal that changes nothing
  pub on_denial : (p : Part) (g : Moments) (c k : ℕ) → Inv d s p g → IsRefusal c → CanRefuse (pair_of s p g) → ((pair_of s p g).phase ≡ 3 → Answers d s p.transaction g.counted g.first_open p.drone_next p.sent (Some (ack s c k))) → Own d s p (answers p.drone (ack s c k))
  on_denial p g c k i r h new =
      let q : Pair = pair_of s p g in
      record { needs = tt; moments = acked g p.drone_next p.drone_next; inv = on_ack p g p.drone.download c k p.drone_next (λ k l z. z) i (refuse_ack q i.facts h) (refused q c k r i.facts h) new (concludes_nothing d s p q c r h) }

-- what is known of a cancel that was admitted
pub record Cancelled (p : Pair) : Type 0 where
  pub cancel : p.drone_last ≤ p.last_cancel
  pub clearing : 3 < p.phase → p.result < 2
  pub quiet : p.work ≡ 0 → p.synced ≡ 1 → p.result < 2
  pub early : 0 < p.first_reply → p.result ≡ 2 → p.last_ack ≤ p.first_reply
  pub zero : 0 < p.first_reply → p.last_verdict ≤ p.first_reply
  pub only : 0 < p.first_ping → p.first_ping ≤ p.drone_last → p.drone_last ≡ p.last_cancel
  pub first : 3 < p.phase → p.last_verdict ≤ p.station_last

-- what is true of the answer to a cancel that closes the own upload, and of one that finds none open
pub cancel_own : (p : Pair) (k : ℕ) → Facts p → 0 < p.has_open → SentByDrone (closes p p.last_verdict) p.drone_next (an_ack 15 k)
cancel_own p k f h = grind arith

abbrev pub CodeOf : ℕ → ℕ → Type 0
CodeOf kept c = ((kept ≡ 0) × (c ≡ 1)) ⊎ (((kept ≡ 2) × (c ≡ 0)) ⊎ ((kept ≡ 1) × (c ≡ 15)))

cancel_other : (p : Pair) (k c z : ℕ) → Facts p → Cancelled p → p.has_open ≡ 0 → CodeOf p.result c → (c ≡ 0 → z ≡ p.drone_next) → (c ≢ 0 → z ≡ p.last_verdict) → SentByDrone (acks p z) p.drone_next (an_ack c k)
cancel_other p k c z f x h kept a b = grind arith

-- the latter disturbs nothing
cancel_can : (p : Pair) (c z : ℕ) → Facts p → Cancelled p → CodeOf p.result c → (c ≡ 0 → z ≡ p.drone_next) → (c ≢ 0 → z ≡ p.last_verdict) → CanAck p z
cancel_can p c z f x kept a b = grind arith

-- the latest verdict after the answer to a cancel
latest_zero : (c t u : ℕ) → c ≡ 0 → (if c == 0 then t else u) ≡ t
latest_zero c t u e = grind arith

latest_other : (c t u : ℕ) → c ≢ 0 → (if c == 0 then t else u) ≡ u
latest_other c t u e = grind arith

-- the code that answers a cancel says what the result is
cancel_code_of : (o : Option Bool) → CodeOf (result_number o) (cancel_code o)
cancel_code_of None = inl (refl, refl)
cancel_code_of (Some true) = inr (inl (refl, refl))
cancel_code_of (Some false) = inr (inr (refl, refl))

-- such a cancel is that of phase 2, if its PING was answered; only an upload sends a last item; and in a clear the
-- answer is not 0
cancel_phase : (p : Pair) → Facts p → Cancelled p → 0 < p.first_reply → p.phase ≡ 2
cancel_phase p f x some = grind arith

last_work : (p : Pair) → Facts p → p.final_sent ≡ 1 → p.work ≡ 1
last_work p f last = grind arith

cancel_clear : (p : Pair) (c : ℕ) → Cancelled p → p.phase ≡ 4 → CodeOf p.result c → c ≡ 0 → ⊥
cancel_clear p c x ph kept none = grind arith

-- what is known of a Count that was admitted
pub record Counted (p : Pair) : Type 0 where
  pub count : p.drone_last ≤ p.last_count
  pub counted : 0 < p.first_count
  pub own : p.first_count ≤ p.drone_last

-- a Count may be refused, and so may a Clear or a List
count_refuses : (p : Pair) → Facts p → Counted p → CanRefuse p
count_refuses p f h = grind arith

-- what is known of a Clear or a Listing that was admitted
pub record Clearing (p : Pair) : Type 0 where
  pub job : p.drone_last ≤ p.last_job
  pub begun : 0 < p.first_job
  pub last : 3 < p.phase → p.drone_last ≡ p.last_job
  pub first : 3 < p.phase → p.last_verdict ≤ p.station_last
  pub unlisted : 4 < p.phase → p.now_shown ≡ 0

pub clear_refuses : (p : Pair) → Facts p → Clearing p → CanRefuse p
clear_refuses p f h = grind arith

-- what is true of the answer to a Clear, and of the first Request of an upload
clear_new : (p : Pair) (k : ℕ) → Facts p → Clearing p → SentByDrone (acks p p.drone_next) p.drone_next (an_ack 0 k)
clear_new p k f h = grind arith

opens_new : (p : Pair) (k : ℕ) → Facts p → 0 < p.first_open → SentByDrone (opens p) p.drone_next (a_request 0 k)
opens_new p k f h = grind arith

opens_first_new : (p : Pair) (k : ℕ) → Facts p → SentByDrone (opens_first p) p.drone_next (a_request 0 k)
opens_first_new p k f = grind arith

-- the codes that refuse a Count
pub refuses_only : (c : ℕ) → RefusesCount c → (c ≢ 0) × (c ≢ 1) × (c ≢ 13) × (c ≢ 15)
refuses_only c r = grind arith

-- in phase 3 no Clear or List is admitted, and no cancel since the upload was opened
pub no_clear : (p : Pair) → Facts p → Clearing p → p.phase ≡ 3 → ⊥
no_clear p f h ph = grind arith

no_cancel : (p : Pair) → Facts p → Cancelled p → p.phase ≡ 3 → 0 < p.first_open → ⊥
no_cancel p f h ph some = grind arith

-- the answer to a cancel refuses no Count
cancel_only : (kept c : ℕ) → CodeOf kept c → RefusesCount c → ⊥
cancel_only kept c h r = grind arith

-- the codes of refusals
pub three : IsRefusal 3
three = (λ e. absurd (omega arith), λ e. absurd (omega arith))

four : IsRefusal 4
four = (λ e. absurd (omega arith), λ e. absurd (omega arith))

five : IsRefusal 5
five = (λ e. absurd (omega arith), λ e. absurd (omega arith))

pub denied : IsRefusal 14
denied = (λ e. absurd (omega arith), λ e. absurd (omega arith))

-- a number that isn't 0
eq_zero : (n : ℕ) → (n == 0) ≡ false → 0 < n
eq_zero n e = grind arith

-- a clear of this kind has emptied it
emptied_now : (c : Seen) (k : ℕ) → c.kind ≡ k → emptied_of (emptied_in (Some c) k) ≡ true
emptied_now c k h = subst (λ n. is_emptied n (emptied_kinds k c.emptied) ≡ true) (sym h) (by_kind (k == every_kind) refl)
  where
    by_kind : (b : Bool) → (k == every_kind) ≡ b → is_emptied k (emptied_kinds k c.emptied) ≡ true
    by_kind true e = rw e refl
    by_kind false e = rw (e, number_same k) refl

-- what was emptied stays so
among_more : (kind k : ℕ) (emptied : List ℕ) → is_among kind emptied ≡ true → is_among kind (k ∷ emptied) ≡ true
among_more kind k emptied h = by_first (k == kind)
  where
    by_first : (b : Bool) → (b || is_among kind emptied) ≡ true
    by_first true = refl
    by_first false = h

emptied_more : (kind k : ℕ) (emptied : List ℕ) → is_emptied kind emptied ≡ true → is_emptied kind (k ∷ emptied) ≡ true
emptied_more kind k emptied = by_kind (kind == every_kind)
  where
    by_kind : (b : Bool) → (if b then is_among 0 emptied && (is_among 1 emptied && is_among 2 emptied) else is_among kind emptied) ≡ true → (if b then is_among 0 (k ∷ emptied) && (is_among 1 (k ∷ emptied) && is_among 2 (k ∷ emptied)) else is_among kind (k ∷ emptied)) ≡ true
    by_kind true h = let a = both_true _ _ h in let b = both_true _ _ a.1 in rw (among_more 0 k emptied a.0, among_more 1 k emptied b.0, among_more 2 k emptied b.1) refl
    by_kind false h = among_more kind k emptied h

emptied_still : (c : Seen) (k : ℕ) → emptied_of (Some c) ≡ true → emptied_of (emptied_in (Some c) k) ≡ true
emptied_still c k h = by_kind (k == every_kind)
  where
    by_kind : (b : Bool) → is_emptied c.kind (if b then 2 ∷ 1 ∷ 0 ∷ c.emptied else k ∷ c.emptied) ≡ true
    by_kind true = emptied_more c.kind 2 (1 ∷ 0 ∷ c.emptied) (emptied_more c.kind 1 (0 ∷ c.emptied) (emptied_more c.kind 0 c.emptied h))
    by_kind false = emptied_more c.kind k c.emptied h

-- the operation does not speak of what was emptied
operates_emptied : (d s : Stream) (sent : List Frame) (t : Transaction) (c : Seen) (k : ℕ) (cancelled : Bool) (pings : ℕ) (o : Option Operation) → Operates d s sent t (Some c) cancelled pings o → Operates d s sent t (emptied_in (Some c) k) cancelled pings o
operates_emptied d s sent t c k cancelled pings None h = tt
operates_emptied d s sent t c k cancelled pings (Some o) h = record { means = means o.work h.means; numbered = h.numbered; coded = h.coded; terminates = h.terminates; gathers = h.gathers; final = h.final; cancel = h.cancel }
  where
    means : (w : Work) → Means t (Some c) w o.kind o.plan → Means t (emptied_in (Some c) k) w o.kind o.plan
    means Uploads m = m
    means Clears m = m
    means Gets m = m

-- the mark that the kinds were emptied
mark_emptied : (d s : Stream) (p : Part) (g : Moments) (k : ℕ) (c : Seen) → Inv d s (record p { opening = Some c }) g → Inv d s (record p { opening = emptied_in (Some c) k }) g
mark_emptied d s p g k c i =
    let q : Pair = pair_of s (record p { opening = Some c }) g in
    let j = subject p.transaction (Some c) in
    let j' = subject p.transaction (emptied_in (Some c) k) in
    let same : Again q q = again_same q q refl refl refl (omega arith) in
    record {
      facts = i.facts;
      truths = truths_keep d s q q j j' (λ f earlier t. record {
        drone = t.drone;
        shows = t.shows;
        station = t.station;
        last = λ a b. t.last a b;
        accepts = λ a b. accepts_again q q j.emptied j'.emptied f.timestamp f.message same (emptied_still c k) (t.drone a b) (t.accepts a b);
        named = t.named;
        by_drone = t.by_drone;
        by_station = t.by_station;
      }) p.sent i.truths;
      upload = i.upload;
      operation = operates_emptied d s p.sent p.transaction c k p.cancelled p.pings p.operation i.operation;
      for_drone = i.for_drone;
      since = i.since;
      since_count = i.since_count;
      count = i.count;
      download = i.download;
      asked = i.asked;
      answers = i.answers;
    }

-- closing the own download keeps what it was a copy of
pub left_copies : (s : Stream) (k : ℕ) (x : List Item) (c : Option Download) → Copies s k x c → Copies s k x (download_without c s)
left_copies s k x None h = tt
left_copies s k x (Some c) h = by_test (Copies s k x) (same_stream c.stream s) None (Some c) (λ _. tt) (λ _. h)

module _ (d s : Stream) (ne : d ≢ s) where
  -- a cancel
  pub on_cancel : (p : Part) (g : Moments) (k : ℕ) → Inv d s p g → Cancelled (pair_of s p g) → Own d s p (cancel_comes p.drone s k)
  on_cancel p g k i x =
      let q : Pair = pair_of s p g in
      by_test (λ e. Own d s p (answers e (ack s (cancel_code (result_of e.results s)) k))) (is_own p.drone.upload s) _ _
      (λ own. record { needs = tt; moments = acked g p.drone_next g.last_verdict; inv = rw (result_same p.drone.results s false) (on_close d s ne p g (download_without p.drone.download s) 15 k g.last_verdict (λ k x z. left_copies s k x p.drone.download z) i (let z : q.has_open ≡ 1 = flag_true _ own in omega arith) (omega arith) (let z = i.facts.last_verdict_sent in omega arith) (λ _. refl) (cancel_own q k i.facts (let z : q.has_open ≡ 1 = flag_true _ own in omega arith)) (λ ph. (λ _ r. absurd ((refuses_only 15 r).3 refl), λ some _ _. absurd (no_cancel q i.facts x ph some))) (concludes_cancelled d s p q)) })
      (λ other.
      let c = cancel_code (result_of p.drone.results s) in
      let z : ℕ = if c == 0 then p.drone_next else g.last_verdict in
      record {
        needs = tt;
        moments = acked g p.drone_next z;
        inv = on_ack d s ne p g (download_without p.drone.download s) c k z (λ k x z. left_copies s k x p.drone.download z) i
            (cancel_can q c z i.facts x (cancel_code_of (result_of p.drone.results s)) (latest_zero c p.drone_next g.last_verdict) (latest_other c p.drone_next g.last_verdict))
            (cancel_other q k c z i.facts x (flag_false _ other) (cancel_code_of (result_of p.drone.results s)) (latest_zero c p.drone_next g.last_verdict) (latest_other c p.drone_next g.last_verdict))
            (λ ph. (λ _ r. absurd (cancel_only q.result c (cancel_code_of (result_of p.drone.results s)) r), λ some _ _. absurd (no_cancel q i.facts x ph some))) (
              λ some _ last _. cancelled_last d s p.sent p.transaction p.opening p.cancelled p.pings p.operation (cancel_phase q i.facts x some) (last_work q i.facts last) last i.operation,
              λ ph _ none. absurd (cancel_clear q c x ph (cancel_code_of (result_of p.drone.results s)) none),
            );
      })

  -- an upload that is opened has gathered nothing
  begun : (p : Part) (k n : ℕ) → k ≡ p.transaction.kind → n ≡ length p.transaction.plan → 0 < length p.transaction.plan → Gathers d s p.sent p.transaction (Some (record { stream = s; kind = k; total = n; items = []; idle = 0 }))
  begun p k n a b c = λ _. record { kind = a; total = b; short = c; same = refl; said = λ i x l y. absurd (omega arith) }

  -- an upload is opened, for the first time or again
  pub on_open : (p : Part) (g : Moments) (k n : ℕ) → Inv d s p g → Counted (pair_of s p g) → k ≡ p.transaction.kind → n ≡ length p.transaction.plan → 0 < n → Own d s p (answers (opened p.drone s k n) (ask s k 0))
  on_open p g k n i b ek en some =
      let q : Pair = pair_of s p g in
      let u : Gathers d s p.sent p.transaction (opened p.drone s k n).upload = begun p k n ek en (rw (← en) some) in
      elim (zero_or g.first_open) [
        | inl none ↦ record {
          needs = tt;
          moments = record g { first_open = p.drone_next; last_request = p.drone_next };
          inv =
              drone_said d s ne p g (record g { first_open = p.drone_next; last_request = p.drone_next }) (opened p.drone s k n) (ask s k 0) (opens_first q) i (rw (same s, result_same p.drone.results s false) refl)
              (side.opens_first_facts q i.facts b.count b.counted b.own none)
              (record { drone_next = omega arith; station_next = omega arith; shows = λ a b. (a, refl); again = again_same _ _ refl refl refl (omega arith); drone = λ v x. side.opens_first_drone q v x i.facts b.count b.counted b.own none; station = λ ck kk t l v x. side.opens_first_station q ck kk t l v x i.facts b.count b.counted b.own none })
              (λ _. opens_first_new q k i.facts) (omega arith) u refl (λ _. tt) (λ k l z. z)
              (λ _. (0, inl (refl, ap (λ y. Some (ask s y 0)) ek, i.count b.counted))) (λ ph. answered_opened d s p.transaction g.counted g.first_open p.drone_next q (subject p.transaction p.opening) p.sent (omega arith) i.truths (i.answers ph)) (λ _ _. tt) (λ _. (tt, tt));
        }
        | inr ever ↦ record {
          needs = tt;
          moments = record g { last_request = p.drone_next };
          inv =
              drone_said d s ne p g (record g { last_request = p.drone_next }) (opened p.drone s k n) (ask s k 0) (opens q) i (rw (same s, result_same p.drone.results s false) refl)
              (side.opens_facts q i.facts b.count b.own ever)
              (record { drone_next = omega arith; station_next = omega arith; shows = λ a b. (a, refl); again = again_same _ _ refl refl refl (omega arith); drone = λ v x. side.opens_drone q v x i.facts b.count b.own ever; station = λ ck kk t l v x. side.opens_station q ck kk t l v x i.facts b.count b.own ever })
              (λ _. opens_new q k i.facts ever) (omega arith) u refl (λ _. tt) (λ k l z. z) (λ x. ((i.asked x).0, inr (i.asked x).1)) i.answers (λ _ _. tt) (λ _. (tt, tt));
        }
      ]

  -- MISSION_COUNT
  pub on_count : (p : Part) (g : Moments) (k n : ℕ) → Inv d s p g → Counted (pair_of s p g) → k ≡ p.transaction.kind → n ≡ length p.transaction.plan → Own d s p (count_comes p.drone s n k)
  on_count p g k n i b ek en =
      let P : DroneStep → Type 0 = Own d s p in
      let can = count_refuses (pair_of s p g) i.facts b in
      by_test P (nat_lt 2 k) _ _ (λ _. on_refusal d s ne p g 3 k i three can (new 3 (inl refl))) (λ _.
      by_test P (is_other p.drone.upload s) _ _ (λ _. on_denial d s ne p g 14 k i denied can (new 14 (inr (inr (inr refl))))) (λ _.
      by_test P (n == 0) _ _ (λ _. on_refusal d s ne p g 5 k i five can (new 5 (inr (inr (inl refl))))) (λ some.
      by_test P (nat_lt (limit_of k) n) _ _ (λ _. on_refusal d s ne p g 4 k i four can (new 4 (inr (inl refl)))) (λ _.
      by_test P (has_no_room p.drone s) _ _ (λ _. on_denial d s ne p g 14 k i denied can (new 14 (inr (inr (inr refl))))) (λ _.
      on_open p g k n i b ek en (eq_zero n some))))))
    where
      new : (c : ℕ) → RefusesCount c → (pair_of s p g).phase ≡ 3 → Answers d s p.transaction g.counted g.first_open p.drone_next p.sent (Some (ack s c k))
      new c r ph = (λ _ _. (ek, i.count b.counted), λ some _ _. (ek, i.asked some, inl r))

  -- MISSION_CLEAR_ALL
  pub on_clear : (keeps : Bool) (p : Part) (g : Moments) (k : ℕ) → Inv d s p g → Clearing (pair_of s p g) → IsClear k p.opening → Own d s p (clear_comes keeps p.drone s k)
  on_clear keeps p g k i b e =
      let P : DroneStep → Type 0 = Own d s p in
      let q : Pair = pair_of s p g in
      let can = clear_refuses q i.facts b in
      by_test P (nat_lt 2 k && not (k == every_kind)) _ _ (λ _. on_denial d s ne p g 3 k i three can (λ ph. absurd (no_clear q i.facts b ph))) (λ _.
      by_test P (is_other p.drone.upload s) _ _ (λ _. on_denial d s ne p g 14 k i denied can (λ ph. absurd (no_clear q i.facts b ph))) (λ _.
      by_test P keeps _ _ (λ _.
      by_test (λ x. Own d s p (record { drone = record x { plans = without_plan p.drone.plans k }; answer = Some (ack s 0 k); event = Empties s k })) (is_own p.drone.upload s) _ _
      (λ own. absurd (shut q i.facts b (flag_true _ own)))
      (λ _. record { needs = (refl, e); moments = acked g p.drone_next p.drone_next; inv = emptied p.opening i b e }))
      (λ _. on_denial d s ne p g 14 k i denied can (λ ph. absurd (no_clear q i.facts b ph)))))
    where
      shut : (p : Pair) → Facts p → Clearing p → p.has_open ≡ 1 → ⊥
      shut p f h o = grind arith

      -- its kinds are emptied, and then it is acknowledged
      emptied : (c : Option Seen) → Inv d s (record p { opening = c }) g → Clearing (pair_of s (record p { opening = c }) g) → IsClear k c → Inv d s (said_part d (record p { opening = emptied_in c k }) (record p.drone { plans = without_plan p.drone.plans k }) (ack s 0 k)) (acked g p.drone_next p.drone_next)
      emptied None i b e = absurd e
      emptied (Some c) i b e =
          let v = record p { opening = emptied_in (Some c) k } in
          let q : Pair = pair_of s v g in
          let j = mark_emptied d s p g k c i in
          let can = clear_refuses q j.facts b in
          drone_said d s ne v g (acked g p.drone_next p.drone_next) (record p.drone { plans = without_plan p.drone.plans k }) (ack s 0 k) (acks q p.drone_next) j refl
          (acks_ok q p.drone_next j.facts (refuse_ack q j.facts can)) (keeps_acks q p.drone_next j.facts (refuse_ack q j.facts can))
          (λ _. clear_new q k j.facts b) (omega arith) j.upload refl (λ _. tt) (λ k l z. z) (λ x. ((j.asked x).0, inr (j.asked x).1)) j.answers (λ ph _. absurd (no_clear q j.facts b ph))
          (λ _. (λ _ _ _ z. absurd (omega arith), λ _ _ _. emptied_now c k e.1))
