-- The drone, at a message of the station that comes late enough.
use Rattle.std.proofs.Common.{◌≡◌, ◌≢◌, ℕ, ◌+◌, ◌<◌, ◌≤◌, ◌⊎◌, inl, inr, Bool, true, ◌==◌, List, Option, Some, None, refl, sym, ap, subst, arith}
use Rattle.mav_names.specs.declared.names.Stream.{Stream}
use Rattle.plan_items.specs.declared.items.Item.{Item}
use Rattle.plan_items.specs.declared.messages.PlanMsg.{PlanMsg}
use Rattle.plan_items.specs.declared.messages.PlanMsg.TheVariants.{Count, Request, Item as Give, Ack, List as Listing, Clear, Ping}
use Rattle.plan_upload.specs.Addresses.{same_name, node_of, everyone, is_for_drone}
use Rattle.plan_upload.specs.Drone.{answers, list_comes, drone_step}
use Rattle.plan_safety.specs.Frames.{Said}
use Rattle.plan_safety.specs.World.{drone_takes}
use Rattle.plan_safety.specs.Store.{Job, A_clear, A_get}
use Rattle.plan_safety.proofs.Keys.{by_test, name_eq}
use Rattle.plan_safety.proofs.Pair.{Pair, Facts, SentByStation, SentByDrone, admits, later_drone, speaks, replies, a_ping}
use Rattle.plan_safety.proofs.DroneSide as side
use Rattle.plan_safety.proofs.Part.{Seen, IsClear, kind_of, job_number, Part, Moments, pair_of, subject, Reaches, Named, Inv, keeps_truth, truths_keep, again_same, number_in}
use Rattle.plan_safety.proofs.Leaf.{Own, drone_said}
use Rattle.plan_safety.proofs.DroneCases.{Cancelled, Clearing, on_answer, on_count, on_cancel, on_clear}
use Rattle.plan_safety.proofs.DroneItems.{on_item}
use Rattle.plan_safety.proofs.DroneDownloads.{Listing_comes, getting, on_undownloaded, on_request, on_list}

-- the drone has admitted the timestamp t, and its next one is n
abbrev pub admitted : Part → ℕ → ℕ → Part
admitted p t n = record p { drone_last = t; drone_next = n }

-- a PING of this resynchronisation that was not answered before, or another
reply_or_not : (p : Pair) (n : ℕ) → ((p.first_reply ≡ 0) × (0 < p.first_ping) × (n ≡ p.number)) ⊎ (0 < p.first_ping → n ≡ p.number → 0 < p.first_reply)
reply_or_not p n = grind arith

-- what is true of the first reply, and of another
replies_new : (p : Pair) (n : ℕ) → Facts p → n < p.next_ping → SentByDrone (replies p) p.drone_next (a_ping n)
replies_new p n f h = grind arith

answers_new : (p : Pair) (n : ℕ) → Facts p → n < p.next_ping → (0 < p.first_ping → n ≡ p.number → 0 < p.first_reply) → SentByDrone (speaks p) p.drone_next (a_ping n)
answers_new p n f h e = grind arith

-- an open upload was opened at a Count of the transaction
open_count : (p : Pair) → Facts p → 0 < p.has_open → (0 < p.first_count) × (p.first_count ≤ p.drone_last)
open_count p f h = grind arith

-- what is known of a cancel, a Clear and a List that is admitted
cancelled : (p : Pair) (t n : ℕ) → Facts p → p.drone_last < t → t ≤ p.last_cancel → (0 < p.first_ping → p.first_ping ≤ t → t ≡ p.last_cancel) → Cancelled (record p { drone_last = t; drone_next = n })
cancelled p t n f late x only = grind arith

cleared : (p : Pair) (t n : ℕ) → Facts p → p.drone_last < t → t ≤ p.last_job → (0 < p.first_job) × (p.first_job ≤ t) → (3 < p.phase → t ≡ p.last_job) → Clearing (record p { drone_last = t; drone_next = n })
cleared p t n f late a b c = record { job = a; begun = b.0; last = c; first = first p t f late a; unlisted = unlisted p t f late a }
  where
    first : (p : Pair) (t : ℕ) → Facts p → p.drone_last < t → t ≤ p.last_job → 3 < p.phase → p.last_verdict ≤ p.station_last
    first p t f late a ph = grind arith

    unlisted : (p : Pair) (t : ℕ) → Facts p → p.drone_last < t → t ≤ p.last_job → 4 < p.phase → p.now_shown ≡ 0
    unlisted p t f late a ph = grind arith

listed : (p : Pair) (t n : ℕ) → Facts p → p.drone_last < t → t ≤ p.last_job → p.first_job ≤ t → p.work ≡ 3 → Listing_comes (record p { drone_last = t; drone_next = n })
listed p t n f late a b on = record { own = b; work = on; phase = not_taking p t f late a; attempt = no_attempt p t f late a }
  where
    not_taking : (p : Pair) (t : ℕ) → Facts p → p.drone_last < t → t ≤ p.last_job → p.phase < 6
    not_taking p t f late a = grind arith

    no_attempt : (p : Pair) (t : ℕ) → Facts p → p.drone_last < t → t ≤ p.last_job → p.first_reply ≡ 0
    no_attempt p t f late a = grind arith

-- the open clear has the kind, and so has the open download
clear_kind : (c : Option Seen) (k : ℕ) → number_in c (λ (x : Seen). job_number x.job) ≡ 1 → k ≡ kind_of c → IsClear k c
clear_kind None k h e = absurd (omega arith)
clear_kind (Some x) k h e = (is_clear x.job h, sym e)
  where
    is_clear : (w : Job) → job_number w ≡ 1 → w ≡ A_clear
    is_clear A_clear h = refl
    is_clear (A_get y) h = absurd (omega arith)

abbrev opens : ℕ → Job → ℕ × List ℕ → Option Seen
opens k w n = Some (record { kind = k; job = w; drone_since = n.0; emptied = n.1 })

get_kind : (c : Option Seen) (k : ℕ) → number_in c (λ (x : Seen). job_number x.job) ≡ 2 → k ≡ kind_of c → (y : Option (List Item)) × (n : ℕ × List ℕ) × (c ≡ getting k y n)
get_kind None k h e = absurd (omega arith)
get_kind (Some x) k h e = is_get x.job h
  where
    is_get : (w : Job) → job_number w ≡ 2 → (y : Option (List Item)) × (n : ℕ × List ℕ) × (opens x.kind w (x.drone_since, x.emptied) ≡ getting k y n)
    is_get A_clear h = absurd (omega arith)
    is_get (A_get y) h = (y, (x.drone_since, x.emptied), ap (λ i. opens i (A_get y) (x.drone_since, x.emptied)) (sym e))

-- what the store has open in a clear and in a download
open_clear : (p : Pair) → Facts p → p.work ≡ 2 → p.job ≡ 1
open_clear p f h = grind arith

open_get : (p : Pair) → Facts p → p.work ≡ 3 → p.job ≡ 2
open_get p f h = grind arith

-- a test
fifteen : (c : ℕ) → (c == 15) ≡ true → c ≡ 15
fifteen c e = grind arith

module _ (d s : Stream) (ne : d ≢ s) where
  -- the pair after a frame was admitted
  pub inv_admitted : (p : Part) (g : Moments) (t n : ℕ) → Inv d s p g → p.drone_last < t → t < p.station_next → p.drone_next ≤ n → Inv d s (admitted p t n) g
  inv_admitted p g t n i late known more =
      let q : Pair = pair_of s p g in
      let f : Facts (admits q t) = side.admits_facts q t i.facts late known in
      let j = subject p.transaction p.opening in
      record {
        facts = side.later_drone_facts (admits q t) n f more;
        truths = truths_keep d s q (later_drone (admits q t) n) j j (λ x earlier y. keeps_truth d s (admits q t) (later_drone (admits q t) n) j
            (record { drone_next = more; station_next = omega arith; shows = λ a b. (a, refl); again = again_same _ _ refl refl refl (omega arith); drone = λ v x. side.later_drone_drone (admits q t) n v x f more; station = λ ck k tt' l v x. side.later_drone_station (admits q t) n ck k tt' l v x f more }) x earlier
            (keeps_truth d s q (admits q t) j (record { drone_next = omega arith; station_next = omega arith; shows = λ a b. (a, refl); again = again_same _ _ refl refl refl (omega arith); drone = λ v x. side.admits_drone q t v x i.facts late known; station = λ ck k tt' l v x. side.admits_station q t ck k tt' l v x i.facts late known }) x earlier y)) p.sent i.truths;
        upload = i.upload;
        operation = i.operation;
        for_drone = i.for_drone;
        since = i.since;
        since_count = i.since_count;
        count = i.count;
        download = i.download;
        asked = i.asked;
        answers = i.answers;
      }

  -- PING
  on_ping : (p : Part) (g : Moments) (usec n : ℕ) → Inv d s p g → n < p.pings + 1 → (0 < g.first_ping → n ≡ (pair_of s p g).number → g.first_ping ≤ p.drone_last) → Own d s p (answers p.drone (Ping (node_of s) usec n))
  on_ping p g usec n i known attempt =
      let q : Pair = pair_of s p g in
      elim (reply_or_not q n) [
        | inl c ↦ let late : g.first_ping ≤ p.drone_last = attempt c.1 c.2 in
            record {
              needs = tt;
              moments = record g { first_reply = p.drone_next };
              inv =
                  drone_said d s ne p g (record g { first_reply = p.drone_next }) p.drone (Ping (node_of s) usec n) (replies q) i refl
                  (side.replies_facts q i.facts c.0 c.1 late)
                  (record { drone_next = omega arith; station_next = omega arith; shows = λ a b. (a, refl); again = record { attempt = λ _ _. inr (omega arith); clear = λ a. inl (a, omega arith) }; drone = λ v x. side.replies_drone q v x i.facts c.0 c.1 late; station = λ ck k t l v x. side.replies_station q ck k t l v x i.facts c.0 c.1 late })
                  (λ _. replies_new q n i.facts known) (omega arith) i.upload refl (λ _. tt) (λ k l z. z)
                  (λ x. ((i.asked x).0, inr (i.asked x).1)) i.answers (λ _ _. tt) (λ _. (tt, tt));
            }
        | inr c ↦ record { needs = tt; moments = g; inv = on_answer d s ne p g (Ping (node_of s) usec n) i (answers_new q n i.facts known c) tt (λ _. tt) tt }
      ]

  -- a message of the station that comes late enough
  pub on_message : (keeps : Bool) (p : Part) (g : Moments) (t n : ℕ) (x : PlanMsg) → p.drone.sys ≡ d.sys → Inv d s p g → p.drone_last < t → t < p.station_next → p.drone_next ≤ n → (Reaches d (Some x) → (let j = subject p.transaction p.opening in SentByStation (pair_of s p g) j.jkind j.kind j.total j.plan t (Some x))) → (Reaches d (Some x) → Named d (Some x)) → (p.transaction.since ≤ t → Said p.sent s p.transaction.since x) → Own d s (admitted p t n) (drone_step keeps p.drone s x)
  on_message keeps p g t n (Ping to usec k) me i late known more truth named said =
      let v = admitted p t n in let j = inv_admitted p g t n i late known more in
      by_test (Own d s v) (same_name to everyone) _ _
      (λ z. let h = truth (inr (name_eq to everyone z)) in on_ping v g usec k j h.1 h.2)
      (λ _. record { needs = tt; moments = g; inv = j })
  on_message keeps p g t n (Count to c k) me i late known more truth named said =
      let v = admitted p t n in let j = inv_admitted p g t n i late known more in
      by_test (Own d s v) (is_for_drone p.drone.sys to) _ _
      (λ z. let h = truth (inl (subst (λ y. is_for_drone y to ≡ true) me z)) in let b = h.2 late in
      on_count d s ne v g k c j (record { count = h.1; counted = b.0; own = b.1 }) (h.3 b.0 b.1) (h.4 b.0 b.1))
      (λ _. record { needs = tt; moments = g; inv = j })
  on_message keeps p g t n (Give to seq k x) me i late known more truth named said =
      let v = admitted p t n in let j = inv_admitted p g t n i late known more in
      by_test (Own d s v) (is_for_drone p.drone.sys to) _ _
      (λ z. let r : Reaches d (Some (Give to seq k x)) = inl (subst (λ y. is_for_drone y to ≡ true) me z) in
      let h = truth r in
      on_item d s ne keeps v g p.drone.upload seq k x j (λ o.
      let c = open_count (pair_of s p g) i.facts o in
      let own : g.first_count ≤ t = let l = c.1 in omega arith in
      let b = h.2 c.0 own in
      let since : p.transaction.since ≤ t = let l = i.since_count c.0 in omega arith in
      record { late = b.1; attempt = h.1; counted = c.0; kind_is = b.2; within = b.3; item_is = b.4; last = b.5; said = subst (λ y. Said p.sent s p.transaction.since (Give y seq k x)) (named r) (said since) }))
      (λ _. record { needs = tt; moments = g; inv = j })
  on_message keeps p g t n (Request to seq k) me i late known more truth named said =
      let v = admitted p t n in let j = inv_admitted p g t n i late known more in
      by_test (Own d s v) (is_for_drone p.drone.sys to) _ _
      (λ z. let h = truth (inl (subst (λ y. is_for_drone y to ≡ true) me z)) in on_request d s ne v g p.drone.download seq k j h.1)
      (λ _. record { needs = tt; moments = g; inv = j })
  on_message keeps p g t n (Ack to c k) me i late known more truth named said =
      let v = admitted p t n in let j = inv_admitted p g t n i late known more in
      by_test (Own d s v) (is_for_drone p.drone.sys to) _ _
      (λ z. let h = truth (inl (subst (λ y. is_for_drone y to ≡ true) me z)) in
      by_test (Own d s v) (c == 15) _ _
      (λ x. let e = fifteen c x in on_cancel d s ne v g k j (cancelled (pair_of s p g) t n i.facts late (h.1 e) (h.2 e)))
      (λ _. on_undownloaded d s ne v g j))
      (λ _. record { needs = tt; moments = g; inv = j })
  on_message keeps p g t n (Clear to k) me i late known more truth named said =
      let v = admitted p t n in let j = inv_admitted p g t n i late known more in
      by_test (Own d s v) (is_for_drone p.drone.sys to) _ _
      (λ z. let h = truth (inl (subst (λ y. is_for_drone y to ≡ true) me z)) in let b = h.2 late in
      on_clear d s ne keeps v g k j (cleared (pair_of s p g) t n i.facts late h.1 b (λ ph. h.4 ph late)) (clear_kind p.opening k (open_clear (pair_of s p g) i.facts (h.5 b.0 b.1)) (h.3 b.0 b.1)))
      (λ _. record { needs = tt; moments = g; inv = j })
  on_message keeps p g t n (Listing to k) me i late known more truth named said =
      let v = admitted p t n in let j = inv_admitted p g t n i late known more in
      by_test (Own d s v) (is_for_drone p.drone.sys to) _ _
      (λ z. let h = truth (inl (subst (λ y. is_for_drone y to ≡ true) me z)) in let b = h.2 late in
      let work = h.5 b.0 b.1 in
      let c = get_kind p.opening k (open_get (pair_of s p g) i.facts work) (h.3 b.0 b.1) in
      let a : Clearing (pair_of s v g) = cleared (pair_of s p g) t n i.facts late h.1 b (λ ph. h.4 ph late) in
      let l : Listing_comes (pair_of s v g) = listed (pair_of s p g) t n i.facts late h.1 b.1 work in
      subst (λ x. Inv d s (record v { opening = x }) g → Clearing (pair_of s (record v { opening = x }) g) → Listing_comes (pair_of s (record v { opening = x }) g) → Own d s (record v { opening = x }) (list_comes p.drone s k)) (sym c.2)
      (λ j a l. on_list d s ne v g k c.1 c.0 j a l) j a l)
      (λ _. record { needs = tt; moments = g; inv = j })

  -- a frame of the station
  pub on_frame : (keeps : Bool) (p : Part) (g : Moments) (t n : ℕ) (x : Option PlanMsg) → p.drone.sys ≡ d.sys → Inv d s p g → p.drone_last < t → t < p.station_next → p.drone_next ≤ n → (Reaches d x → (let j = subject p.transaction p.opening in SentByStation (pair_of s p g) j.jkind j.kind j.total j.plan t x)) → (Reaches d x → Named d x) → ((m : PlanMsg) → x ≡ Some m → p.transaction.since ≤ t → Said p.sent s p.transaction.since m) → Own d s (admitted p t n) (drone_takes keeps p.drone s x)
  on_frame keeps p g t n None me i late known more truth named said = record { needs = tt; moments = g; inv = inv_admitted p g t n i late known more }
  on_frame keeps p g t n (Some x) me i late known more truth named said = on_message keeps p g t n x me i late known more truth named (said x refl)
