-- The drone at what the pair sees nothing of but its next timestamp, at a tick, and at its restart.
use Rattle.std.proofs.Common.{◌≡◌, ◌≢◌, ℕ, ◌+◌, ◌<◌, ◌≤◌, ◌⊎◌, inl, inr, Bool, true, nat_lt, length, Option, Some, None, refl, sym, ap, subst, arith, ◌∙◌}
use Rattle.std.specs.Prelude.{not}
use Rattle.mav_names.specs.declared.names.Stream.{Stream}
use Rattle.plan_items.specs.declared.messages.PlanMsg.{PlanMsg}
use Rattle.plan_upload.specs.Addresses.{same_stream, node_of}
use Rattle.plan_upload.specs.Drone.{DroneState, DroneTick, Upload, closed, is_own, result_of, idle_limit, ack, ask, upload_waits, restored}
use Rattle.plan_upload.specs.Station.{addressee}
use Rattle.plan_safety.specs.World.{tick_answer}
use Rattle.plan_safety.specs.Store.{Closed}
use Rattle.plan_safety.proofs.Keys.{by_test, same, split, flag, flag_true, flag_false}
use Rattle.plan_safety.proofs.Pair.{Pair, Facts, speaks, later_drone, asks, restarts}
use Rattle.plan_safety.proofs.DroneSide as side
use Rattle.plan_safety.proofs.Part.{stage_number, result_number, Part, Moments, pair_of, subject, Inv, truths_keep, keeps_truth, again_same, Truths, operates_else}
use Rattle.plan_safety.proofs.Acknowledgements.{answered_else}
use Rattle.plan_safety.proofs.Leaf.{part_says, said_part, drone_said}
use Rattle.plan_safety.proofs.DroneCases.{acked, concludes_cancelled, on_close, cancel_own, refuses_only}
use Rattle.plan_safety.proofs.DroneItems.{with_upload, asks_new, keeps_asks}
use Rattle.plan_safety.proofs.DroneOther.{Unmoved, closed_unmoved}

-- an upload of another stream is not the station's by name either
abbrev pub Elsewhere : Stream → Option Upload → Type 0
Elsewhere s None = Unit {0}
Elsewhere s (Some u) = u.stream ≢ s → node_of u.stream ≢ node_of s

module _ (d s : Stream) (ne : d ≢ s) where
  -- the part after a step that the pair sees nothing of
  pub on_later : (p : Part) (g : Moments) (e : DroneState) (n : ℕ) → Inv d s p g → Unmoved s p.drone e → p.drone_next ≤ n → Inv d s (record p { drone = e; drone_next = n }) g
  on_later p g e n i u more =
      let q : Pair = pair_of s p g in
      let is : pair_of s (record p { drone = e; drone_next = n }) g ≡ later_drone q n = ap (λ b. record q { has_open = flag b; result = result_number (result_of e.results s); drone_next = n }) u.has_open ∙ ap (λ o. record q { result = result_number o; drone_next = n }) u.result in
      let j = subject p.transaction p.opening in
      record {
        facts = subst Facts (sym is) (side.later_drone_facts q n i.facts more);
        truths = subst (λ x. Truths d s x j p.sent) (sym is) (truths_keep d s q (later_drone q n) j j (keeps_truth d s q (later_drone q n) j (record { drone_next = more; station_next = omega arith; shows = λ a b. (a, refl); again = again_same _ _ refl refl refl (omega arith); drone = λ v x. side.later_drone_drone q n v x i.facts more; station = λ ck k t l v x. side.later_drone_station q n ck k t l v x i.facts more })) p.sent i.truths);
        upload = u.gathers _ _ _ i.upload;
        operation = i.operation;
        for_drone = i.for_drone;
        since = i.since;
        since_count = i.since_count;
        count = i.count;
        download = λ a b. let o = i.download (subst (λ (x : Pair). 4 < x.phase) is a) b in (o.0, u.copies _ _ o.1);
        asked = i.asked;
        answers = i.answers;
      }

  -- it says something to another stream
  pub on_said : (p : Part) (g : Moments) (a : PlanMsg) → Inv d s p g → addressee a ≢ node_of s → Inv d s (said_part d p p.drone a) g
  on_said p g a i h =
      let q : Pair = pair_of s p g in
      drone_said d s ne p g g p.drone a (speaks q) i refl (side.speaks_facts q i.facts)
      (record { drone_next = omega arith; station_next = omega arith; shows = λ a b. (a, refl); again = again_same _ _ refl refl refl (omega arith); drone = λ u x. side.speaks_drone q u x i.facts; station = λ ck k t l u x. side.speaks_station q ck k t l u x i.facts })
      (λ e. absurd (h e)) (omega arith) i.upload refl (λ e. absurd (h e)) (λ k l z. z) (λ x. ((i.asked x).0, inr (i.asked x).1)) i.answers (λ _ e. absurd (h e)) (λ e. absurd (h e))

  -- an aging upload is unchanged
  aged : (p : Part) (u : Upload) → Unmoved s (record p.drone { upload = Some u }) (record p.drone { upload = Some (record u { idle = u.idle + 1 }) })
  aged p u = record { has_open = refl; result = refl; gathers = λ n sent o x. λ z. let b = x z in record { kind = b.kind; total = b.total; short = b.short; same = b.same; said = b.said }; copies = λ k x z. z }

  -- a tick
  pub on_tick : (p : Part) (g : Moments) (u : Option Upload) → Elsewhere s u → Inv d s (with_upload p u) g → (let t = upload_waits (with_upload p u).drone u in (h : Moments) × Inv d s (part_says d (record p { drone = t.drone }) (tick_answer t.answer)) h)
  on_tick p g None far i = (g, i)
  on_tick p g (Some u) far i =
      let v = with_upload p (Some u) in
      let q : Pair = pair_of s v g in
      let P : DroneTick → Type 0 = λ t. (h : Moments) × Inv d s (part_says d (record p { drone = t.drone }) (tick_answer t.answer)) h in
      let e : DroneState = record p.drone { upload = Some (record u { idle = u.idle + 1 }) } in
      by_test P (nat_lt (u.idle + 1) idle_limit) _ _
      (λ _. elim (split s u.stream) [
        | inl own ↦
            let h : 0 < q.has_open = (let z : q.has_open ≡ 1 = flag_true _ (own_true u.stream own) in omega arith) in (
              record g { last_request = p.drone_next },
              drone_said d s ne v g (record g { last_request = p.drone_next }) e (ask u.stream u.kind (length u.items)) (asks q) i refl
                  (side.asks_facts q i.facts h) (keeps_asks q i.facts h) (λ _. asks_new q u.kind (length u.items) i.facts h) (omega arith) ((aged p u).gathers d p.sent p.transaction i.upload) refl (λ _. tt) (λ k l z. z)
                  (λ x. ((i.asked x).0, inr (i.asked x).1)) i.answers (λ _ _. tt) (λ _. (tt, tt)),
            )
        | inr not ↦ (g, on_said (record p { drone = e }) g (ask u.stream u.kind (length u.items)) (on_later v g e p.drone_next i (aged p u) (omega arith)) (far not))
      ])
      (λ _. elim (split s u.stream) [
        | inl own ↦
            let h : 0 < q.has_open = (let z : q.has_open ≡ 1 = flag_true _ (own_true u.stream own) in omega arith) in
            subst (λ x. (h : Moments) × Inv d s (part_says d (record p { drone = closed v.drone x }) (Some (ack x 15 u.kind))) h) (sym own)
            (by_test (λ x. (h : Moments) × Inv d s (part_says d (record p { drone = x }) (Some (ack s 15 u.kind))) h) (is_own v.drone.upload s) _ _
            (λ _. (
              acked g p.drone_next g.last_verdict,
              on_close d s ne v g v.drone.download 15 u.kind g.last_verdict (λ k l z. z) i h (omega arith) (let z = i.facts.last_verdict_sent in omega arith) (λ _. refl) (cancel_own q u.kind i.facts h)
                  (λ _. (λ _ r. absurd ((refuses_only 15 r).3 refl), λ some _ _. ((i.upload own).kind, i.asked some, inr (inr (inr refl))))) (concludes_cancelled d s v q),
            ))
            (λ other. absurd (let z : q.has_open ≡ 0 = flag_false _ other in omega arith)))
        | inr not ↦ (g, on_said (record p { drone = closed v.drone u.stream }) g (ack u.stream 15 u.kind) (on_later v g (closed v.drone u.stream) p.drone_next i (closed_unmoved p.drone s u.stream (Some u) not) (omega arith)) (far not))
      ])
    where
      own_true : (t : Stream) → t ≡ s → same_stream t s ≡ true
      own_true t e = rw e (same s)

  -- it starts again
  pub on_restart : (p : Part) (g : Moments) (l n : ℕ) (lost : Bool) → Inv d s p g → p.drone_last ≤ l → p.drone_next ≤ n → (lost ≡ true) ⊎ (p.transaction.stage ≡ Closed) → Inv d s (record p { drone = restored p.drone; drone_last = l; drone_next = n; transaction = record p.transaction { lost = lost } }) g
  on_restart p g l n lost i a b c =
      let q : Pair = pair_of s p g in
      let x : ℕ = flag lost in
      let z : (0 < q.first_open → x ≡ 1) = λ o. elim c [ inl y ↦ flag_true lost y | inr y ↦ absurd (not_closed q i.facts o (ap stage_number y)) ] in
      let j = subject p.transaction p.opening in
      record {
        facts = side.restarts_facts q l n x i.facts a b z;
        truths = truths_keep d s q (restarts q l n x) j j (keeps_truth d s q (restarts q l n x) j (record { drone_next = b; station_next = omega arith; shows = λ a b. (a, refl); again = again_same _ _ refl refl refl (omega arith); drone = λ v y. side.restarts_drone q l n x v y i.facts a b z; station = λ ck k t w v y. side.restarts_station q l n x ck k t w v y i.facts a b z })) p.sent i.truths;
        upload = tt;
        operation = operates_else d s p.sent p.transaction p.transaction.stage lost p.opening p.cancelled p.pings p.operation i.operation;
        for_drone = i.for_drone;
        since = i.since;
        since_count = i.since_count;
        count = i.count;
        download = λ a b. let o = i.download a b in (o.0, tt);
        asked = i.asked;
        answers = λ ph. answered_else d s p.transaction p.transaction.stage lost g.counted g.first_open p.sent (i.answers ph);
      }
    where
      not_closed : (p : Pair) → Facts p → 0 < p.first_open → p.stage ≡ 0 → ⊥
      not_closed p f o e = grind arith
