-- What a step of the drone reports, whatever the stream.
use Rattle.std.proofs.Common.{◌≡◌, ℕ, ◌+◌, ◌<◌, ◌⊎◌, inl, inr, Bool, true, false, if◌then◌else◌, ◌==◌, ◌&&◌, nat_lt, List, [], ◌∷◌, ◌++◌, length, Option, Some, None, refl, sym, ap, subst, arith}
use Rattle.std.specs.Prelude.{slice_get, not, is_some}
use Rattle.mav_names.specs.declared.names.Name.{Name}
use Rattle.mav_names.specs.declared.names.Stream.{Stream}
use Rattle.plan_items.specs.declared.items.Item.{Item}
use Rattle.plan_items.specs.declared.messages.PlanMsg.{PlanMsg}
use Rattle.plan_items.specs.declared.messages.PlanMsg.TheVariants.{Count, Request, Item as Give, Ack, List as Listing, Clear, Ping}
use Rattle.plan_items.specs.declared.faults.PlanFault.{PlanFault}
use Rattle.plan_items.specs.Kinds.{limit_of}
use Rattle.plan_items.specs.Validation.{item_fault, plan_fault}
use Rattle.plan_upload.specs.Addresses.{same_stream, same_name, node_of, everyone, is_for_drone}
use Rattle.plan_upload.specs.Plans.{Plans, plan_at, with_plan as replaced, every_kind, without_plan}
use Rattle.plan_upload.specs.Drone.{DroneState, DroneStep, PlanEvent, Quiet, Installs, Empties, Shows, Upload, Download, answers, rests, ack, ask, closed, opened, installed, is_own, is_other, has_no_room, undownloaded, is_downloading, copy_of, count_comes, last_item, item_fits, item_comes, clear_comes, list_comes, give_item, request_comes, drone_step}
use Rattle.plan_upload.specs.Station.{addressee}
use Rattle.plan_safety.specs.World.{Nodes, Distinct, drone_takes}
use Rattle.plan_safety.specs.Store.{with_plan}
use Rattle.plan_safety.proofs.Keys.{by_test, eq_true, not_less, not_is_false, bool_split, differ}
use Rattle.plan_safety.proofs.Fleet.{IsNode, Unheard, MaySay, Owner}

-- the event is of this stream, a station's, and of one of the three kinds; what is shown is the plan
abbrev pub EventOf : Nodes → DroneState → Stream → PlanEvent → Type 0
EventOf nodes d t Quiet = Unit {0}
EventOf nodes d t (Installs by k plan) = (by ≡ t) × (nodes.is_station t ≡ true) × (k < 3)
EventOf nodes d t (Empties by k) = (by ≡ t) × (nodes.is_station t ≡ true) × ((k < 3) ⊎ (k ≡ every_kind))
EventOf nodes d t (Shows to k plan) = (to ≡ t) × (nodes.is_station t ≡ true) × (k < 3) × (plan ≡ plan_at d.plans k)

-- the plans afterwards
abbrev pub plans_after : (ℕ → List Item) → PlanEvent → (ℕ → List Item)
plans_after f Quiet = f
plans_after f (Installs by k plan) = with_plan f k plan
plans_after f (Empties by k) = λ j. if k == every_kind then [] else with_plan f k [] j
plans_after f (Shows to k plan) = f

-- the answer is for the stream, and harmless
abbrev pub SaysTo : Nodes → Stream → Option PlanMsg → Type 0
SaysTo nodes t None = Unit {0}
SaysTo nodes t (Some a) = (addressee a ≡ node_of t) × MaySay nodes (Some a)

pub record Shape (nodes : Nodes) (d : DroneState) (t : Stream) (r : DroneStep) : Type 0 where
  pub event : EventOf nodes d t r.event
  pub plans : (k : ℕ) → k < 3 → plan_at r.drone.plans k ≡ plans_after (plan_at d.plans) r.event k
  pub owner : Owner nodes r.drone.upload
  pub sys : r.drone.sys ≡ d.sys
  pub says : SaysTo nodes t r.answer

-- what is known of who says x to the drone
abbrev pub Allowed : Nodes → Stream → Option PlanMsg → Type 0
Allowed nodes t x = IsNode nodes t × (nodes.is_drone t ≡ true → MaySay nodes x)

-- there are three kinds
three_kinds : (n : ℕ) → n < 3 → (n ≡ 0) ⊎ ((n ≡ 1) ⊎ (n ≡ 2))
three_kinds n h = grind arith

-- one plan replaced
replaced_at : (p : Plans) (k j : ℕ) (items : List Item) → k < 3 → j < 3 → plan_at (replaced p k items) j ≡ with_plan (plan_at p) k items j
replaced_at p k j items hk hj =
    elim (three_kinds k hk) [
      | inl a ↦ subst (λ k. plan_at (replaced p k items) j ≡ with_plan (plan_at p) k items j) (sym a) (of_zero j hj)
      | inr b ↦ elim b [
        | inl a ↦ subst (λ k. plan_at (replaced p k items) j ≡ with_plan (plan_at p) k items j) (sym a) (of_one j hj)
        | inr a ↦ subst (λ k. plan_at (replaced p k items) j ≡ with_plan (plan_at p) k items j) (sym a) (of_two j hj)
      ]
    ]
  where
    of_zero : (j : ℕ) → j < 3 → plan_at (replaced p 0 items) j ≡ with_plan (plan_at p) 0 items j
    of_zero j h = elim (three_kinds j h) [ inl a ↦ rw a refl | inr b ↦ elim b [ inl a ↦ rw a refl | inr a ↦ rw a refl ] ]

    of_one : (j : ℕ) → j < 3 → plan_at (replaced p 1 items) j ≡ with_plan (plan_at p) 1 items j
    of_one j h = elim (three_kinds j h) [ inl a ↦ rw a refl | inr b ↦ elim b [ inl a ↦ rw a refl | inr a ↦ rw a refl ] ]

    of_two : (j : ℕ) → j < 3 → plan_at (replaced p 2 items) j ≡ with_plan (plan_at p) 2 items j
    of_two j h = elim (three_kinds j h) [ inl a ↦ rw a refl | inr b ↦ elim b [ inl a ↦ rw a refl | inr a ↦ rw a refl ] ]

-- one plan emptied, or all
emptied_at : (p : Plans) (k j : ℕ) → (k < 3) ⊎ (k ≡ every_kind) → j < 3 → plan_at (without_plan p k) j ≡ (if k == every_kind then [] else with_plan (plan_at p) k [] j)
emptied_at p k j (inr a) hj = subst (λ k. plan_at (without_plan p k) j ≡ (if k == every_kind then [] else with_plan (plan_at p) k [] j)) (sym a) (elim (three_kinds j hj) [ inl b ↦ rw b refl | inr c ↦ elim c [ inl b ↦ rw b refl | inr b ↦ rw b refl ] ])
emptied_at p k j (inl a) hj =
    let z : (k == every_kind) ≡ false = not_all k a in
    rw z (replaced_at p k j [] a hj)
  where
    not_all : (k : ℕ) → k < 3 → (k == 255) ≡ false
    not_all k h = grind arith

module _ (keeps : Bool) (nodes : Nodes) (sound : Distinct nodes) (d : DroneState) (t : Stream) (o : Owner nodes d.upload) where
  -- what a closed upload leaves
  closed_owner : Owner nodes (closed d t).upload
  closed_owner = by_test (λ (e : DroneState). Owner nodes e.upload) (is_own d.upload t) _ d (λ _. tt) (λ _. o)

  closed_plans : (closed d t).plans ≡ d.plans
  closed_plans = by_test (λ (e : DroneState). e.plans ≡ d.plans) (is_own d.upload t) _ d (λ _. refl) (λ _. refl)

  closed_sys : (closed d t).sys ≡ d.sys
  closed_sys = by_test (λ (e : DroneState). e.sys ≡ d.sys) (is_own d.upload t) _ d (λ _. refl) (λ _. refl)

  -- an answer, also one that closes the upload
  said : (a : PlanMsg) → addressee a ≡ node_of t → MaySay nodes (Some a) → Shape nodes d t (answers d a)
  said a to h = record { event = tt; plans = λ k l. refl; owner = o; sys = refl; says = (to, h) }

  shut : (a : PlanMsg) → addressee a ≡ node_of t → MaySay nodes (Some a) → Shape nodes d t (answers (closed d t) a)
  shut a to h = record { event = tt; plans = λ k l. ap (λ p. plan_at p k) closed_plans; owner = closed_owner; sys = closed_sys; says = (to, h) }

  -- no answer
  nothing : Shape nodes d t (rests d)
  nothing = record { event = tt; plans = λ k l. refl; owner = o; sys = refl; says = tt }

  -- no drone hears what is for a station
  unheard : nodes.is_station t ≡ true → Unheard nodes (node_of t)
  unheard st e he = sound.apart e t he st

  -- MISSION_COUNT
  opens : (k n : ℕ) → nodes.is_station t ≡ true → k < 3 → Shape nodes d t (answers (opened d t k n) (ask t k 0))
  opens k n st l = record { event = tt; plans = λ k l. refl; owner = (st, l); sys = refl; says = (refl, unheard st) }

  counted : (k n : ℕ) → nodes.is_station t ≡ true → Shape nodes d t (count_comes d t n k)
  counted k n st =
      let P : DroneStep → Type 0 = Shape nodes d t in
      by_test P (nat_lt 2 k) _ _ (λ _. shut _ refl tt) (λ known.
      by_test P (is_other d.upload t) _ _ (λ _. said _ refl tt) (λ _.
      by_test P (n == 0) _ _ (λ _. shut _ refl tt) (λ _.
      by_test P (nat_lt (limit_of k) n) _ _ (λ _. shut _ refl tt) (λ _.
      by_test P (has_no_room d t) _ _ (λ _. said _ refl tt) (λ _. opens k n st (let z = not_less _ _ known in omega arith))))))

  -- MISSION_CLEAR_ALL
  empties : (k : ℕ) → nodes.is_station t ≡ true → (k < 3) ⊎ (k ≡ every_kind) → Shape nodes d t (record { drone = record (closed d t) { plans = without_plan d.plans k }; answer = Some (ack t 0 k); event = Empties t k })
  empties k st l = record { event = (refl, st, l); plans = λ j h. emptied_at d.plans k j l h; owner = closed_owner; sys = closed_sys; says = (refl, tt) }

  cleared : (k : ℕ) → nodes.is_station t ≡ true → Shape nodes d t (clear_comes keeps d t k)
  cleared k st =
      let P : DroneStep → Type 0 = Shape nodes d t in
      by_test P (nat_lt 2 k && not (k == every_kind)) _ _ (λ _. said _ refl tt) (λ known.
      by_test P (is_other d.upload t) _ _ (λ _. said _ refl tt) (λ _.
      by_test P keeps _ _ (λ _. empties k st (kind_known k known)) (λ _. said _ refl tt)))
    where
      kind_known : (k : ℕ) → (nat_lt 2 k && not (k == 255)) ≡ false → (k < 3) ⊎ (k ≡ 255)
      kind_known k e = elim (bool_split (nat_lt 2 k)) [
        | inr f ↦ inl (let z = not_less 2 k f in omega arith)
        | inl f ↦ inr (eq_true k 255 (not_is_false _ (right (nat_lt 2 k) _ f e)))
      ]
        where
          right : (a b : Bool) → a ≡ true → (a && b) ≡ false → b ≡ false
          right true b x y = y
          right false b x y = absurd (cc)

  -- the last item
  installs : (kind : ℕ) (items : List Item) → nodes.is_station t ≡ true → kind < 3 → Shape nodes d t (record { drone = installed d t kind items; answer = Some (ack t 0 kind); event = Installs t kind items })
  installs kind items st l = record { event = (refl, st, l); plans = λ j h. replaced_at d.plans kind j items l h; owner = tt; sys = refl; says = (refl, tt) }

  last_one : (kind : ℕ) (items : List Item) → nodes.is_station t ≡ true → kind < 3 → Shape nodes d t (last_item keeps d t kind items)
  last_one kind items st l =
      let P : DroneStep → Type 0 = Shape nodes d t in
      let kept : DroneStep = record { drone = installed d t kind items; answer = Some (ack t 0 kind); event = Installs t kind items } in
      let unkept : DroneStep = answers (closed d t) (ack t 1 kind) in
      by_test P (is_some (plan_fault kind items)) (answers (closed d t) (ack t 5 kind)) (if keeps then kept else unkept) (λ _. shut _ refl tt) (λ _.
      by_test P keeps kept unkept (λ _. installs kind items st l) (λ _. shut _ refl tt))

  -- an item, also one with a fault
  gathers : (u v : Upload) (a : PlanMsg) → addressee a ≡ node_of t → MaySay nodes (Some a) → d.upload ≡ Some u → v.stream ≡ u.stream → v.kind ≡ u.kind → Shape nodes d t (answers (record d { upload = Some v }) a)
  gathers u v a to h e x y = record { event = tt; plans = λ k l. refl; owner = rw (x, y) (subst (Owner nodes) e o); sys = refl; says = (to, h) }

  fits : (u : Upload) (item : Item) (fault : Option PlanFault) → d.upload ≡ Some u → nodes.is_station t ≡ true → Shape nodes d t (item_fits keeps d t u item fault)
  fits u item (Some fault) e st = shut _ refl tt
  fits u item None e st =
      by_test (Shape nodes d t) (nat_lt (length u.items + 1) u.total) _ _
      (λ _. gathers u (record u { items = u.items ++ item ∷ []; idle = 0 }) (ask t u.kind (length u.items + 1)) refl (unheard st) e refl refl)
      (λ _. last_one u.kind (u.items ++ item ∷ []) st (subst (Owner nodes) e o).1)

  -- MISSION_ITEM_INT
  itemed : (u : Option Upload) (seq kind : ℕ) (item : Item) → d.upload ≡ u → nodes.is_station t ≡ true → Shape nodes d t (item_comes keeps d t u seq kind item)
  itemed None seq kind item e st = nothing
  itemed (Some u) seq kind item e st =
      let P : DroneStep → Type 0 = Shape nodes d t in
      by_test P (not (same_stream u.stream t)) _ _ (λ _. nothing) (λ _.
      by_test P (not ((kind == u.kind) && (seq == length u.items))) _ _ (λ _. said _ refl (unheard st))
      (λ _. fits u item (item_fault u.kind item) e st))

  -- MISSION_ACK
  cancels : (k c : ℕ) → Shape nodes d t (answers (closed (undownloaded d t) t) (ack t c k))
  cancels k c = record {
    event = tt;
    plans = λ k l. by_test (λ (e : DroneState). plan_at e.plans k ≡ plan_at d.plans k) (is_own d.upload t) _ (undownloaded d t) (λ _. refl) (λ _. refl);
    owner = by_test (λ (e : DroneState). Owner nodes e.upload) (is_own d.upload t) _ (undownloaded d t) (λ _. tt) (λ _. o);
    sys = by_test (λ (e : DroneState). e.sys ≡ d.sys) (is_own d.upload t) _ (undownloaded d t) (λ _. refl) (λ _. refl);
    says = (refl, tt);
  }

  undoes : Shape nodes d t (rests (undownloaded d t))
  undoes = record { event = tt; plans = λ k l. refl; owner = o; sys = refl; says = tt }

  -- MISSION_REQUEST_LIST
  shows : (k : ℕ) → nodes.is_station t ≡ true → k < 3 → Shape nodes d t (record { drone = record d { download = copy_of t k (plan_at d.plans k) }; answer = Some (Count (node_of t) (length (plan_at d.plans k)) k); event = Shows t k (plan_at d.plans k) })
  shows k st l = record { event = (refl, st, l, refl); plans = λ k l. refl; owner = o; sys = refl; says = (refl, unheard st) }

  listed : (k : ℕ) → nodes.is_station t ≡ true → Shape nodes d t (list_comes d t k)
  listed k st =
      let P : DroneStep → Type 0 = Shape nodes d t in
      by_test P (nat_lt 2 k) _ _ (λ _. said _ refl tt) (λ known.
      by_test P (is_downloading d.download t) _ _ (λ _. said _ refl tt) (λ _. shows k st (let z = not_less _ _ known in omega arith)))

  -- MISSION_REQUEST_INT
  given : (c : Download) (seq kind : ℕ) (x : Option Item) → nodes.is_station t ≡ true → Shape nodes d t (give_item d t c seq kind x)
  given c seq kind None st = said _ refl tt
  given c seq kind (Some x) st = record { event = tt; plans = λ k l. refl; owner = o; sys = refl; says = (refl, unheard st) }

  asked : (c : Option Download) (seq kind : ℕ) → nodes.is_station t ≡ true → Shape nodes d t (request_comes d t c seq kind)
  asked None seq kind st = said _ refl tt
  asked (Some c) seq kind st =
      by_test (Shape nodes d t) (same_stream c.stream t && (c.kind == kind)) _ _
      (λ _. given c seq kind (slice_get c.items seq) st)
      (λ _. said _ refl tt)

  -- what is for this drone and no drone may say comes from a station
  station : (me : Stream) (to : Name) → nodes.is_drone me ≡ true → d.sys ≡ me.sys → IsNode nodes t → (nodes.is_drone t ≡ true → Unheard nodes to) → is_for_drone d.sys to ≡ true → nodes.is_station t ≡ true
  station me to hm sys (inr st) h z = st
  station me to hm sys (inl dr) h z = absurd (differ _ z (subst (λ n. is_for_drone n to ≡ false) (sym sys) (h dr me hm)))

  -- it comes from a station, and no drone may say it
  only : IsNode nodes t → (nodes.is_drone t ≡ true → ⊥) → nodes.is_station t ≡ true
  only (inr st) h = st
  only (inl dr) h = absurd (h dr)

  -- each message of a stream
  pub shape : (me : Stream) (x : PlanMsg) → nodes.is_drone me ≡ true → d.sys ≡ me.sys → Allowed nodes t (Some x) → Shape nodes d t (drone_step keeps d t x)
  shape me (Ping to usec n) hm sys h = by_test (Shape nodes d t) (same_name to everyone) _ _ (λ _. said _ refl tt) (λ _. nothing)
  shape me (Count to n k) hm sys h = by_test (Shape nodes d t) (is_for_drone d.sys to) _ _ (λ z. counted k n (station me to hm sys h.0 h.1 z)) (λ _. nothing)
  shape me (Give to seq k x) hm sys h = by_test (Shape nodes d t) (is_for_drone d.sys to) _ _ (λ z. itemed d.upload seq k x refl (station me to hm sys h.0 h.1 z)) (λ _. nothing)
  shape me (Request to seq k) hm sys h = by_test (Shape nodes d t) (is_for_drone d.sys to) _ _ (λ z. asked d.download seq k (station me to hm sys h.0 h.1 z)) (λ _. nothing)
  shape me (Ack to c k) hm sys h = by_test (Shape nodes d t) (is_for_drone d.sys to) _ _ (λ _. by_test (Shape nodes d t) (c == 15) _ _ (λ _. cancels k _) (λ _. undoes)) (λ _. nothing)
  shape me (Clear to k) hm sys h = by_test (Shape nodes d t) (is_for_drone d.sys to) _ _ (λ _. cleared k (only h.0 h.1)) (λ _. nothing)
  shape me (Listing to k) hm sys h = by_test (Shape nodes d t) (is_for_drone d.sys to) _ _ (λ _. listed k (only h.0 h.1)) (λ _. nothing)

  -- each frame of a stream
  pub frame_shape : (me : Stream) (x : Option PlanMsg) → nodes.is_drone me ≡ true → d.sys ≡ me.sys → Allowed nodes t x → Shape nodes d t (drone_takes keeps d t x)
  frame_shape me None hm sys h = nothing
  frame_shape me (Some x) hm sys h = shape me x hm sys h
