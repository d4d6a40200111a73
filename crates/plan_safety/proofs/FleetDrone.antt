-- A frame that comes to a drone, in the whole world.
use Rattle.std.proofs.Common.{◌≡◌, ◌≢◌, ℕ, ◌+◌, ◌<◌, ◌≤◌, inl, inr, Bool, true, false, if◌then◌else◌, ◌==◌, List, [], ◌∷◌, Option, Some, None, refl, sym, subst, ◌∙◌}
use Rattle.mav_names.specs.declared.names.Stream.{Stream}
use Rattle.plan_items.specs.declared.items.Item.{Item}
use Rattle.plan_items.specs.declared.messages.PlanMsg.{PlanMsg}
use Rattle.plan_upload.specs.Addresses.{node_of}
use Rattle.plan_upload.specs.Plans.{plan_at, every_kind}
use Rattle.plan_upload.specs.Drone.{DroneState, DroneStep, PlanEvent, Quiet, Installs, Empties, Shows}
use Rattle.plan_upload.specs.Station.{addressee}
use Rattle.plan_safety.specs.Frames.{Frame}
use Rattle.plan_safety.specs.World.{Nodes, Distinct, World, DroneNode, frame_of, drone_sends}
use Rattle.plan_safety.specs.Store.{Store, StoreEvent, Fresh, at}
use Rattle.plan_safety.proofs.Keys.{split, at_same, at_apart}
use Rattle.plan_safety.proofs.Part.{Moments, Inv}
use Rattle.plan_safety.proofs.Leaf.{Own, own_transaction, own_opening, part_says}
use Rattle.plan_safety.proofs.DroneOther.{Unmoved}
use Rattle.plan_safety.proofs.DroneTick.{on_later, on_said}
use Rattle.plan_safety.proofs.DroneShape.{Shape, SaysTo, plans_after}
use Rattle.plan_safety.proofs.Fleet.{All, part, part_of, view_transaction, view_opening, IsNode, AtDrone, not_both, names_differ}
use Rattle.plan_safety.proofs.FleetMoves.{plus, FrameOf, drone_moves}

-- what it says as a frame, and the node then
abbrev pub says_frame : Stream → ℕ → Option PlanMsg → Option Frame
says_frame n next None = None
says_frame n next (Some a) = Some (frame_of n next (Some a))

abbrev pub says_node : DroneNode → Option PlanMsg → DroneNode
says_node x None = x
says_node x (Some a) = record x { next = x.next + 1 }

-- what it sends, as a frame and a node
pub sends_is : (w : World) (n : Stream) (x : DroneNode) (a : Option PlanMsg) → drone_sends w n x a ≡ record { drone = at w.drone n (says_node x a); station = w.station; sent = plus (says_frame n x.next a) w.sent; news = w.news }
sends_is w n x None = refl
sends_is w n x (Some a) = refl

-- the node after a frame of the stream t
abbrev pub admitted_node : DroneNode → Stream → ℕ → ℕ → DroneState → DroneNode
admitted_node y t stamp next e = record { state = e; last = at y.last t stamp; next = next }

-- what a step of the drone n at a frame of the stream t gives
pub record Stepped (nodes : Nodes) (w : World) (m : Store) (n t : Stream) (stamp next : ℕ) (r : DroneStep) : Type 0 where
  pub own : nodes.is_station t ≡ true → Own n t (record (part w m n t) { drone_last = stamp; drone_next = next }) r
  pub other : (s : Stream) → t ≢ s → Unmoved s (w.drone n).state r.drone
  pub later : (w.drone n).next ≤ next
  pub shape : Shape nodes (w.drone n).state t r
  pub sender : IsNode nodes t

-- what the store is afterwards, for each pair
pub record Views (nodes : Nodes) (m m' : Store) (n t : Stream) (x : PlanEvent) : Type 0 where
  pub transaction : nodes.is_station t ≡ true → view_transaction n (m'.transaction t) ≡ own_transaction (view_transaction n (m.transaction t)) x
  pub opening : nodes.is_station t ≡ true → view_opening n (m'.opening t) ≡ own_opening (view_opening n (m.opening t)) x
  pub else_transaction : (s : Stream) → s ≢ t → m'.transaction s ≡ m.transaction s
  pub else_opening : (s : Stream) → s ≢ t → m'.opening s ≡ m.opening s
  pub cancels : (s : Stream) → m'.cancelled s ≡ m.cancelled s
  pub far_transaction : (d s : Stream) → d ≢ n → view_transaction d (m'.transaction s) ≡ view_transaction d (m.transaction s)
  pub far_opening : (d s : Stream) → d ≢ n → view_opening d (m'.opening s) ≡ view_opening d (m.opening s)
  pub fresh : (s : Stream) → nodes.is_station s ≡ true → (m'.transaction s).stage ≡ Fresh → nodes.is_drone (m'.transaction s).drone ≡ true
  pub at_drone : (s : Stream) → nodes.is_station s ≡ true → AtDrone nodes (m'.opening s)
  pub plans : (k : ℕ) → k < 3 → plans_after (m.plan n) x k ≡ m'.plan n k
  pub other_plans : (d : Stream) (k : ℕ) → d ≢ n → m'.plan d k ≡ m.plan d k

-- an event on equal plans gives equal plans
same_after : (f g : ℕ → List Item) (x : PlanEvent) (k : ℕ) → f k ≡ g k → plans_after f x k ≡ plans_after g x k
same_after f g Quiet k e = e
same_after f g (Installs by j p) k e = by_both (k == j)
  where
    by_both : (b : Bool) → (if b then p else f k) ≡ (if b then p else g k)
    by_both true = refl
    by_both false = e
same_after f g (Empties by j) k e = by_both (j == every_kind) (k == j)
  where
    inner : (b : Bool) → (if b then [] else f k) ≡ (if b then [] else g k)
    inner true = refl
    inner false = e

    by_both : (a b : Bool) → (if a then [] else (if b then [] else f k)) ≡ (if a then [] else (if b then [] else g k))
    by_both true b = refl
    by_both false b = inner b
same_after f g (Shows to j p) k e = e

module _ (nodes : Nodes) (sound : Distinct nodes) (w : World) (m m' : Store) (n t : Stream) (stamp next : ℕ) (e : DroneState) (a : Option PlanMsg) (x : PlanEvent) (news : List StoreEvent) (all : All nodes w m) (drone : nodes.is_drone n ≡ true) (h : Stepped nodes w m n t stamp next (record { drone = e; answer = a; event = x })) (v : Views nodes m m' n t x) where
  abbrev node : DroneNode
  node = admitted_node (w.drone n) t stamp next e

  -- the pair with the stream's station
  own_pair : (g : Moments) (b : Option PlanMsg) → nodes.is_station t ≡ true → Inv n t (part_says n (record (part w m n t) { drone = e; drone_last = stamp; drone_next = next; transaction = own_transaction (view_transaction n (m.transaction t)) x; opening = own_opening (view_opening n (m.opening t)) x }) b) g → Inv n t (part_of n t (says_node node b) (w.station t) (m'.transaction t) (m'.opening t) (m'.cancelled t) (plus (says_frame n next b) w.sent)) g
  own_pair g None st i =
      subst (λ z. Inv n t (record (part w m n t) { drone = e; drone_last = z; drone_next = next; transaction = view_transaction n (m'.transaction t); opening = view_opening n (m'.opening t); cancelled = m'.cancelled t }) g) (sym (at_same (w.drone n).last t stamp))
      (subst (λ z. Inv n t (record (part w m n t) { drone = e; drone_last = stamp; drone_next = next; transaction = z; opening = view_opening n (m'.opening t); cancelled = m'.cancelled t }) g) (sym (v.transaction st))
      (subst (λ z. Inv n t (record (part w m n t) { drone = e; drone_last = stamp; drone_next = next; transaction = own_transaction (view_transaction n (m.transaction t)) x; opening = z; cancelled = m'.cancelled t }) g) (sym (v.opening st))
      (subst (λ z. Inv n t (record (part w m n t) { drone = e; drone_last = stamp; drone_next = next; transaction = own_transaction (view_transaction n (m.transaction t)) x; opening = own_opening (view_opening n (m.opening t)) x; cancelled = z }) g) (sym (v.cancels t)) i)))
  own_pair g (Some b) st i =
      let fs = frame_of n next (Some b) ∷ w.sent in
      subst (λ z. Inv n t (record (part w m n t) { drone = e; drone_last = z; drone_next = next + 1; transaction = view_transaction n (m'.transaction t); opening = view_opening n (m'.opening t); cancelled = m'.cancelled t; sent = fs }) g) (sym (at_same (w.drone n).last t stamp))
      (subst (λ z. Inv n t (record (part w m n t) { drone = e; drone_last = stamp; drone_next = next + 1; transaction = z; opening = view_opening n (m'.opening t); cancelled = m'.cancelled t; sent = fs }) g) (sym (v.transaction st))
      (subst (λ z. Inv n t (record (part w m n t) { drone = e; drone_last = stamp; drone_next = next + 1; transaction = own_transaction (view_transaction n (m.transaction t)) x; opening = z; cancelled = m'.cancelled t; sent = fs }) g) (sym (v.opening st))
      (subst (λ z. Inv n t (record (part w m n t) { drone = e; drone_last = stamp; drone_next = next + 1; transaction = own_transaction (view_transaction n (m.transaction t)) x; opening = own_opening (view_opening n (m.opening t)) x; cancelled = z; sent = fs }) g) (sym (v.cancels t)) i)))

  -- the pairs with other stations
  else_pair : (s : Stream) (g : Moments) (b : Option PlanMsg) → s ≢ t → nodes.is_station s ≡ true → SaysTo nodes t b → Inv n s (record (part w m n s) { drone = e; drone_next = next }) g → Inv n s (part_of n s (says_node node b) (w.station s) (m'.transaction s) (m'.opening s) (m'.cancelled s) (plus (says_frame n next b) w.sent)) g
  else_pair s g None far st says i =
      subst (λ z. Inv n s (record (part w m n s) { drone = e; drone_last = z; drone_next = next; transaction = view_transaction n (m'.transaction s); opening = view_opening n (m'.opening s); cancelled = m'.cancelled s }) g) (sym (at_apart (w.drone n).last t s stamp far))
      (subst (λ z. Inv n s (record (part w m n s) { drone = e; drone_next = next; transaction = view_transaction n z; opening = view_opening n (m'.opening s); cancelled = m'.cancelled s }) g) (sym (v.else_transaction s far))
      (subst (λ z. Inv n s (record (part w m n s) { drone = e; drone_next = next; opening = view_opening n z; cancelled = m'.cancelled s }) g) (sym (v.else_opening s far))
      (subst (λ z. Inv n s (record (part w m n s) { drone = e; drone_next = next; cancelled = z }) g) (sym (v.cancels s)) i)))
  else_pair s g (Some b) far st says i =
      let fs = frame_of n next (Some b) ∷ w.sent in
      let ne = not_both nodes sound n s drone st in
      let for_another : addressee b ≢ node_of s = λ z. names_differ nodes sound t s h.sender st (λ y. far (sym y)) (sym says.0 ∙ z) in
      let j = on_said n s ne (record (part w m n s) { drone = e; drone_next = next }) g b i for_another in
      subst (λ z. Inv n s (record (part w m n s) { drone = e; drone_last = z; drone_next = next + 1; transaction = view_transaction n (m'.transaction s); opening = view_opening n (m'.opening s); cancelled = m'.cancelled s; sent = fs }) g) (sym (at_apart (w.drone n).last t s stamp far))
      (subst (λ z. Inv n s (record (part w m n s) { drone = e; drone_next = next + 1; transaction = view_transaction n z; opening = view_opening n (m'.opening s); cancelled = m'.cancelled s; sent = fs }) g) (sym (v.else_transaction s far))
      (subst (λ z. Inv n s (record (part w m n s) { drone = e; drone_next = next + 1; opening = view_opening n z; cancelled = m'.cancelled s; sent = fs }) g) (sym (v.else_opening s far))
      (subst (λ z. Inv n s (record (part w m n s) { drone = e; drone_next = next + 1; cancelled = z; sent = fs }) g) (sym (v.cancels s)) j)))

  -- each pair of the drone
  each_pair : (s : Stream) → nodes.is_station s ≡ true → (g : Moments) × Inv n s (part_of n s (says_node node a) (w.station s) (m'.transaction s) (m'.opening s) (m'.cancelled s) (plus (says_frame n next a) w.sent)) g
  each_pair s st = elim (split t s) [
    | inl is ↦
        let st' : nodes.is_station t ≡ true = subst (λ y. nodes.is_station y ≡ true) is st in
        let k = h.own st' in
        subst (λ s. (g : Moments) × Inv n s (part_of n s (says_node node a) (w.station s) (m'.transaction s) (m'.opening s) (m'.cancelled s) (plus (says_frame n next a) w.sent)) g) (sym is) (k.moments, own_pair k.moments a st' k.inv)
    | inr far ↦
        let p = all.pairs n s drone st in
        (p.0, else_pair s p.0 a far st h.shape.says (on_later n s (not_both nodes sound n s drone st) (part w m n s) p.0 e next p.1 (h.other s (λ z. far (sym z))) h.later))
  ]

  -- the frame is harmless
  framed : (b : Option PlanMsg) → SaysTo nodes t b → FrameOf nodes n (says_frame n next b)
  framed None s = tt
  framed (Some b) s = (refl, λ _. s.1)

  -- the node's state
  owned : (b : Option PlanMsg) → (says_node node b).state ≡ e
  owned None = refl
  owned (Some b) = refl

  -- what holds of the whole world holds after the step
  pub steps : All nodes (drone_sends (record w { news = news }) n node a) m'
  steps =
      subst (λ z. All nodes z m') (sym (sends_is (record w { news = news }) n node a))
      (drone_moves nodes sound w m m' n (says_node node a) (says_frame n next a) news all drone (record {
        own = each_pair;
        transactions = v.far_transaction;
        openings = v.far_opening;
        cancels = v.cancels;
        frame = framed a h.shape.says;
        owner = rw (owned a) h.shape.owner;
        sys = rw (owned a) (h.shape.sys ∙ all.systems n drone);
        fresh = v.fresh;
        at_drone = v.at_drone;
        plans = λ k l. rw (owned a) (h.shape.plans k l ∙ same_after (plan_at (w.drone n).state.plans) (m.plan n) x k (all.plans n k l) ∙ v.plans k l);
        other_plans = v.other_plans;
      }))
