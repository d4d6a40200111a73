-- The parts of the world that pairs have, and what holds of the whole world.
use Rattle.std.proofs.Common.{◌≡◌, ◌≢◌, ℕ, zero, suc, ◌<◌, ◌⊎◌, inl, inr, Bool, true, false, if◌then◌else◌, List, [], ◌∷◌, Option, Some, None, refl, sym, subst}
use Rattle.std.specs.Prelude.{slice_get}
use Rattle.mav_names.specs.declared.names.Name.{Name}
use Rattle.mav_names.specs.declared.names.Stream.{Stream}
use Rattle.plan_items.specs.declared.messages.PlanMsg.{PlanMsg}
use Rattle.plan_items.specs.declared.messages.PlanMsg.TheVariants.{Count, Request, Item as Give, Ack, List as Listing, Clear, Ping}
use Rattle.plan_upload.specs.Addresses.{same_stream, node_of, is_for_drone}
use Rattle.plan_upload.specs.Drone.{Upload}
use Rattle.plan_upload.specs.Station.{Operation, is_synced}
use Rattle.plan_safety.specs.Frames.{Frame}
use Rattle.plan_safety.specs.World.{Nodes, Distinct, World, DroneNode, StationNode}
use Rattle.plan_safety.specs.Store.{Store, A_clear, Transaction, Opening, Fresh, Closed}
use Rattle.plan_safety.specs.Safety.{SamePlans}
use Rattle.plan_safety.proofs.Keys.{by_test, stream_eq, differ, for_itself, for_another}
use Rattle.plan_safety.proofs.Part.{Seen, Part, Moments, Inv, IsClear, gathers_more, operates_more}

abbrev pub view_operation : Stream → Option Operation → Option Operation
view_operation d None = None
view_operation d (Some o) = if same_stream o.drone d then Some o else None

-- another drone's transaction is hidden wholly
abbrev pub hidden : Transaction → Transaction
hidden t = record t { stage = Closed; lost = false }

abbrev pub view_transaction : Stream → Transaction → Transaction
view_transaction d t = if same_stream t.drone d then t else hidden t

abbrev pub seen_of : Opening → Seen
seen_of c = record { kind = c.kind; job = c.job; drone_since = c.drone_since; emptied = c.emptied }

abbrev pub view_opening : Stream → Option Opening → Option Seen
view_opening d None = None
view_opening d (Some c) = if same_stream c.drone d then Some (seen_of c) else None

abbrev pub part_of : Stream → Stream → DroneNode → StationNode → Transaction → Option Opening → Bool → List Frame → Part
part_of d s x y t c cancelled sent = record {
  drone = x.state;
  drone_last = x.last s;
  drone_next = x.next;
  operation = view_operation d y.state.operation;
  synced = is_synced y.state.synced d;
  pings = y.state.pings;
  station_last = y.last d;
  station_next = y.next;
  transaction = view_transaction d t;
  opening = view_opening d c;
  cancelled = cancelled;
  sent = sent;
}

abbrev pub part : World → Store → Stream → Stream → Part
part w m d s = part_of d s (w.drone d) (w.station s) (m.transaction s) (m.opening s) (m.cancelled s) w.sent

abbrev pub IsNode : Nodes → Stream → Type 0
IsNode nodes x = (nodes.is_drone x ≡ true) ⊎ (nodes.is_station x ≡ true)

-- no drone hears what is for this name
abbrev pub Unheard : Nodes → Name → Type 0
Unheard nodes to = (d : Stream) → nodes.is_drone d ≡ true → is_for_drone d.sys to ≡ false

-- what a drone may say
abbrev pub MaySay : Nodes → Option PlanMsg → Type 0
MaySay nodes (Some (Ping to usec n)) = Unit {0}
MaySay nodes (Some (Count to n k)) = Unheard nodes to
MaySay nodes (Some (Give to i k x)) = Unheard nodes to
MaySay nodes (Some (Request to i k)) = Unheard nodes to
MaySay nodes (Some (Ack to c k)) = Unit {0}
MaySay nodes (Some (Clear to k)) = ⊥
MaySay nodes (Some (Listing to k)) = ⊥
MaySay nodes None = Unit {0}

abbrev pub IsHarmless : Nodes → Frame → Type 0
IsHarmless nodes f = IsNode nodes f.from × (nodes.is_drone f.from ≡ true → MaySay nodes f.message)

abbrev pub Harmless : Nodes → List Frame → Type 0
Harmless nodes [] = Unit {0}
Harmless nodes (f ∷ fs) = IsHarmless nodes f × Harmless nodes fs

-- uploads are of stations, and of the three kinds
abbrev pub Owner : Nodes → Option Upload → Type 0
Owner nodes None = Unit {0}
Owner nodes (Some u) = (nodes.is_station u.stream ≡ true) × (u.kind < 3)

abbrev pub AtDrone : Nodes → Option Opening → Type 0
AtDrone nodes None = Unit {0}
AtDrone nodes (Some c) = nodes.is_drone c.drone ≡ true

abbrev pub OfDrones : Nodes → Option Operation → Type 0
OfDrones nodes None = Unit {0}
OfDrones nodes (Some o) = nodes.is_drone o.drone ≡ true

pub record All (nodes : Nodes) (w : World) (m : Store) : Type 0 where
  pub pairs : (d s : Stream) → nodes.is_drone d ≡ true → nodes.is_station s ≡ true → (g : Moments) × Inv d s (part w m d s) g
  pub frames : Harmless nodes w.sent
  pub owners : (d : Stream) → nodes.is_drone d ≡ true → Owner nodes (w.drone d).state.upload
  pub systems : (d : Stream) → nodes.is_drone d ≡ true → (w.drone d).state.sys ≡ d.sys
  pub names : (s : Stream) → nodes.is_station s ≡ true → (w.station s).state.me ≡ node_of s
  pub transactions : (s : Stream) → nodes.is_station s ≡ true → (m.transaction s).stage ≡ Fresh → nodes.is_drone (m.transaction s).drone ≡ true
  pub openings : (s : Stream) → nodes.is_station s ≡ true → AtDrone nodes (m.opening s)
  pub operations : (s : Stream) → nodes.is_station s ≡ true → OfDrones nodes (w.station s).state.operation
  pub plans : SamePlans w m

-- what holds does not speak of the news
pub retold : (nodes : Nodes) (w v : World) (m : Store) → v.drone ≡ w.drone → v.station ≡ w.station → v.sent ≡ w.sent → All nodes w m → All nodes v m
retold nodes w v m a b c all =
    let x : All nodes (record v { drone = w.drone; station = w.station; sent = w.sent }) m = record { pairs = λ d s x y. all.pairs d s x y; frames = all.frames; owners = all.owners; systems = all.systems; names = all.names; transactions = all.transactions; openings = all.openings; operations = all.operations; plans = all.plans } in
    let y : All nodes (record v { station = w.station; sent = w.sent }) m = subst (λ z. All nodes (record v { drone = z; station = w.station; sent = w.sent }) m) (sym a) x in
    let z : All nodes (record v { sent = w.sent }) m = subst (λ z. All nodes (record v { station = z; sent = w.sent }) m) (sym b) y in
    subst (λ z. All nodes (record v { sent = z }) m) (sym c) z

-- no node is both, and a station's name is no other node's
pub not_both : (nodes : Nodes) → Distinct nodes → (d s : Stream) → nodes.is_drone d ≡ true → nodes.is_station s ≡ true → d ≢ s
not_both nodes sound d s a b e = differ _ (for_itself d (sound.component d a)) (subst (λ x. is_for_drone d.sys (node_of x) ≡ false) (sym e) (sound.apart d s a b))

pub names_differ : (nodes : Nodes) → Distinct nodes → (t s : Stream) → IsNode nodes t → nodes.is_station s ≡ true → t ≢ s → node_of t ≢ node_of s
names_differ nodes sound t s (inl a) b far e = differ _ (subst (λ x. is_for_drone t.sys x ≡ true) e (for_itself t (sound.component t a))) (sound.apart t s a b)
names_differ nodes sound t s (inr a) b far e = far (sound.stations t s a b e)

-- a message for one drone is not for another
pub drones_differ : (nodes : Nodes) → Distinct nodes → (d e : Stream) → nodes.is_drone d ≡ true → nodes.is_drone e ≡ true → d ≢ e → is_for_drone d.sys (node_of e) ≡ true → ⊥
drones_differ nodes sound d e a b far h = far (sound.drones d e a b (for_another d e h))

-- a frame that was sent is harmless
pub harmless_at : (nodes : Nodes) (fs : List Frame) (k : ℕ) (f : Frame) → slice_get fs k ≡ Some f → Harmless nodes fs → IsHarmless nodes f
harmless_at nodes [] k f e h = absurd (cc)
harmless_at nodes (g ∷ fs) zero f e h = let z : g ≡ f = cc in subst (IsHarmless nodes) z h.0
harmless_at nodes (g ∷ fs) (suc k) f e h = harmless_at nodes fs k f e h.1

-- a frame of a node outside the pair
pub on_foreign : (d s : Stream) (p : Part) (g : Moments) (f : Frame) → Inv d s p g → f.from ≢ d → f.from ≢ s → Inv d s (record p { sent = f ∷ p.sent }) g
on_foreign d s p g f i a b = record {
  facts = i.facts;
  truths = (record { drone = λ e _. absurd (a e); shows = λ e _. absurd (a e); last = λ e _. absurd (a e); accepts = λ e _. absurd (a e); station = λ e _. absurd (b e); named = λ e _. absurd (b e); by_drone = λ e. absurd (a e); by_station = λ e. absurd (b e) }, i.truths);
  upload = gathers_more d s p.sent f p.transaction p.drone.upload i.upload;
  operation = operates_more d s p.sent f p.transaction p.opening p.cancelled p.pings p.operation i.operation;
  for_drone = i.for_drone;
  since = i.since;
  since_count = i.since_count;
  count = λ x. inr (i.count x);
  download = i.download;
  asked = λ x. ((i.asked x).0, inr (i.asked x).1);
  answers = λ ph. (λ e _. absurd (a e), i.answers ph);
}

-- views
pub view_fresh : (d : Stream) (t : Transaction) → (view_transaction d t).stage ≡ Fresh → (view_transaction d t ≡ t) × (t.drone ≡ d)
view_fresh d t = by_test (λ v. v.stage ≡ Fresh → (v ≡ t) × (t.drone ≡ d)) (same_stream t.drone d) t (hidden t) (λ e _. (refl, stream_eq _ _ e)) (λ e h. absurd (cc))

-- a clear that the pair sees
abbrev pub ClearAt : Option Opening → Stream → ℕ → Type 0
ClearAt None d k = ⊥
ClearAt (Some c) d k = (c.drone ≡ d) × (c.job ≡ A_clear) × (c.kind ≡ k)

pub view_clear : (d : Stream) (c : Option Opening) (k : ℕ) → IsClear k (view_opening d c) → ClearAt c d k
view_clear d None k h = absurd h
view_clear d (Some c) k h =
    by_test (λ (v : Option Seen). IsClear k v → (c.drone ≡ d) × (c.job ≡ A_clear) × (c.kind ≡ k)) (same_stream c.drone d) (Some (seen_of c)) None
    (λ t e. (stream_eq _ _ t, e.0, e.1)) (λ _ e. absurd e) h
