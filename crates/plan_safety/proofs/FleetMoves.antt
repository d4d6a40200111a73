-- One node of the world moves: what then has to be shown of it, for what holds to hold again.
use Rattle.std.proofs.Common.{◌≡◌, ◌≢◌, ℕ, ◌<◌, inl, inr, true, List, ◌∷◌, Option, Some, None, sym, subst, ◌∙◌}
use Rattle.mav_names.specs.declared.names.Stream.{Stream}
use Rattle.plan_upload.specs.Addresses.{node_of}
use Rattle.plan_upload.specs.Plans.{plan_at}
use Rattle.plan_safety.specs.Frames.{Frame}
use Rattle.plan_safety.specs.World.{Nodes, Distinct, World, DroneNode, StationNode}
use Rattle.plan_safety.specs.Store.{Store, StoreEvent, Transaction, Fresh, at, Meets, follows}
use Rattle.plan_safety.proofs.Keys.{split, at_same, at_apart}
use Rattle.plan_safety.proofs.Part.{Part, Moments, Inv}
use Rattle.plan_safety.proofs.Fleet.{All, part, part_of, view_transaction, view_opening, IsNode, MaySay, Harmless, Owner, AtDrone, OfDrones, not_both, on_foreign}

-- the event that led to v was the store's, and what holds holds again
pub record Goes (nodes : Nodes) (v : World) (m : Store) : Type 0 where
  pub needs : Meets v.sent m v.news
  pub all : All nodes v (follows m v.news)

-- with one frame more, or none
abbrev pub plus : Option Frame → List Frame → List Frame
plus None fs = fs
plus (Some f) fs = f ∷ fs

abbrev pub FrameOf : Nodes → Stream → Option Frame → Type 0
FrameOf nodes n None = Unit {0}
FrameOf nodes n (Some f) = (f.from ≡ n) × (nodes.is_drone n ≡ true → MaySay nodes f.message)

-- the drone n is x afterwards, and the store m'
pub record DroneMoves (nodes : Nodes) (w : World) (m m' : Store) (n : Stream) (x : DroneNode) (f : Option Frame) : Type 0 where
  pub own : (s : Stream) → nodes.is_station s ≡ true → (g : Moments) × Inv n s (part_of n s x (w.station s) (m'.transaction s) (m'.opening s) (m'.cancelled s) (plus f w.sent)) g
  pub transactions : (d s : Stream) → d ≢ n → view_transaction d (m'.transaction s) ≡ view_transaction d (m.transaction s)
  pub openings : (d s : Stream) → d ≢ n → view_opening d (m'.opening s) ≡ view_opening d (m.opening s)
  pub cancels : (s : Stream) → m'.cancelled s ≡ m.cancelled s
  pub frame : FrameOf nodes n f
  pub owner : Owner nodes x.state.upload
  pub sys : x.state.sys ≡ n.sys
  pub fresh : (s : Stream) → nodes.is_station s ≡ true → (m'.transaction s).stage ≡ Fresh → nodes.is_drone (m'.transaction s).drone ≡ true
  pub at_drone : (s : Stream) → nodes.is_station s ≡ true → AtDrone nodes (m'.opening s)
  pub plans : (k : ℕ) → k < 3 → plan_at x.state.plans k ≡ m'.plan n k
  pub other_plans : (d : Stream) (k : ℕ) → d ≢ n → m'.plan d k ≡ m.plan d k

-- the station s is y afterwards, and the store m'
pub record StationMoves (nodes : Nodes) (w : World) (m m' : Store) (s : Stream) (y : StationNode) (f : Option Frame) : Type 0 where
  pub own : (d : Stream) → nodes.is_drone d ≡ true → (g : Moments) × Inv d s (part_of d s (w.drone d) y (m'.transaction s) (m'.opening s) (m'.cancelled s) (plus f w.sent)) g
  pub transactions : (u : Stream) → u ≢ s → m'.transaction u ≡ m.transaction u
  pub openings : (u : Stream) → u ≢ s → m'.opening u ≡ m.opening u
  pub cancels : (u : Stream) → u ≢ s → m'.cancelled u ≡ m.cancelled u
  pub frame : FrameOf nodes s f
  pub name : y.state.me ≡ node_of s
  pub operation : OfDrones nodes y.state.operation
  pub fresh : (m'.transaction s).stage ≡ Fresh → nodes.is_drone (m'.transaction s).drone ≡ true
  pub at_drone : AtDrone nodes (m'.opening s)
  pub plans : (d : Stream) (k : ℕ) → m'.plan d k ≡ m.plan d k

-- a frame more is as harmless
more_frames : (nodes : Nodes) (n : Stream) (f : Option Frame) (fs : List Frame) → IsNode nodes n → FrameOf nodes n f → Harmless nodes fs → Harmless nodes (plus f fs)
more_frames nodes n None fs a h i = i
more_frames nodes n (Some f) fs a h i = ((subst (IsNode nodes) (sym h.0) a, λ e. h.1 (subst (λ x. nodes.is_drone x ≡ true) h.0 e)), i)

-- for a pair without the node, a frame more is nothing
foreign : (nodes : Nodes) (n d s : Stream) (p : Part) (g : Moments) (f : Option Frame) → FrameOf nodes n f → n ≢ d → n ≢ s → Inv d s p g → Inv d s (record p { sent = plus f p.sent }) g
foreign nodes n d s p g None h a b i = i
foreign nodes n d s p g (Some f) h a b i = on_foreign d s p g f i (λ e. a (sym h.0 ∙ e)) (λ e. b (sym h.0 ∙ e))

module _ (nodes : Nodes) (sound : Distinct nodes) (w : World) (m m' : Store) (n : Stream) (x : DroneNode) (f : Option Frame) (news : List StoreEvent) (all : All nodes w m) (drone : nodes.is_drone n ≡ true) (h : DroneMoves nodes w m m' n x f) where
  abbrev after : World
  after = record { drone = at w.drone n x; station = w.station; sent = plus f w.sent; news = news }

  -- the pairs of another drone
  away : (d s : Stream) (g : Moments) → d ≢ n → nodes.is_station s ≡ true → Inv d s (part w m d s) g → Inv d s (part after m' d s) g
  away d s g far hs i =
      subst (λ y. Inv d s (part_of d s y (w.station s) (m'.transaction s) (m'.opening s) (m'.cancelled s) (plus f w.sent)) g) (sym (at_apart w.drone n d x far))
      (subst (λ z. Inv d s (record (part w m d s) { transaction = z; opening = view_opening d (m'.opening s); cancelled = m'.cancelled s; sent = plus f w.sent }) g) (sym (h.transactions d s far))
      (subst (λ z. Inv d s (record (part w m d s) { opening = z; cancelled = m'.cancelled s; sent = plus f w.sent }) g) (sym (h.openings d s far))
      (subst (λ z. Inv d s (record (part w m d s) { cancelled = z; sent = plus f w.sent }) g) (sym (h.cancels s))
      (foreign nodes n d s (part w m d s) g f h.frame (λ z. far (sym z)) (not_both nodes sound n s drone hs) i))))

  -- the pairs of this drone
  here : (s : Stream) (g : Moments) → Inv n s (part_of n s x (w.station s) (m'.transaction s) (m'.opening s) (m'.cancelled s) (plus f w.sent)) g → Inv n s (part after m' n s) g
  here s g i = subst (λ y. Inv n s (part_of n s y (w.station s) (m'.transaction s) (m'.opening s) (m'.cancelled s) (plus f w.sent)) g) (sym (at_same w.drone n x)) i

  -- what holds, after the drone moved
  pub drone_moves : All nodes after m'
  drone_moves = record {
    pairs = λ d s hd hs. elim (split n d) [
      | inl is ↦ let p = h.own s hs in (p.0, subst (λ d. Inv d s (part after m' d s) p.0) (sym is) (here s p.0 p.1))
      | inr far ↦ let p = all.pairs d s hd hs in (p.0, away d s p.0 far hs p.1)
    ];
    frames = more_frames nodes n f w.sent (inl drone) h.frame all.frames;
    owners = λ d hd. elim (split n d) [
      | inl is ↦ subst (λ d. Owner nodes (at w.drone n x d).state.upload) (sym is) (subst (λ (y : DroneNode). Owner nodes y.state.upload) (sym (at_same w.drone n x)) h.owner)
      | inr far ↦ subst (λ (y : DroneNode). Owner nodes y.state.upload) (sym (at_apart w.drone n d x far)) (all.owners d hd)
    ];
    systems = λ d hd. elim (split n d) [
      | inl is ↦ subst (λ d. (at w.drone n x d).state.sys ≡ d.sys) (sym is) (subst (λ (y : DroneNode). y.state.sys ≡ n.sys) (sym (at_same w.drone n x)) h.sys)
      | inr far ↦ subst (λ (y : DroneNode). y.state.sys ≡ d.sys) (sym (at_apart w.drone n d x far)) (all.systems d hd)
    ];
    names = all.names;
    transactions = h.fresh;
    openings = h.at_drone;
    operations = all.operations;
    plans = λ d k l. elim (split n d) [
      | inl is ↦ subst (λ d. plan_at (at w.drone n x d).state.plans k ≡ m'.plan d k) (sym is) (subst (λ (y : DroneNode). plan_at y.state.plans k ≡ m'.plan n k) (sym (at_same w.drone n x)) (h.plans k l))
      | inr far ↦ subst (λ (y : DroneNode). plan_at y.state.plans k ≡ m'.plan d k) (sym (at_apart w.drone n d x far)) (all.plans d k l ∙ sym (h.other_plans d k far))
    ];
  }

module _ (nodes : Nodes) (sound : Distinct nodes) (w : World) (m m' : Store) (s : Stream) (y : StationNode) (f : Option Frame) (news : List StoreEvent) (all : All nodes w m) (station : nodes.is_station s ≡ true) (h : StationMoves nodes w m m' s y f) where
  abbrev afterwards : World
  afterwards = record { drone = w.drone; station = at w.station s y; sent = plus f w.sent; news = news }

  -- the pairs of another station
  beyond : (d u : Stream) (g : Moments) → u ≢ s → nodes.is_drone d ≡ true → Inv d u (part w m d u) g → Inv d u (part afterwards m' d u) g
  beyond d u g far hd i =
      subst (λ z. Inv d u (part_of d u (w.drone d) z (m'.transaction u) (m'.opening u) (m'.cancelled u) (plus f w.sent)) g) (sym (at_apart w.station s u y far))
      (subst (λ z. Inv d u (part_of d u (w.drone d) (w.station u) z (m'.opening u) (m'.cancelled u) (plus f w.sent)) g) (sym (h.transactions u far))
      (subst (λ z. Inv d u (part_of d u (w.drone d) (w.station u) (m.transaction u) z (m'.cancelled u) (plus f w.sent)) g) (sym (h.openings u far))
      (subst (λ z. Inv d u (part_of d u (w.drone d) (w.station u) (m.transaction u) (m.opening u) z (plus f w.sent)) g) (sym (h.cancels u far))
      (foreign nodes s d u (part w m d u) g f h.frame (λ z. not_both nodes sound d s hd station (sym z)) (λ z. far (sym z)) i))))

  -- what holds, after the station moved
  pub station_moves : All nodes afterwards m'
  station_moves = record {
    pairs = λ d u hd hu. elim (split s u) [
      | inl is ↦ let p = h.own d hd in (
        p.0,
        subst (λ u. Inv d u (part afterwards m' d u) p.0) (sym is)
            (subst (λ z. Inv d s (part_of d s (w.drone d) z (m'.transaction s) (m'.opening s) (m'.cancelled s) (plus f w.sent)) p.0) (sym (at_same w.station s y)) p.1),
      )
      | inr far ↦ let p = all.pairs d u hd hu in (p.0, beyond d u p.0 far hd p.1)
    ];
    frames = more_frames nodes s f w.sent (inr station) h.frame all.frames;
    owners = all.owners;
    systems = all.systems;
    names = λ u hu. elim (split s u) [
      | inl is ↦ subst (λ u. (at w.station s y u).state.me ≡ node_of u) (sym is) (subst (λ (z : StationNode). z.state.me ≡ node_of s) (sym (at_same w.station s y)) h.name)
      | inr far ↦ subst (λ (z : StationNode). z.state.me ≡ node_of u) (sym (at_apart w.station s u y far)) (all.names u hu)
    ];
    transactions = λ u hu. elim (split s u) [
      | inl is ↦ subst (λ u. (m'.transaction u).stage ≡ Fresh → nodes.is_drone (m'.transaction u).drone ≡ true) (sym is) h.fresh
      | inr far ↦ subst (λ (z : Transaction). z.stage ≡ Fresh → nodes.is_drone z.drone ≡ true) (sym (h.transactions u far)) (all.transactions u hu)
    ];
    openings = λ u hu. elim (split s u) [
      | inl is ↦ subst (λ u. AtDrone nodes (m'.opening u)) (sym is) h.at_drone
      | inr far ↦ subst (AtDrone nodes) (sym (h.openings u far)) (all.openings u hu)
    ];
    operations = λ u hu. elim (split s u) [
      | inl is ↦ subst (λ u. OfDrones nodes (at w.station s y u).state.operation) (sym is) (subst (λ (z : StationNode). OfDrones nodes z.state.operation) (sym (at_same w.station s y)) h.operation)
      | inr far ↦ subst (λ (z : StationNode). OfDrones nodes z.state.operation) (sym (at_apart w.station s u y far)) (all.operations u hu)
    ];
    plans = λ d k l. all.plans d k l ∙ sym (h.plans d k);
  }
