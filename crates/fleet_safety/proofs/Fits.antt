-- A state fits a world of messages: its nodes are the world's, its packets are the world's frames, and the world's
-- timestamps are none above those that the nodes keep.
use Rattle.std.proofs.Common.{◌≡◌, ◌≢◌, ℕ, zero, suc, ◌+◌, inl, inr, List, [], ◌∷◌, ◌++◌, length, slice_get, slice_set, Some, None, refl, sym, subst, ◌∙◌}
use Rattle.mav_names.specs.declared.names.Name.{Name}
use Rattle.mav_names.specs.declared.names.Stream.{Stream}
use Rattle.mav_frame.specs.Packet.{Packet}
use Rattle.plan_safety.specs.Store.{Store, first_store}
use Rattle.plan_safety.specs.World as world
use Rattle.plan_safety.specs.World.{Nodes, Distinct, World, DroneNode, StationNode, happens, first_world}
use Rattle.plan_safety.specs.History.{final}
use Rattle.plan_safety.proofs.Fleet.{All}
use Rattle.plan_safety.proofs.Induction as induction
use Rattle.plan_ranges.specs.Ranges.{DroneInRange, StationInRange}
use Rattle.mav_nodes.specs.Links.{Done, Outcome}
use Rattle.node_reports.specs.Nodes.{Node, Drone, Station, node_name}
use Rattle.fleet_world.specs.WorldState.{stream_of}
use Rattle.fleet_world.specs.Steps.{packets_in}
use Rattle.fleet_invariants.specs.Sound.{link_of}
use Rattle.fleet_invariants.specs.Kept.{AllRead}
use Rattle.fleet_safety.specs.Reporting.{reported}
use Rattle.fleet_safety.specs.Actions.{Order}
use Rattle.fleet_safety.specs.Safe.{start}
use Rattle.fleet_safety.proofs.Times.{KeepsTime, clock_keeps}
use Rattle.fleet_safety.proofs.Frames.{SameFrames}
use Rattle.fleet_safety.proofs.Names.{Named, Unnamed, Covers, SameRole, stream_in, name_in, named_in, was, set_named, set_covers, set_unnamed}
use Rattle.fleet_safety.proofs.Reports.{seen_by}
use Rattle.fleet_safety.proofs.Own.{Own}

-- a node of the state is the world's, and in its ranges; a station has reported its outcomes
abbrev pub Stands : ℕ → World → Node → Type 0
Stands clock w (Drone a) =
    ((w.drone a.link.me).state ≡ a.core) × KeepsTime clock a.link.history (w.drone a.link.me).last (w.drone a.link.me).next × DroneInRange a.core
Stands clock w (Station a) =
    ((w.station a.link.me).state ≡ a.core) × KeepsTime clock a.link.history (w.station a.link.me).last (w.station a.link.me).next × (a.core.outcome ≡ None) × StationInRange a.core

-- nodes of this name are as at first
abbrev pub IsFresh : World → Name → Type 0
IsFresh w name = (w.drone (stream_of name) ≡ (first_world start).drone (stream_of name)) × (w.station (stream_of name) ≡ (first_world start).station (stream_of name))

-- the world is one that can be reached
abbrev pub Reached : Nodes → World → Type 0
Reached n w = (m : Store) × All n w m

pub record Fits (n : Nodes) (clock : ℕ) (nodes : List Node) (sent : List Packet) (w : World) : Type 0 where
  pub named : Named nodes
  pub covers : Covers n nodes
  pub stands : (i : ℕ) (a : Node) → slice_get nodes i ≡ Some a → Stands clock w a
  pub unnamed : (name : Name) → Unnamed nodes name → IsFresh w name
  pub frames : SameFrames sent w.sent
  pub reached : Reached n w

-- each event leads from a world that can be reached to one
pub reached_on : (n : Nodes) → Distinct n → (w : World) (e : world.Event) → Reached n w → Reached n (happens n w e)
reached_on n sound w e r = let g = induction.goes n sound w r.0 e r.1 in (_, g.all)

pub reached_all : (n : Nodes) → Distinct n → (w : World) (es : List world.Event) → Reached n w → Reached n (final n w es)
reached_all n sound w [] r = r
reached_all n sound w (e ∷ es) r = reached_all n sound (happens n w e) es (reached_on n sound w e r)

-- at first
pub nowhere : (i : ℕ) (a : Node) → slice_get [] i ≡ Some a → ⊥
nowhere zero a e = absurd (cc)
nowhere (suc i) a e = absurd (cc)

pub nothing_named : Named []
nothing_named = record { apart = λ i j a b ea eb e. absurd (nowhere i a ea); proper = λ i a e. absurd (nowhere i a e) }

pub first_fits : (n : Nodes) → Distinct n → (clock : ℕ) → Fits n clock [] [] (first_world start)
first_fits n sound clock = record {
  named = nothing_named;
  covers = λ i a e. absurd (nowhere i a e);
  stands = λ i a e. absurd (nowhere i a e);
  unnamed = λ name h. (refl, refl);
  frames = refl;
  reached = (first_store, induction.begins n sound start);
}

-- the clock goes on
pub clock_stands : (clock more : ℕ) (w : World) (a : Node) → Stands clock w a → Stands (clock + more) w a
clock_stands clock more w (Drone a) h = (h.0, clock_keeps clock more _ _ _ h.1, h.2)
clock_stands clock more w (Station a) h = (h.0, clock_keeps clock more _ _ _ h.1, h.2, h.3)

pub clock_fits : (n : Nodes) (clock more : ℕ) (nodes : List Node) (sent : List Packet) (w : World) → Fits n clock nodes sent w → Fits n (clock + more) nodes sent w
clock_fits n clock more nodes sent w h = record {
  named = h.named;
  covers = h.covers;
  stands = λ i a e. clock_stands clock more w a (h.stands i a e);
  unnamed = h.unnamed;
  frames = h.frames;
  reached = h.reached;
}

-- one node of the world moves, and is this node of the state
pub record MovesTo (clock : ℕ) (w v : World) (x : Stream) (new : Node) : Type 0 where
  pub own : Stands clock v new
  pub drones : (y : Stream) → y ≢ x → v.drone y ≡ w.drone y
  pub stations : (y : Stream) → y ≢ x → v.station y ≡ w.station y

-- another node keeps its index
stands_still : (clock : ℕ) (w v : World) (x : Stream) (new : Node) → MovesTo clock w v x new → (a : Node) → stream_in a ≢ x → Stands clock w a → Stands clock v a
stands_still clock w v x new m (Drone a) far h =
    subst (λ (y : DroneNode). (y.state ≡ a.core) × KeepsTime clock a.link.history y.last y.next × DroneInRange a.core) (sym (m.drones _ far)) h
stands_still clock w v x new m (Station a) far h =
    subst (λ (y : StationNode). (y.state ≡ a.core) × KeepsTime clock a.link.history y.last y.next × (a.core.outcome ≡ None) × StationInRange a.core) (sym (m.stations _ far)) h

-- a node of the state moves, and the node of the world
module _ (n : Nodes) (clock : ℕ) (nodes : List Node) (sent : List Packet) (w v : World) (k : ℕ) (old new : Node) (fits : Fits n clock nodes sent w) (found : slice_get nodes k ≡ Some old) (alike : SameRole old new) (moves : MovesTo clock w v (stream_in old) new) where
  set_stands : (i : ℕ) (a : Node) → slice_get (slice_set nodes k new) i ≡ Some a → Stands clock v a
  set_stands i a e =
      let z = was nodes k old new found alike i a e in
      elim z.which [
        | inl h ↦ subst (Stands clock v) (sym h.1) moves.own
        | inr h ↦ subst (Stands clock v) h.1
            (stands_still clock w v (stream_in old) new moves z.node
            (λ same. h.0 (fits.named.apart i k z.node old z.there found (name_in z.node old same)))
            (fits.stands i z.node z.there))
      ]

  set_fresh : (name : Name) → Unnamed (slice_set nodes k new) name → IsFresh v name
  set_fresh name h =
      let u : Unnamed nodes name = set_unnamed nodes k old new found alike name h in
      let far : stream_of name ≢ stream_in old = λ same. u k old found (sym (named_in old name same)) in
      let z = fits.unnamed name u in
      (moves.drones _ far ∙ z.0, moves.stations _ far ∙ z.1)

  pub fits_on : (more : List Packet) → SameFrames (sent ++ more) v.sent → Reached n v → Fits n clock (slice_set nodes k new) (sent ++ more) v
  fits_on more same reached = record {
    named = set_named nodes k old new found alike fits.named;
    covers = set_covers nodes k old new found alike n fits.covers;
    stands = set_stands;
    unnamed = set_fresh;
    frames = same;
    reached = reached;
  }

-- a node goes on as another, in its role, with its stream and key
pub record Alike (a b : Node) : Type 0 where
  pub role : SameRole a b
  pub key : (link_of a).key ≡ (link_of b).key

-- what a node does; these events of the world report the same, are this accepted order, and lead to a state that fits
pub record Led (n : Nodes) (clock : ℕ) (nodes : List Node) (sent : List Packet) (w : World) (k : ℕ) (old : Node) (d : Done Node) (events : List world.Event) (orders : List Order) : Type 0 where
  pub report : seen_by (node_name old) (length sent) d.events ≡ reported n w events
  pub own : Own n w events orders
  pub alike : Alike old d.node
  pub fits : Fits n clock (slice_set nodes k d.node) (sent ++ packets_in d.events) (final n w events)

-- if it is done, and what it sends reads back
abbrev pub Leads : {A : Type 0} → Nodes → ℕ → List Node → List Packet → World → ℕ → Node → (A → Node) → Outcome A → List world.Event → List Order → Type 0
Leads n clock nodes sent w k old node_of None events orders = Unit {0}
Leads n clock nodes sent w k old node_of (Some d) events orders = AllRead d.events → Led n clock nodes sent w k old (record { node = node_of d.node; events = d.events }) events orders
