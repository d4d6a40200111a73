-- What holds of the state of every authentic scenario: what each station has sent, and what each drone has heard.
use Rattle.std.proofs.Common.{◌≡◌, ◌≢◌, ℕ, ◌+◌, inl, inr, Bool, true, false, if◌then◌else◌, List, [], ◌++◌, length, slice_get, slice_set, Option, Some, None, Ok, Err, refl, sym, ap, subst, ◌∙◌}
use Rattle.std.specs.Prelude.{nat_le, position}
use Rattle.std.specs.declared.result.Result.{Result}
use Rattle.std.proofs.lemmas.List.{append-nil}
use Rattle.mav_names.specs.declared.names.Name.{Name}
use Rattle.mav_names.specs.Addresses.{same_name, node_of}
use Rattle.mav_frame.specs.Packet.{Packet}
use Rattle.mav_nodes.specs.Links.{Outcome}
use Rattle.mav_nodes.specs.Nodes.{DroneSide, StationSide, drone_receives, station_receives, drone_ticks, station_ticks, drone_beats, station_beats, drone_sims}
use Rattle.fleet_report.specs.Events.{Event}
use Rattle.node_reports.specs.Nodes.{Node, Drone, Station, node_name}
use Rattle.node_reports.specs.Calls.{as_drone, as_station, node_receives, node_beats, node_ticks, node_flies}
use Rattle.fleet_world.specs.WorldState.{WorldState, is_named}
use Rattle.fleet_world.specs.Steps.{Step, StepError, after_events, most_frames, packets_in, node_does, calls_at, calls_found, calls}
use Rattle.fleet_invariants.specs.Sound.{link_of, IsSent, Sound}
use Rattle.fleet_invariants.specs.Kept.{IsAmong, Known}
use Rattle.fleet_invariants.proofs.Lists.{which}
use Rattle.fleet_invariants.proofs.Tests.{by_test, name_eq, name_same}
use Rattle.fleet_command_laws.specs.Lines.{Order, orders_begun}
use Rattle.fleet_command_laws.specs.Accepted.{HasStation}
use Rattle.fleet_command_laws.proofs.Outcomes.{Goes}
use Rattle.fleet_command_laws.proofs.Stations.{AllBy, Voice, voice_others, none_begun, begun_more, Speaks}
use Rattle.fleet_command_laws.proofs.StationCalls.{StationSays, station_receiving, station_ticking, station_beating}
use Rattle.fleet_command_laws.proofs.Drones.{Tells, tells_more, LinkTells, DroneTells, drone_receiving, drone_ticking, drone_beating, drone_simming}

pub record Commanded (s : WorldState) : Type 0 where
  pub stations : (k : ℕ) (n : StationSide) → slice_get s.nodes k ≡ Some (Station n) → Voice s.sent (node_of n.link.me) n.link.history n.services.commander.issue
  pub drones : (k : ℕ) (n : DroneSide) → slice_get s.nodes k ≡ Some (Drone n) → Tells s.sent (node_of n.link.me) n.link.history n.services.executor

-- each frame that is among those sent was sent
pub sent_of : (s : WorldState) → Sound s → (p : Packet) → IsAmong s.sent p → IsSent s p
sent_of s g p at = g.sent at.index p at.found

-- of a node, after frames that it has sent since a call began, with which lines of these orders began
abbrev pub NodeSays : (s : WorldState) → ((p : Packet) → IsAmong s.sent p → IsSent s p) → List Order → Node → Node → List Packet → Type 0
NodeSays s sent orders (Drone a) (Drone n) ps = LinkTells s a.link.me sent n.services.executor n.link ps
NodeSays s sent orders (Drone a) (Station n) ps = ⊥
NodeSays s sent orders (Station a) (Drone n) ps = ⊥
NodeSays s sent orders (Station a) (Station n) ps = Speaks s.sent a.link.me orders n.services.commander.issue n.link ps

-- after a step in which lines of each station begin with these orders
pub record After (s : WorldState) (orders : Name → List Order) (t : WorldState) : Type 0 where
  pub commanded : Commanded t
  pub begun : (name : Name) → HasStation s name → orders_begun name t.sent ≡ orders_begun name s.sent ++ orders name

abbrev pub Stays : WorldState → (Name → List Order) → Result Step StepError → Type 0
Stays s orders (Ok t) = After s orders t.state
Stays s orders (Err error) = Unit {0}

-- none begin
abbrev pub no_line : Name → List Order
no_line name = []

pub stays_behind : (s : WorldState) (orders : Name → List Order) (events : List Event) (r : Result Step StepError) → Stays s orders r → Stays s orders (after_events events r)
stays_behind s orders events (Ok t) h = record { commanded = record { stations = h.commanded.stations; drones = h.commanded.drones }; begun = h.begun }
stays_behind s orders events (Err error) h = tt

pub rests_so : (s : WorldState) → Commanded s → After s no_line s
rests_so s c = record { commanded = c; begun = λ name is. sym (append-nil (orders_begun name s.sent)) }

-- the orders of a name's lines that begin with a call of a node
abbrev pub orders_of : List Order → Node → Name → List Order
orders_of orders a name = if same_name (node_of (link_of a).me) name then orders else []

pub none_of : (a : Node) (name : Name) → orders_of [] a name ≡ []
none_of a name = by_test (λ (os : List Order). os ≡ []) (same_name (node_of (link_of a).me) name) [] [] (λ _. refl) (λ _. refl)

name_is : (a : Node) → node_name a ≡ node_of (link_of a).me
name_is (Drone n) = refl
name_is (Station n) = refl

module _ (s : WorldState) (g : Sound s) (c : Commanded s) where
  all_by : (orders : List Order) (a b : Node) (ps : List Packet) → NodeSays s (sent_of s g) orders a b ps → AllBy (node_of (link_of a).me) ps
  all_by orders (Drone a) (Drone n) ps h = h.own
  all_by orders (Drone a) (Station n) ps h = absurd h
  all_by orders (Station a) (Drone n) ps h = absurd h
  all_by orders (Station a) (Station n) ps h = h.own

  voice_of : (orders : List Order) (a : Node) (n : StationSide) (ps : List Packet) → NodeSays s (sent_of s g) orders a (Station n) ps → Voice (s.sent ++ ps) (node_of n.link.me) n.link.history n.services.commander.issue
  voice_of orders (Drone a) n ps h = absurd h
  voice_of orders (Station a) n ps h =
      subst (λ x. Voice (s.sent ++ ps) x n.link.history n.services.commander.issue) (ap node_of (sym h.me_is)) h.voice

  tells_of : (orders : List Order) (a : Node) (n : DroneSide) (ps : List Packet) → NodeSays s (sent_of s g) orders a (Drone n) ps → Tells (s.sent ++ ps) (node_of n.link.me) n.link.history n.services.executor
  tells_of orders (Station a) n ps h = absurd h
  tells_of orders (Drone a) n ps h =
      subst (λ x. Tells (s.sent ++ ps) x n.link.history n.services.executor) (ap node_of (sym h.me_is)) (tells_more s.sent ps (node_of a.link.me) n.link.history n.services.executor h.tells)

  -- the lines that begin
  no_station : (i j : ℕ) (a : DroneSide) (n : StationSide) → i ≡ j → slice_get s.nodes i ≡ Some (Drone a) → slice_get s.nodes j ≡ Some (Station n) → ⊥
  no_station i j a n same x y = let wrong : ◌≡◌ {A = Option Node} (Some (Drone a)) (Some (Station n)) = sym x ∙ (ap (slice_get s.nodes) same ∙ y) in cc

  begun_of : (orders : List Order) (k : ℕ) (a b : Node) (ps : List Packet) → slice_get s.nodes k ≡ Some a → NodeSays s (sent_of s g) orders a b ps → (name : Name) → HasStation s name → orders_begun name ps ≡ orders_of orders a name
  begun_of orders k a b ps found h name is =
      elim (same_name (node_of (link_of a).me) name) as (λ t. same_name (node_of (link_of a).me) name ≡ t → orders_begun name ps ≡ (if t then orders else [])) [
        | true ↦ λ e. own a b found h (name_eq (node_of (link_of a).me) name e)
        | false ↦ λ e. none_begun ps name (node_of (link_of a).me) (all_by orders a b ps h) (λ same. apart (same_name (node_of (link_of a).me) name) e (subst (λ x. same_name (node_of (link_of a).me) x ≡ true) same (name_same (node_of (link_of a).me))))
      ] refl
    where
      apart : (t : Bool) → t ≡ false → t ≡ true → ⊥
      apart true e f = absurd (cc)
      apart false e f = absurd (cc)

      own : (a b : Node) → slice_get s.nodes k ≡ Some a → NodeSays s (sent_of s g) orders a b ps → node_of (link_of a).me ≡ name → orders_begun name ps ≡ orders
      own (Drone a) b found h same = absurd (no_station k is.index a is.node (g.apart k is.index (Drone a) (Station is.node) found is.found (same ∙ sym is.name_is)) found is.found)
      own (Station a) (Drone n) found h same = absurd h
      own (Station a) (Station n) found h same = subst (λ x. orders_begun x ps ≡ orders) same h.begun

  -- ---- one node moves

  abbrev moved : ℕ → Node → List Packet → WorldState
  moved k b ps = record s { nodes = slice_set s.nodes k b; sent = s.sent ++ ps }

  module _ (orders : List Order) (k : ℕ) (a b : Node) (ps : List Packet) (found : slice_get s.nodes k ≡ Some a) (h : NodeSays s (sent_of s g) orders a b ps) where
    other_name : (i : ℕ) (d : Node) → i ≢ k → slice_get s.nodes i ≡ Some d → node_of (link_of a).me ≡ node_of (link_of d).me → ⊥
    other_name i d apart there same = apart (g.apart i k d a there found (name_is d ∙ sym same ∙ sym (name_is a)))

    commanded_moved : Commanded (moved k b ps)
    commanded_moved = record {
      stations = λ i n e. elim (which s.nodes k a b found i (Station n) e) [
        | inl x ↦ voice_of orders a n ps (subst (λ m. NodeSays s (sent_of s g) orders a m ps) (sym x.1) h)
        | inr x ↦ voice_others ps s.sent (node_of n.link.me) (node_of (link_of a).me) n.link.history n.services.commander.issue (all_by orders a b ps h) (other_name i (Station n) x.0 x.1) (c.stations i n x.1)
      ];
      drones = λ i n e. elim (which s.nodes k a b found i (Drone n) e) [
        | inl x ↦ tells_of orders a n ps (subst (λ m. NodeSays s (sent_of s g) orders a m ps) (sym x.1) h)
        | inr x ↦ tells_more s.sent ps (node_of n.link.me) n.link.history n.services.executor (c.drones i n x.1)
      ];
    }

    pub after_moved : After s (orders_of orders a) (moved k b ps)
    after_moved = record {
      commanded = commanded_moved;
      begun = λ name is. begun_more name s.sent ps ∙ ap (λ os. orders_begun name s.sent ++ os) (begun_of orders k a b ps found h name is);
    }

  pub does_begin : (orders : List Order) (k : ℕ) (a : Node) → slice_get s.nodes k ≡ Some a → (name : Name) (o : Outcome Node) → Goes (NodeSays s (sent_of s g) orders a) [] o → Stays s (orders_of orders a) (node_does s k name o)
  does_begin orders k a found name None h = tt
  does_begin orders k a found name (Some d) h =
      by_test (Stays s (orders_of orders a)) (nat_le (length s.sent + length (packets_in d.events)) most_frames) _ _ (λ _. after_moved orders k a d.node (packets_in d.events) found h) (λ _. tt)

  begins_none : (a : Node) (r : Result Step StepError) → Stays s (orders_of [] a) r → Stays s no_line r
  begins_none a (Err error) h = tt
  begins_none a (Ok t) h = record { commanded = h.commanded; begun = λ name is. h.begun name is ∙ ap (λ os. orders_begun name s.sent ++ os) (none_of a name) }

  pub does_so : (k : ℕ) (a : Node) → slice_get s.nodes k ≡ Some a → (name : Name) (o : Outcome Node) → Goes (NodeSays s (sent_of s g) [] a) [] o → Stays s no_line (node_does s k name o)
  does_so k a found name o h = begins_none a (node_does s k name o) (does_begin [] k a found name o h)

  -- ---- what a node does

  pub drone_before : (k : ℕ) (n : DroneSide) → slice_get s.nodes k ≡ Some (Drone n) → DroneTells s n.link.me (sent_of s g) n []
  drone_before k n found = record { me_is = refl; key_is = (g.links k (Drone n) found).key; tells = c.drones k n found; own = tt }

  pub station_before : (k : ℕ) (n : StationSide) → slice_get s.nodes k ≡ Some (Station n) → StationSays s.sent n.link.me s.clock [] n []
  station_before k n found = record {
    me_is = refl;
    begun = refl;
    voice = subst (λ frames. Voice frames (node_of n.link.me) n.link.history n.services.commander.issue) (sym (append-nil s.sent)) (c.stations k n found);
    own = tt;
  }

  pub of_drone : (a : DroneSide) (o : Outcome DroneSide) → Goes (DroneTells s a.link.me (sent_of s g)) [] o → Goes (NodeSays s (sent_of s g) [] (Drone a)) [] (as_drone o)
  of_drone a None h = tt
  of_drone a (Some d) h = h

  pub of_station : (orders : List Order) (a : StationSide) (o : Outcome StationSide) → Goes (StationSays s.sent a.link.me s.clock orders) [] o → Goes (NodeSays s (sent_of s g) orders (Station a)) [] (as_station o)
  of_station orders a None h = tt
  of_station orders a (Some d) h = h

  abbrev pub CallSays : (Node → Outcome Node) → Type 0
  CallSays call = (k : ℕ) (a : Node) → slice_get s.nodes k ≡ Some a → Goes (NodeSays s (sent_of s g) [] a) [] (call a)

  pub receives_so : (bytes : List ℕ) → Known s bytes → CallSays (node_receives s.clock bytes)
  receives_so bytes known k (Drone n) found =
      of_drone n (drone_receives s.clock bytes n) (drone_receiving s n.link.me (sent_of s g) s.clock n (drone_before k n found) bytes (g.links k (Drone n) found).extras known)
  receives_so bytes known k (Station n) found =
      of_station [] n (station_receives s.clock bytes n) (station_receiving s.sent n.link.me s.clock [] n (station_before k n found) bytes)

  pub beats_so : CallSays (node_beats s.clock)
  beats_so k (Drone n) found = of_drone n (drone_beats s.clock n) (drone_beating s n.link.me (sent_of s g) s.clock n (drone_before k n found))
  beats_so k (Station n) found = of_station [] n (station_beats s.clock n) (station_beating s.sent n.link.me s.clock [] n (station_before k n found))

  pub flies_so : CallSays (node_flies s.clock)
  flies_so k (Drone n) found = of_drone n (drone_sims s.clock n) (drone_simming s n.link.me (sent_of s g) s.clock n (drone_before k n found))
  flies_so k (Station n) found = station_before k n found

  pub ticks_so : CallSays (node_ticks s.clock)
  ticks_so k (Drone n) found = of_drone n (drone_ticks s.clock n) (drone_ticking s n.link.me (sent_of s g) s.clock n (drone_before k n found))
  ticks_so k (Station n) found =
      of_station [] n (station_ticks s.clock n) (station_ticking s.sent n.link.me s.clock [] n (station_before k n found) (g.cores k (Station n) found).services)

  -- the node of a name
  at_index : (call : Node → Outcome Node) → CallSays call → (k : ℕ) (a : Option Node) → slice_get s.nodes k ≡ a → Stays s no_line (calls_at s k a call)
  at_index call each k None found = rests_so s c
  at_index call each k (Some a) found = does_so k a found (node_name a) (call a) (each k a found)

  placed : (call : Node → Outcome Node) → CallSays call → (k : Option ℕ) → Stays s no_line (calls_found s k call)
  placed call each None = rests_so s c
  placed call each (Some k) = at_index call each k (slice_get s.nodes k) refl

  pub calls_so : (call : Node → Outcome Node) → CallSays call → (name : Name) → Stays s no_line (calls s name call)
  calls_so call each name = placed call each (position (is_named name) s.nodes)
