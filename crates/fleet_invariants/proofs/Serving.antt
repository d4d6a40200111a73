-- What the services of a node send, one message after another.
use Rattle.std.proofs.Common.{◌≡◌, ℕ, List, [], ◌∷◌, slice_get, Some, None, refl, sym, ap, subst, append_assoc}
use Rattle.plan_upload.specs.Addresses.{node_of}
use Rattle.mav_messages.specs.declared.messages.Message.{Message}
use Rattle.mav_nodes.specs.News.{NodeEvent}
use Rattle.mav_nodes.specs.Links.{Link, Done, Outcome, done, after_events, and_then, sends, sends_all}
use Rattle.mav_nodes.specs.Services.{ServiceStep, DroneServices, StationServices}
use Rattle.mav_nodes.specs.Steps.{Side, with_core, serves}
use Rattle.mav_nodes.specs.Nodes.{DroneSide, StationSide}
use Rattle.node_reports.specs.Nodes.{Node, Drone, Station}
use Rattle.fleet_world.specs.WorldState.{WorldState}
use Rattle.fleet_world.specs.Steps.{packets_in}
use Rattle.fleet_invariants.specs.Sound.{SoundLink, has_heard}
use Rattle.fleet_invariants.specs.Services.{SoundDroneServices, SoundStationServices}
use Rattle.fleet_invariants.proofs.Moves.{Steady, LinkGrows}
use Rattle.fleet_invariants.proofs.Links.{LinkGoes, LinkDoes, link_sends, link_stays}
use Rattle.fleet_invariants.proofs.Params.{AllSendable}
use Rattle.fleet_invariants.proofs.Services.{Serves}
use Rattle.fleet_invariants.proofs.Nodes.{Silent, silent_none, silent_read, advanced, NodeGoes, NodeDoes, node_goes, as_node, drone_moves, station_moves, after_first, then_behind}

-- events of the link are before the last ones
with_behind : {Core Services : Type 0} (core : Core) (services : Services) (last es : List NodeEvent) (o : Outcome Link) → after_events es (with_core core services last o) ≡ with_core core services last (after_events es o)
with_behind core services last es None = refl
with_behind {Core} {Services} core services last es (Some d) =
    ap (λ (events : List NodeEvent). done {A = Side Core Services} (record { link = d.node; core = core; services = services }) events) (sym (append_assoc es d.events last))

-- ---- for either role

-- how a node moves whose link alone does
record Role {Core Services : Type 0} (wrap : Side Core Services → Node) : Type 0 where
  link : (s : WorldState) (k : ℕ) (n : Side Core Services) → Steady s → slice_get s.nodes k ≡ Some (wrap n) → SoundLink s n.link
  moves : (s : WorldState) (k : ℕ) (n : Side Core Services) → Steady s → slice_get s.nodes k ≡ Some (wrap n) → (d : Done Link) → LinkGoes s n.link d
      → NodeGoes s k (record { node = wrap (record n { link = d.node }); events = d.events })
  reports : (s : WorldState) (k : ℕ) (n : Side Core Services) → Steady s → slice_get s.nodes k ≡ Some (wrap n) → (last : List NodeEvent) → Silent last
      → NodeGoes s k (record { node = wrap n; events = last })

module _ {Core Services : Type 0} (wrap : Side Core Services → Node) (role : Role wrap) (last : List NodeEvent) (silent : Silent last) where
  says_all : (messages : List Message) → AllSendable messages → (s : WorldState) (k : ℕ) (n : Side Core Services) → Steady s → slice_get s.nodes k ≡ Some (wrap n)
      → NodeDoes s k (as_node wrap (with_core n.core n.services last (sends_all s.clock messages n.link)))
  says_all [] h s k n g found = role.reports s k n g found last silent
  says_all (m ∷ ms) h s k n g found = goes (λ t a b d. says_all ms h.1 t k a b d) (sends s.clock m n.link) (link_sends s n.link (role.link s k n g found) m h.0.fits)
    where
      goes : ((t : WorldState) (a : Side Core Services) → Steady t → slice_get t.nodes k ≡ Some (wrap a) → NodeDoes t k (as_node wrap (with_core a.core a.services last (sends_all t.clock ms a.link))))
          → (o : Outcome Link) → LinkDoes s n.link o → NodeDoes s k (as_node wrap (with_core n.core n.services last (and_then o (sends_all s.clock ms))))
      goes each None does = tt
      goes each (Some d) does =
          let next : Side Core Services = record n { link = d.node } in
          let first = role.moves s k n g found d does in
          let rest = each (advanced s k (wrap next) d.events) next first.steady first.there in
          subst (λ (o : Outcome (Side Core Services)). NodeDoes s k (as_node wrap o)) (with_behind n.core n.services last d.events (sends_all s.clock ms d.node))
          (then_behind wrap s k (record { node = next; events = d.events }) (with_core n.core n.services last (sends_all s.clock ms d.node)) first rest)

-- ---- a drone

drone_role : Role Drone
drone_role = record {
  link = λ s k n g found. g.links k (Drone n) found;
  moves = λ s k n g found d h.
      let own = g.cores k (Drone n) found in
      node_goes s k (Drone n) (Drone (record n { link = d.node })) d.events g found (drone_moves s k n g found d.node n.core n.services (packets_in d.events) own.range refl own.roomy own.unstored own.services h.link) h.reads;
  reports = λ s k n g found last silent.
      let own = g.cores k (Drone n) found in
      node_goes s k (Drone n) (Drone n) last g found (drone_moves s k n g found n.link n.core n.services (packets_in last) own.range refl own.roomy own.unstored own.services (subst (LinkGrows s n.link n.link) (sym (silent_none last silent)) (link_stays s n.link (g.links k (Drone n) found))))
      (silent_read last silent);
}

module _ (s : WorldState) (k : ℕ) (g : Steady s) where
  pub drone_serves_so : (n : DroneSide) → slice_get s.nodes k ≡ Some (Drone n) → (t : ServiceStep DroneServices) → Serves (SoundDroneServices (has_heard n.link) (node_of n.link.me)) t → Silent t.last
      → NodeDoes s k (as_node Drone (serves s.clock n.link n.core t))
  drone_serves_so n found t h silent =
      let own = g.cores k (Drone n) found in
      let next : DroneSide = record n { services = t.services } in
      let first = node_goes s k (Drone n) (Drone next) [] g found (drone_moves s k n g found n.link n.core t.services [] own.range refl own.roomy own.unstored h.services (link_stays s n.link (g.links k (Drone n) found))) tt in
      after_first s k (Drone next) (as_node Drone (serves s.clock n.link n.core t)) first
      (says_all Drone drone_role t.last silent t.answers h.answers (advanced s k (Drone next) []) k next first.steady first.there)

-- ---- a station

station_role : Role Station
station_role = record {
  link = λ s k n g found. g.links k (Station n) found;
  moves = λ s k n g found d h.
      let own = g.cores k (Station n) found in
      node_goes s k (Station n) (Station (record n { link = d.node })) d.events g found (station_moves s k n g found d.node n.core n.services (packets_in d.events) own.range refl own.told own.services h.link) h.reads;
  reports = λ s k n g found last silent.
      let own = g.cores k (Station n) found in
      node_goes s k (Station n) (Station n) last g found (station_moves s k n g found n.link n.core n.services (packets_in last) own.range refl own.told own.services (subst (LinkGrows s n.link n.link) (sym (silent_none last silent)) (link_stays s n.link (g.links k (Station n) found))))
      (silent_read last silent);
}

module _ (s : WorldState) (k : ℕ) (g : Steady s) where
  pub station_serves_so : (n : StationSide) → slice_get s.nodes k ≡ Some (Station n) → (t : ServiceStep StationServices) → Serves (SoundStationServices (node_of n.link.me)) t → Silent t.last
      → NodeDoes s k (as_node Station (serves s.clock n.link n.core t))
  station_serves_so n found t h silent =
      let own = g.cores k (Station n) found in
      let next : StationSide = record n { services = t.services } in
      let first = node_goes s k (Station n) (Station next) [] g found (station_moves s k n g found n.link n.core t.services [] own.range refl own.told h.services (link_stays s n.link (g.links k (Station n) found))) tt in
      after_first s k (Station next) (as_node Station (serves s.clock n.link n.core t)) first
      (says_all Station station_role t.last silent t.answers h.answers (advanced s k (Station next) []) k next first.steady first.there)
