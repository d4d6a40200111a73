-- What one node does: the steps of its core, and the frames that it hears.
use Rattle.std.proofs.Common.{◌≡◌, ℕ, List, [], ◌∷◌, ◌++◌, slice_get, slice_set, Some, None, refl, sym, ap, subst, append_assoc, ◌∙◌}
use Rattle.mav_nodes.specs.Nodes.{DroneSide, StationSide}
use Rattle.std.specs.Prelude.{IfSome}
use Rattle.std.proofs.lemmas.List.{append-nil}
use Rattle.mav_names.specs.declared.names.Stream.{Stream}
use Rattle.plan_upload.specs.Addresses.{node_of}
use Rattle.plan_upload.specs.Plans.{no_plans}
use Rattle.plan_upload.specs.Drone.{DroneState}
use Rattle.plan_upload.specs.Station.{StationState}
use Rattle.mav_frame.specs.Packet.{Packet}
use Rattle.mav_sign.specs.Signing.{Verifies}
use Rattle.mav_nodes.specs.LowBounds.{stored_low}
use Rattle.mav_nodes.specs.News.{NodeEvent, Sends, Installs, Empties, Drops, Ends, Ends_command, Gives_param, Ends_params, Reaches, Captures, Ends_file}
use Rattle.mav_nodes.specs.Links.{Link, Done, Outcome, done, after_events, and_then, tries}
use Rattle.mav_nodes.specs.Services.{DroneServices, StationServices}
use Rattle.mav_nodes.specs.Steps.{Side, CoreStep, answers, with_core, steps}
use Rattle.plan_ranges.specs.Ranges.{InRange, DroneInRange, StationInRange}
use Rattle.node_reports.specs.Nodes.{Node, Drone, Station}
use Rattle.fleet_world.specs.WorldState.{WorldState, named, names_of}
use Rattle.fleet_world.specs.Steps.{packets_in}
use Rattle.fleet_invariants.specs.Sound.{link_of, Roomy, has_heard}
use Rattle.fleet_invariants.specs.Kept.{IsAmong, AllRead, Kept}
use Rattle.fleet_invariants.proofs.Lists.{set_there, set_twice}
use Rattle.fleet_invariants.proofs.Growth.{kept_on}
use Rattle.fleet_invariants.proofs.Moves.{Steady, LinkGrows, Moves, moved, kept_moved, names_moved, steady_moved}
use Rattle.fleet_invariants.proofs.Rooms.{roomy_more}
use Rattle.fleet_invariants.specs.Services.{SoundDroneServices, SoundStationServices}
use Rattle.fleet_invariants.proofs.Services.{drone_services_more, station_services_same}
use Rattle.fleet_invariants.proofs.Links.{LinkDoes, link_tries, link_stays, link_answers}

-- ---- events

-- no frame is sent
abbrev pub Silent : List NodeEvent → Type 0
Silent [] = Unit {0}
Silent (Sends packet message ∷ es) = ⊥
Silent (Installs kind items by ∷ es) = Silent es
Silent (Empties kind ∷ es) = Silent es
Silent (Drops answer ∷ es) = Silent es
Silent (Ends told ∷ es) = Silent es
Silent (Ends_command result ∷ es) = Silent es
Silent (Gives_param param ∷ es) = Silent es
Silent (Ends_params values ∷ es) = Silent es
Silent (Reaches number ∷ es) = Silent es
Silent (Captures total ∷ es) = Silent es
Silent (Ends_file end ∷ es) = Silent es

pub packets_more : (es fs : List NodeEvent) → packets_in (es ++ fs) ≡ packets_in es ++ packets_in fs
packets_more [] fs = refl
packets_more (Sends packet message ∷ es) fs = ap (λ ps. packet ∷ ps) (packets_more es fs)
packets_more (Installs kind items by ∷ es) fs = packets_more es fs
packets_more (Empties kind ∷ es) fs = packets_more es fs
packets_more (Drops answer ∷ es) fs = packets_more es fs
packets_more (Ends told ∷ es) fs = packets_more es fs
packets_more (Ends_command result ∷ es) fs = packets_more es fs
packets_more (Gives_param param ∷ es) fs = packets_more es fs
packets_more (Ends_params values ∷ es) fs = packets_more es fs
packets_more (Reaches number ∷ es) fs = packets_more es fs
packets_more (Captures total ∷ es) fs = packets_more es fs
packets_more (Ends_file end ∷ es) fs = packets_more es fs

pub silent_none : (es : List NodeEvent) → Silent es → packets_in es ≡ []
silent_none [] h = refl
silent_none (Sends packet message ∷ es) h = absurd h
silent_none (Installs kind items by ∷ es) h = silent_none es h
silent_none (Empties kind ∷ es) h = silent_none es h
silent_none (Drops answer ∷ es) h = silent_none es h
silent_none (Ends told ∷ es) h = silent_none es h
silent_none (Ends_command result ∷ es) h = silent_none es h
silent_none (Gives_param param ∷ es) h = silent_none es h
silent_none (Ends_params values ∷ es) h = silent_none es h
silent_none (Reaches number ∷ es) h = silent_none es h
silent_none (Captures total ∷ es) h = silent_none es h
silent_none (Ends_file end ∷ es) h = silent_none es h

pub silent_read : (es : List NodeEvent) → Silent es → AllRead es
silent_read [] h = tt
silent_read (Sends packet message ∷ es) h = absurd h
silent_read (Installs kind items by ∷ es) h = (tt, silent_read es h)
silent_read (Empties kind ∷ es) h = (tt, silent_read es h)
silent_read (Drops answer ∷ es) h = (tt, silent_read es h)
silent_read (Ends told ∷ es) h = (tt, silent_read es h)
silent_read (Ends_command result ∷ es) h = (tt, silent_read es h)
silent_read (Gives_param param ∷ es) h = (tt, silent_read es h)
silent_read (Ends_params values ∷ es) h = (tt, silent_read es h)
silent_read (Reaches number ∷ es) h = (tt, silent_read es h)
silent_read (Captures total ∷ es) h = (tt, silent_read es h)
silent_read (Ends_file end ∷ es) h = (tt, silent_read es h)

pub all_read : (es fs : List NodeEvent) → AllRead es → AllRead fs → AllRead (es ++ fs)
all_read [] fs h k = k
all_read (e ∷ es) fs h k = (h.0, all_read es fs h.1 k)

between : (first es last : List NodeEvent) → Silent first → Silent last → packets_in (first ++ (es ++ last)) ≡ packets_in es
between first es last h k =
    packets_more first (es ++ last) ∙ ap (λ ps. ps ++ packets_in (es ++ last)) (silent_none first h) ∙ packets_more es last ∙ ap (λ ps. packets_in es ++ ps) (silent_none last k) ∙ append-nil (packets_in es)

-- ---- the state after what a node did

abbrev pub advanced : WorldState → ℕ → Node → List NodeEvent → WorldState
advanced s k b events = moved s k b (packets_in events)

abbrev state_with : WorldState → List Node → List Packet → WorldState
state_with s nodes sent = record s { nodes = nodes; sent = sent }

pub advanced_on : (s : WorldState) (k : ℕ) (b c : Node) (es fs : List NodeEvent) → advanced (advanced s k b es) k c fs ≡ advanced s k c (es ++ fs)
advanced_on s k b c es fs =
    ap (λ nodes. state_with s nodes ((s.sent ++ packets_in es) ++ packets_in fs)) (set_twice s.nodes k b c) ∙ ap (state_with s (slice_set s.nodes k c)) (append_assoc s.sent (packets_in es) (packets_in fs) ∙ ap (λ ps. s.sent ++ ps) (sym (packets_more es fs)))

-- ---- outcomes

pub record NodeGoes (s : WorldState) (k : ℕ) (d : Done Node) : Type 0 where
  pub steady : Steady (advanced s k d.node d.events)
  pub kept : Kept s (advanced s k d.node d.events)
  pub names : names_of (slice_set s.nodes k d.node) ≡ names_of s.nodes
  pub there : slice_get (slice_set s.nodes k d.node) k ≡ Some d.node
  pub reads : AllRead d.events

abbrev pub NodeDoes : WorldState → ℕ → Outcome Node → Type 0
NodeDoes s k None = Unit {0}
NodeDoes s k (Some d) = NodeGoes s k d

pub node_goes : (s : WorldState) (k : ℕ) (a b : Node) (events : List NodeEvent) → Steady s → slice_get s.nodes k ≡ Some a → Moves s a b (packets_in events) → AllRead events → NodeGoes s k (record { node = b; events = events })
node_goes s k a b events g found m reads = record {
  steady = steady_moved s k a b (packets_in events) found m g;
  kept = kept_moved s k a b (packets_in events) found m;
  names = names_moved s k a b (packets_in events) found m;
  there = set_there s.nodes k a b found;
  reads = reads;
}

-- after what was done before
pub goes_on : (s : WorldState) (k : ℕ) (d e : Done Node) → NodeGoes s k d → NodeGoes (advanced s k d.node d.events) k e → NodeGoes s k (record { node = e.node; events = d.events ++ e.events })
goes_on s k d e h i =
    let same = advanced_on s k d.node e.node d.events e.events in
    record {
      steady = subst Steady same i.steady;
      kept = subst (Kept s) same (kept_on s (advanced s k d.node d.events) (advanced (advanced s k d.node d.events) k e.node e.events) h.kept i.kept);
      names = sym (ap names_of (set_twice s.nodes k d.node e.node)) ∙ i.names ∙ h.names;
      there = sym (ap (λ (ns : List Node). slice_get ns k) (set_twice s.nodes k d.node e.node)) ∙ i.there;
      reads = all_read d.events e.events h.reads i.reads;
    }

-- ---- a core's step

-- a node of either role, as an outcome
abbrev pub as_node : {Core Services : Type 0} → (Side Core Services → Node) → Outcome (Side Core Services) → Outcome Node
as_node wrap None = None
as_node wrap (Some d) = done (wrap d.node) d.events

module _ (s : WorldState) (k : ℕ) (n : DroneSide) (g : Steady s) (found : slice_get s.nodes k ≡ Some (Drone n)) where
  -- a core without plans, if nothing is stored
  abbrev Unstored : DroneState → Type 0
  Unstored core = stored_low n.link.history ≡ None → core.plans ≡ no_plans

  pub drone_moves : (link : Link) (core : DroneState) (services : DroneServices) (packets : List Packet) → DroneInRange core → core.sys ≡ n.core.sys → Roomy (has_heard n.link) core → Unstored core → SoundDroneServices (has_heard n.link) (node_of n.link.me) services
      → LinkGrows s n.link link packets → Moves s (Drone n) (Drone (record { link = link; core = core; services = services })) packets
  drone_moves link core services packets range same room unstored served m =
      let own = g.cores k (Drone n) found in
      record {
        named_is = ap (λ (me : Stream). named (Drone (record { link = record link { me = me }; core = core; services = services }))) m.moves.me;
        link = m.moves;
        core = record {
          range = range;
          sys = same ∙ own.sys ∙ ap (λ (me : Stream). me.sys) (sym m.moves.me);
          comp = ap (λ (me : Stream). me.comp) m.moves.me ∙ own.comp;
          roomy = roomy_more (has_heard n.link) (has_heard link) m.heard core room;
          unstored = λ none. unstored (m.unstored none);
          services = drone_services_more (has_heard n.link) (has_heard link) m.heard (node_of n.link.me) (node_of link.me) (ap node_of (sym m.moves.me)) services served;
        };
      }

  pub drone_done : (services : DroneServices) → SoundDroneServices (has_heard n.link) (node_of n.link.me) services → (step : CoreStep DroneState) → Silent step.first → Silent step.last → DroneInRange step.core → step.core.sys ≡ n.core.sys → Roomy (has_heard n.link) step.core → Unstored step.core
      → (o : Outcome Link) → LinkDoes s n.link o → NodeDoes s k (as_node Drone (after_events step.first (with_core step.core services step.last o)))
  drone_done services served step h l range same room unstored None m = tt
  drone_done services served step h l range same room unstored (Some d) m =
      let all : List NodeEvent = step.first ++ (d.events ++ step.last) in
      let sends = between step.first d.events step.last h l in
      node_goes s k (Drone n) (Drone (record { link = d.node; core = step.core; services = services })) all g found
      (drone_moves d.node step.core services (packets_in all) range same room unstored served (subst (LinkGrows s n.link d.node) (sym sends) m.link))
      (all_read step.first (d.events ++ step.last) (silent_read step.first h) (all_read d.events step.last m.reads (silent_read step.last l)))

  pub drone_steps : (services : DroneServices) → SoundDroneServices (has_heard n.link) (node_of n.link.me) services → (step : CoreStep DroneState) → Silent step.first → Silent step.last → DroneInRange step.core → step.core.sys ≡ n.core.sys → Roomy (has_heard n.link) step.core → Unstored step.core → IfSome step.answer InRange → NodeDoes s k (as_node Drone (steps s.clock n.link services step))
  drone_steps services served step h l range same room unstored says =
      drone_done services served step h l range same room unstored (answers s.clock step.answer n.link) (link_answers s n.link (g.links k (Drone n) found) step.answer says)

  pub drone_tries : (packet : Packet) → (Verifies s.key packet packet.block → IsAmong s.sent packet) → NodeGoes s k (record { node = Drone (record n { link = tries packet n.link }); events = [] })
  drone_tries packet known =
      let own = g.cores k (Drone n) found in
      node_goes s k (Drone n) (Drone (record n { link = tries packet n.link })) [] g found
      (drone_moves (tries packet n.link) n.core n.services [] own.range refl own.roomy own.unstored own.services (link_tries s g n.link (g.links k (Drone n) found) packet known)) tt

module _ (s : WorldState) (k : ℕ) (n : StationSide) (g : Steady s) (found : slice_get s.nodes k ≡ Some (Station n)) where
  pub station_moves : (link : Link) (core : StationState) (services : StationServices) (packets : List Packet) → StationInRange core → core.me ≡ n.core.me → core.outcome ≡ None → SoundStationServices (node_of n.link.me) services
      → LinkGrows s n.link link packets → Moves s (Station n) (Station (record { link = link; core = core; services = services })) packets
  station_moves link core services packets range same told served m =
      let own = g.cores k (Station n) found in
      record {
        named_is = ap (λ (me : Stream). named (Station (record { link = record link { me = me }; core = core; services = services }))) m.moves.me;
        link = m.moves;
        core = record {
          range = range;
          me = same ∙ own.me ∙ ap node_of (sym m.moves.me);
          told = told;
          low = m.low ∙ own.low;
          services = station_services_same (node_of n.link.me) (node_of link.me) services (ap node_of (sym m.moves.me)) served;
        };
      }

  pub station_done : (step : CoreStep StationState) → Silent step.first → Silent step.last → StationInRange step.core → step.core.me ≡ n.core.me → step.core.outcome ≡ None
      → (o : Outcome Link) → LinkDoes s n.link o → NodeDoes s k (as_node Station (after_events step.first (with_core step.core n.services step.last o)))
  station_done step h l range same told None m = tt
  station_done step h l range same told (Some d) m =
      let all : List NodeEvent = step.first ++ (d.events ++ step.last) in
      let sends = between step.first d.events step.last h l in
      node_goes s k (Station n) (Station (record { link = d.node; core = step.core; services = n.services })) all g found
      (station_moves d.node step.core n.services (packets_in all) range same told (g.cores k (Station n) found).services (subst (LinkGrows s n.link d.node) (sym sends) m.link))
      (all_read step.first (d.events ++ step.last) (silent_read step.first h) (all_read d.events step.last m.reads (silent_read step.last l)))

  pub station_steps : (step : CoreStep StationState) → Silent step.first → Silent step.last → StationInRange step.core → step.core.me ≡ n.core.me → step.core.outcome ≡ None → IfSome step.answer InRange → NodeDoes s k (as_node Station (steps s.clock n.link n.services step))
  station_steps step h l range same told says =
      station_done step h l range same told (answers s.clock step.answer n.link) (link_answers s n.link (g.links k (Station n) found) step.answer says)

  pub station_tries : (packet : Packet) → (Verifies s.key packet packet.block → IsAmong s.sent packet) → NodeGoes s k (record { node = Station (record n { link = tries packet n.link }); events = [] })
  station_tries packet known =
      let own = g.cores k (Station n) found in
      node_goes s k (Station n) (Station (record n { link = tries packet n.link })) [] g found
      (station_moves (tries packet n.link) n.core n.services [] own.range refl own.told own.services (link_tries s g n.link (g.links k (Station n) found) packet known)) tt

-- ---- one thing and then another

pub after_first : (s : WorldState) (k : ℕ) (n1 : Node) (o : Outcome Node) → NodeGoes s k (record { node = n1; events = [] }) → NodeDoes (advanced s k n1 []) k o → NodeDoes s k o
after_first s k n1 None first then_ = tt
after_first s k n1 (Some d) first then_ = goes_on s k (record { node = n1; events = [] }) d first then_

pub then_behind : {Core Services : Type 0} (wrap : Side Core Services → Node) (s : WorldState) (k : ℕ) (d : Done (Side Core Services)) (o : Outcome (Side Core Services)) → NodeGoes s k (record { node = wrap d.node; events = d.events })
    → NodeDoes (advanced s k (wrap d.node) d.events) k (as_node wrap o) → NodeDoes s k (as_node wrap (after_events d.events o))
then_behind wrap s k d None first next = tt
then_behind wrap s k d (Some e) first next =
    goes_on s k (record { node = wrap d.node; events = d.events }) (record { node = wrap e.node; events = e.events }) first next

pub then_next : {Core Services : Type 0} (wrap : Side Core Services → Node) (s : WorldState) (k : ℕ) (o : Outcome (Side Core Services)) (next : Side Core Services → Outcome (Side Core Services)) → NodeDoes s k (as_node wrap o)
    → ((d : Done (Side Core Services)) → NodeGoes s k (record { node = wrap d.node; events = d.events }) → NodeDoes (advanced s k (wrap d.node) d.events) k (as_node wrap (next d.node)))
    → NodeDoes s k (as_node wrap (and_then o next))
then_next wrap s k None next first each = tt
then_next wrap s k (Some d) next first each = then_behind wrap s k d (next d.node) first (each d first)

pub rests : (s : WorldState) (k : ℕ) (a : Node) → Steady s → slice_get s.nodes k ≡ Some a → NodeGoes s k (record { node = a; events = [] })
rests s k a g found =
    node_goes s k a a [] g found (record { named_is = refl; link = (link_stays s (link_of a) (g.links k a found)).moves; core = g.cores k a found }) tt
