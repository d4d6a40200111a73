-- The frames of a datagram, one after another, at one node.
use Rattle.std.proofs.Common.{false, ◌≡◌, ℕ, suc, List, [], ◌∷◌, ◌++◌, length, slice_get, slice_set, Some, None, refl, sym, ap, subst, ◌∙◌, length-append}
use Rattle.std.proofs.lemmas.List.{append_assoc, append-nil}
use Rattle.plan_safety.specs.World as world
use Rattle.plan_safety.specs.World.{Nodes, Distinct, World, Drone_waits, Station_waits}
use Rattle.plan_safety.specs.History.{final}
use Rattle.mav_frame.specs.Packet.{Packet}
use Rattle.mav_frame.specs.FinalParse.{final_parse}
use Rattle.mav_sign.specs.Signing.{Verifies}
use Rattle.mav_sign.specs.Endpoints.{frames_of}
use Rattle.mav_nodes.specs.News.{NodeEvent}
use Rattle.mav_nodes.specs.Links.{Done, Outcome, done}
use Rattle.mav_nodes.specs.Links as links
use Rattle.mav_nodes.specs.Steps.{hears, hears_all}
use Rattle.mav_nodes.specs.Nodes.{DroneSide, StationSide, drone_rules, station_rules}
use Rattle.node_reports.specs.Nodes.{Node, Drone, Station, node_name}
use Rattle.node_reports.specs.Calls.{as_drone, as_station, node_receives}
use Rattle.node_reports.specs.Reporting.{reported_by}
use Rattle.fleet_world.specs.WorldState.{WorldState}
use Rattle.fleet_world.specs.Steps.{packets_in}
use Rattle.fleet_invariants.specs.Sound.{link_of}
use Rattle.fleet_invariants.specs.Kept.{AllRead}
use Rattle.fleet_safety.specs.Actions.{Action, Order, spoken, spoken_in, node_hears, state_with, hearing, hears_then, frames_heard}
use Rattle.fleet_safety.specs.Safe.{events_of, report_of}
use Rattle.fleet_safety.proofs.Lists.{set_there, set_twice, set_same}
use Rattle.fleet_safety.proofs.Frames.{IsFirst, first_more}
use Rattle.fleet_safety.proofs.Names.{same_role, role_name, role_on}
use Rattle.fleet_safety.proofs.Reports.{final_on, reported_by_on, packets_on}
use Rattle.fleet_safety.proofs.Follows.{Follows}
use Rattle.fleet_safety.proofs.Sendings.{read_first, read_second}
use Rattle.fleet_safety.proofs.Spoken.{said}
use Rattle.fleet_safety.proofs.Fits.{Fits, Alike, Led, Leads}
use Rattle.fleet_safety.proofs.Drones as drones
use Rattle.fleet_safety.proofs.Stations as stations

-- an outcome of a station as one of a node
pub station_outcome : (n : Nodes) (clock : ℕ) (nodes : List Node) (sent : List Packet) (w : World) (k : ℕ) (a : Node) (o : Outcome StationSide) (es : List world.Event) (os : List Order) → Leads n clock nodes sent w k a Station o es os → Leads n clock nodes sent w k a (λ x. x) (as_station o) es os
station_outcome n clock nodes sent w k a None es os h = tt
station_outcome n clock nodes sent w k a (Some d) es os h = h

-- and what is said in it
pub drone_saying : (n : Nodes) (clock : ℕ) (nodes : List Node) (sent : List Packet) (w : World) (k : ℕ) (a : DroneSide) (o : Outcome DroneSide) (es : List world.Event) (os : List Order) → Leads n clock nodes sent w k (Drone a) Drone o (es ++ said (Drone_waits a.link.me) a.link.me o) os
    → Leads n clock nodes sent w k (Drone a) (λ x. x) (as_drone o) (es ++ spoken_in (Drone a) (as_drone o)) os
drone_saying n clock nodes sent w k a None es os h = tt
drone_saying n clock nodes sent w k a (Some d) es os h = h

pub station_saying : (n : Nodes) (clock : ℕ) (nodes : List Node) (sent : List Packet) (w : World) (k : ℕ) (a : StationSide) (o : Outcome StationSide) (es : List world.Event) (os : List Order) → Leads n clock nodes sent w k (Station a) Station o (es ++ said (Station_waits a.link.me) a.link.me o) os
    → Leads n clock nodes sent w k (Station a) (λ x. x) (as_station o) (es ++ spoken_in (Station a) (as_station o)) os
station_saying n clock nodes sent w k a None es os h = tt
station_saying n clock nodes sent w k a (Some d) es os h = h

-- each frame that verifies was sent
abbrev pub EachKnown : List ℕ → List Packet → List Packet → Type 0
EachKnown key sent [] = Unit {0}
EachKnown key sent (p ∷ ps) = (Verifies key p p.block → IsFirst sent p) × EachKnown key sent ps

known_more : (key : List ℕ) (sent more ps : List Packet) → EachKnown key sent ps → EachKnown key (sent ++ more) ps
known_more key sent more [] h = tt
known_more key sent more (p ∷ ps) h = ((λ v. first_more sent more p (h.0 v)), known_more key sent more ps h.1)

pub each_known : (key : List ℕ) (sent ps : List Packet) → ((index : ℕ) (p : Packet) → slice_get ps index ≡ Some p → Verifies key p p.block → IsFirst sent p) → EachKnown key sent ps
each_known key sent [] h = tt
each_known key sent (p ∷ ps) h = (h 0 p refl, each_known key sent ps (λ i q e. h (suc i) q e))

-- ---- a datagram is its frames, one by one

abbrev pub node_hears_all : ℕ → List Packet → Node → Outcome Node
node_hears_all clock [] a = done a []
node_hears_all clock (p ∷ ps) a = links.and_then (node_hears clock p a) (node_hears_all clock ps)

drone_then : (o : Outcome DroneSide) (next : DroneSide → Outcome DroneSide) (after : Node → Outcome Node) → ((b : DroneSide) → as_drone (next b) ≡ after (Drone b)) → as_drone (links.and_then o next) ≡ links.and_then (as_drone o) after
drone_then None next after same = refl
drone_then (Some d) next after same = behind_is (next d.node) ∙ ap (links.after_events d.events) (same d.node)
  where
    behind_is : (o : Outcome DroneSide) → as_drone (links.after_events d.events o) ≡ links.after_events d.events (as_drone o)
    behind_is None = refl
    behind_is (Some e) = refl

station_then : (o : Outcome StationSide) (next : StationSide → Outcome StationSide) (after : Node → Outcome Node) → ((b : StationSide) → as_station (next b) ≡ after (Station b)) → as_station (links.and_then o next) ≡ links.and_then (as_station o) after
station_then None next after same = refl
station_then (Some d) next after same = behind_is (next d.node) ∙ ap (links.after_events d.events) (same d.node)
  where
    behind_is : (o : Outcome StationSide) → as_station (links.after_events d.events o) ≡ links.after_events d.events (as_station o)
    behind_is None = refl
    behind_is (Some e) = refl

drone_all : (clock : ℕ) (ps : List Packet) (a : DroneSide) → as_drone (hears_all drone_rules clock ps a) ≡ node_hears_all clock ps (Drone a)
drone_all clock [] a = refl
drone_all clock (p ∷ ps) a = drone_then (hears drone_rules clock p a) (hears_all drone_rules clock ps) (node_hears_all clock ps) (drone_all clock ps)

station_all : (clock : ℕ) (ps : List Packet) (a : StationSide) → as_station (hears_all station_rules clock ps a) ≡ node_hears_all clock ps (Station a)
station_all clock [] a = refl
station_all clock (p ∷ ps) a = station_then (hears station_rules clock p a) (hears_all station_rules clock ps) (node_hears_all clock ps) (station_all clock ps)

pub receives_is : (clock : ℕ) (bytes : List ℕ) (a : Node) → node_receives clock bytes a ≡ node_hears_all clock (frames_of (final_parse (link_of a).extras false bytes)) a
receives_is clock bytes (Drone a) = drone_all clock (frames_of (final_parse a.link.extras false bytes)) a
receives_is clock bytes (Station a) = station_all clock (frames_of (final_parse a.link.extras false bytes)) a

-- ---- what frames lead to

-- the node at index `k` has done this in these actions
pub record HeardAll (n : Nodes) (s : WorldState) (w : World) (k : ℕ) (a : Node) (actions : List Action) (d : Done Node) : Type 0 where
  pub follows : Follows n w actions
  pub report : report_of actions ≡ reported_by (node_name a) (length s.sent) d.events
  pub alike : Alike a d.node
  pub fits : Fits n s.clock (slice_set s.nodes k d.node) (s.sent ++ packets_in d.events) (final n w (events_of actions))

abbrev pub HearsAll : Nodes → WorldState → World → ℕ → Node → List Action → Outcome Node → Type 0
HearsAll n s w k a actions None = Unit {0}
HearsAll n s w k a actions (Some d) = AllRead d.events → HeardAll n s w k a actions d

module _ (number : ℕ) (n : Nodes) (distinct : Distinct n) (k : ℕ) where
  -- a frame, and what is said in reply
  abbrev heard : ℕ → List Packet → Node → Packet → List NodeEvent → List world.Event
  heard clock sent a p es = hearing clock sent a p ++ spoken a es

  abbrev heard_in : ℕ → List Packet → Node → Packet → Outcome Node → List world.Event
  heard_in clock sent a p o = hearing clock sent a p ++ spoken_in a o

  -- one frame
  frame_leads : (clock : ℕ) (nodes : List Node) (sent : List Packet) (w : World) → Fits n clock nodes sent w → (a : Node) → slice_get nodes k ≡ Some a → (p : Packet) → (Verifies (link_of a).key p p.block → IsFirst sent p) → Leads n clock nodes sent w k a (λ x. x) (node_hears clock p a) (heard_in clock sent a p (node_hears clock p a)) []
  frame_leads clock nodes sent w fits (Drone a) there p known =
      drone_saying n clock nodes sent w k a (hears drone_rules clock p a) (hearing clock sent (Drone a) p) [] (drones.frame_leads n distinct clock nodes sent w fits k a there p known)
  frame_leads clock nodes sent w fits (Station a) there p known =
      station_saying n clock nodes sent w k a (hears station_rules clock p a) (hearing clock sent (Station a) p) [] (stations.frame_leads n distinct clock nodes sent w fits k a there p known)

  -- nothing
  no_frame : (s : WorldState) (w : World) (a : Node) → Fits n s.clock s.nodes s.sent w → slice_get s.nodes k ≡ Some a → HeardAll n s w k a [] (record { node = a; events = [] })
  no_frame s w a fits there = record {
    follows = tt;
    report = refl;
    alike = record { role = same_role a; key = refl };
    fits = subst (λ ns. Fits n s.clock ns (s.sent ++ []) w) (sym (set_same s.nodes k a there)) (subst (λ ps. Fits n s.clock s.nodes ps w) (sym (append-nil s.sent)) fits);
  }

  -- one frame and then others
  module _ (s : WorldState) (w : World) (a : Node) (p : Packet) (d : Done Node) (first : Led n s.clock s.nodes s.sent w k a d (heard s.clock s.sent a p d.events) []) (actions : List Action) (e : Done Node) (second : HeardAll n (state_with s k d) (final n w (heard s.clock s.sent a p d.events)) k d.node actions e) where
    abbrev action : Action
    action = record { number = number; events = heard s.clock s.sent a p d.events; orders = []; report = reported_by (node_name a) (length s.sent) d.events; state = state_with s k d }

    join : HeardAll n s w k a (action ∷ actions) (record { node = e.node; events = d.events ++ e.events })
    join = record {
      follows = (record { report = first.report; own = first.own; drones = λ index b there. (first.fits.stands index (Drone b) there).0 }, second.follows);
      report =
          ap (λ es. reported_by (node_name a) (length s.sent) d.events ++ es)
          (second.report
          ∙ ap (λ name. reported_by name (length (s.sent ++ packets_in d.events)) e.events) (sym (role_name a d.node first.alike.role))
          ∙ ap (λ m. reported_by (node_name a) m e.events) (length-append s.sent (packets_in d.events)))
          ∙ sym (reported_by_on (node_name a) (length s.sent) d.events e.events);
      alike = record { role = role_on a d.node e.node first.alike.role second.alike.role; key = first.alike.key ∙ second.alike.key };
      fits =
          subst (λ ns. Fits n s.clock ns (s.sent ++ packets_in (d.events ++ e.events)) (final n w (events_of (action ∷ actions)))) (set_twice s.nodes k d.node e.node)
          (subst (λ ps. Fits n s.clock (slice_set (slice_set s.nodes k d.node) k e.node) ps (final n w (events_of (action ∷ actions)))) (append_assoc s.sent (packets_in d.events) (packets_in e.events) ∙ ap (λ ps. s.sent ++ ps) (sym (packets_on d.events e.events)))
          (subst (Fits n s.clock (slice_set (slice_set s.nodes k d.node) k e.node) ((s.sent ++ packets_in d.events) ++ packets_in e.events)) (sym (final_on n w (heard s.clock s.sent a p d.events) (events_of actions))) second.fits));
    }

  -- what the first frame leads to, and then the others
  then_hear : (s : WorldState) (w : World) (a : Node) (p : Packet) (o : Outcome Node) (next : WorldState → Node → List Action) (after : Node → Outcome Node) → Leads n s.clock s.nodes s.sent w k a (λ x. x) o (heard_in s.clock s.sent a p o) []
      → ((d : Done Node) → Led n s.clock s.nodes s.sent w k a d (heard s.clock s.sent a p d.events) [] → HearsAll n (state_with s k d) (final n w (heard s.clock s.sent a p d.events)) k d.node (next (state_with s k d) d.node) (after d.node))
      → HearsAll n s w k a (hears_then number s k a p o next) (links.and_then o after)
  then_hear s w a p None next after l m = tt
  then_hear s w a p (Some d) next after l m = behind_hears (after d.node) refl
    where
      behind_hears : (o : Outcome Node) → after d.node ≡ o → HearsAll n s w k a (hears_then number s k a p (Some d) next) (links.after_events d.events o)
      behind_hears None is = tt
      behind_hears (Some e) is = λ reads.
          let first : Led n s.clock s.nodes s.sent w k a d (heard s.clock s.sent a p d.events) [] = l (read_first d.events e.events reads) in
          join s w a p d first (next (state_with s k d) d.node) e
          (subst (HearsAll n (state_with s k d) (final n w (heard s.clock s.sent a p d.events)) k d.node (next (state_with s k d) d.node)) is (m d first) (read_second d.events e.events reads))

  pub frames_hear : (ps : List Packet) (s : WorldState) (w : World) (a : Node) → Fits n s.clock s.nodes s.sent w → slice_get s.nodes k ≡ Some a → EachKnown (link_of a).key s.sent ps → HearsAll n s w k a (frames_heard number k ps s a) (node_hears_all s.clock ps a)
  frames_hear [] s w a fits there known = λ _. no_frame s w a fits there
  frames_hear (p ∷ ps) s w a fits there known =
      then_hear s w a p (node_hears s.clock p a) (frames_heard number k ps) (node_hears_all s.clock ps) (frame_leads s.clock s.nodes s.sent w fits a there p known.0)
      (λ d first. frames_hear ps (state_with s k d) (final n w (heard s.clock s.sent a p d.events)) d.node first.fits
      (set_there s.nodes k a d.node there)
      (subst (λ key. EachKnown key (s.sent ++ packets_in d.events) ps) first.alike.key (known_more (link_of a).key s.sent (packets_in d.events) ps known.1)))
