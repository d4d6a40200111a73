-- What other nodes, and a drone's late reply, do beside the message that is on its way: it stays so.
use Rattle.std.proofs.Common.{◌≡◌, ◌≢◌, ◌∙◌, ℕ, zero, suc, ◌+◌, ◌<◌, ◌≤◌, ◌⊎◌, inl, inr, Bool, true, false, List, [], ◌∷◌, length, slice_get, slice_set, Option, Some, None, refl, sym, ap, subst, arith, length-append}
use Rattle.std.specs.Prelude.{IfOk}
use Rattle.mav_names.specs.declared.names.Name.{Name}
use Rattle.mav_names.specs.declared.names.Stream.{Stream}
use Rattle.plan_items.specs.declared.items.Item.{Item}
use Rattle.plan_items.specs.declared.kinds.PlanKind.{PlanKind}
use Rattle.plan_items.specs.declared.messages.PlanMsg.{PlanMsg}
use Rattle.plan_items.specs.Kinds.{number_of}
use Rattle.plan_items.specs.Validation.{IsValid}
use Rattle.plan_upload.specs.Addresses.{node_of}
use Rattle.plan_upload.specs.Changes.{change_by}
use Rattle.plan_upload.specs.Drone.{DroneState, DroneStep, rests, drone_step}
use Rattle.plan_upload.specs.Station.{StationState, Told, stays, station_step, untold}
use Rattle.mav_frame.specs.Packet.{Packet}
use Rattle.mav_frame.specs.Encoding.{encoding}
use Rattle.mav_sign.specs.History.{answer_to, last_of, low_of, previous_in}
use Rattle.mav_nodes.specs.Links.{Link, tries}
use Rattle.mav_nodes.specs.Nodes.{DroneSide, StationSide, drone_core, drone_rules, station_rules, change_events, station_does, told_events}
use Rattle.mav_nodes.specs.Steps.{CoreStep}
use Rattle.fleet_report.specs.Events.{Event}
use Rattle.node_reports.specs.Nodes.{Node, Drone, Station}
use Rattle.node_reports.specs.Calls.{node_receives}
use Rattle.fleet_world.specs.WorldState.{WorldState, stream_of, names_of}
use Rattle.fleet_world.specs.Steps.{Step, packets_in, node_does}
use Rattle.fleet_invariants.specs.Sound.{Holds, Sound}
use Rattle.fleet_invariants.proofs.Lists.{set_there, set_elsewhere, more_there, in_either, some_is, nowhere, IsAt}
use Rattle.fleet_invariants.proofs.Histories.{Leaves, Nothing, Stamp, leaves, trying_previous}
use Rattle.fleet_liveness.proofs.Hearing.{Carries}
use Rattle.fleet_liveness.proofs.States.{IsAbove, low_tried, same_place}
use Rattle.fleet_liveness.proofs.Steps.{Moves, moved, weaker}
use Rattle.fleet_liveness.proofs.Given.{drones, stations, Still, still}
use Rattle.fleet_liveness.proofs.Stages.{Stage, is_up, DroneIs, StationIs, station_untold}
use Rattle.fleet_liveness.proofs.Waits.{IsAside, Waits, sender, listener}

-- a frame of another node leaves the last timestamp of a name unchanged
pub last_kept : (key : List ℕ) (link : Link) (q : Packet) (name : Name) → name ≢ q.from → (l : ℕ) → last_of (stream_of name) (tries q link).history ≡ Some l → last_of (stream_of name) link.history ≡ Some l
last_kept key link q name ne l e = by_leaves (leaves link.history q (answer_to link.key link.history q) q.block refl)
  where
    by_leaves : Leaves link.history (tries q link).history q (answer_to link.key link.history q) → last_of (stream_of name) link.history ≡ Some l
    by_leaves (Nothing none _) = sym (none.lasts (stream_of name)) ∙ e
    by_leaves (Stamp block admitted signed h accepted _) = elim (h (stream_of name) l e) [
      | inl old ↦ old
      | inr new ↦ absurd (ne (ap node_of new.0))
    ]

pub no_frames_reported : (told : Option Told) → packets_in (told_events told) ≡ []
no_frames_reported None = refl
no_frames_reported (Some told) = refl

-- one that isn't at the first index
pub no_packet : (q : Packet) → IsAt [] q → ⊥
no_packet q at = nowhere at.index q at.found

pub only_packet : (p q : Packet) → IsAt (p ∷ []) q → p ≡ q
only_packet p q at = first at.index at.found
  where
    first : (k : ℕ) → slice_get (p ∷ []) k ≡ Some q → p ≡ q
    first zero e = some_is e
    first (suc k) e = absurd (nowhere k q e)

-- what a drone's core does if its step rests, and if it answers
pub drone_core_rests : (d : DroneState) (from : Stream) (m : PlanMsg) (r : DroneStep) → drone_step true d from m ≡ r → drone_core d from m ≡ record { core = r.drone; first = change_events from r.drone.plans (change_by r.event); answer = r.answer; last = [] }
drone_core_rests d from m r e = ap (λ (r : DroneStep). record { core = r.drone; first = change_events from r.drone.plans (change_by r.event); answer = r.answer; last = [] }) e

module _ (sys : ℕ) (me : Name) (kind : PlanKind) (plan : List Item) (valid : IsValid (number_of kind) plan) (dp sp : ℕ) where
  abbrev IsWaiting : WorldState → ℕ → Stage plan → Type 0
  IsWaiting = Waits sys me kind plan valid dp sp

  abbrev Aside : List ℕ → Packet → Type 0
  Aside = IsAside sys me kind plan valid dp sp

  abbrev sends_it : Bool → Name
  sends_it = sender sys me kind plan valid dp sp

  abbrev hears_it : Bool → Link → Link → Link
  hears_it = listener sys me kind plan valid dp sp

  -- the message is still on its way, with at most so many frames more
  pub record Near (s : WorldState) (extra r : ℕ) (p : Stage plan) (t : Step) : Type 0 where
    pub waits : IsWaiting t.state r p
    pub given : t.state.given ≡ s.given
    pub names : names_of t.state.nodes ≡ names_of s.nodes
    pub sent : length t.state.sent ≤ length s.sent + extra
    pub there : (i : ℕ) (q : Packet) → slice_get s.sent i ≡ Some q → slice_get t.state.sent i ≡ Some q
    pub key : t.state.key ≡ s.key

  pub near_same : (s : WorldState) (r : ℕ) (p : Stage plan) (events : List Event) → IsWaiting s r p → Near s 0 r p (record { state = s; events = events })
  near_same s r p events w = record { waits = w; given = refl; names = refl; sent = omega arith; there = λ i q e. e; key = refl }

  pub near_more : (s : WorldState) (a b r : ℕ) (p : Stage plan) (t : Step) → a ≤ b → Near s a r p t → Near s b r p t
  near_more s a b r p t le n = let z = n.sent in record { waits = n.waits; given = n.given; names = n.names; sent = omega arith; there = n.there; key = n.key }

  module _ (s : WorldState) (r : ℕ) (p : Stage plan) (w : IsWaiting s r p) where
    pub apart_indices : dp ≢ sp
    apart_indices e = differ (same_place s.nodes dp sp _ _ w.drone_there w.station_there e)
      where
        differ : Drone w.drone ≡ Station w.station → ⊥
        differ e = absurd (cc)

    abbrev pub drone_holds : Holds s.nodes (sends_it false)
    drone_holds = record { index = dp; node = Drone w.drone; found = w.drone_there; name_is = w.drone_named }

    abbrev pub station_holds : Holds s.nodes me
    station_holds = record { index = sp; node = Station w.station; found = w.station_there; name_is = w.station_named }

    -- the low bounds of the two stay
    above_up : (b : Bool) (d t : Link) → low_of d.history ≡ low_of w.drone.link.history → low_of t.history ≡ low_of w.station.link.history
        → IsAbove (hears_it b w.drone.link w.station.link).history w.flies.stamp → IsAbove (hears_it b d t).history w.flies.stamp
    above_up true d t h k old low e = old low (sym h ∙ e)
    above_up false d t h k old low e = old low (sym k ∙ e)

    -- with these nodes and frames
    goes_on : (j : ℕ) (b : Node) (packets : List Packet) → Sound (moved s j b packets)
        → (d : DroneSide) → slice_get (slice_set s.nodes j b) dp ≡ Some (Drone d) → d.link.me ≡ w.drone.link.me → d.core ≡ w.drone.core
        → (t : StationSide) → slice_get (slice_set s.nodes j b) sp ≡ Some (Station t) → t.link.me ≡ w.station.link.me → StationIs sys me kind plan valid p t.core
        → low_of d.link.history ≡ low_of w.drone.link.history → low_of t.link.history ≡ low_of w.station.link.history → previous_in t.link.history ≡ previous_in w.station.link.history
        → ((l : ℕ) → last_of (stream_of (sends_it (is_up p))) (hears_it (is_up p) d.link t.link).history ≡ Some l → l < w.flies.stamp)
        → ((q : Packet) → IsAt packets q → Aside s.key q) → IsWaiting (moved s j b packets) r p
    goes_on j b packets sound d d_there d_me d_core t t_there t_me t_is d_low t_low previous fresh new = record {
      sound = sound;
      drone = d;
      drone_there = d_there;
      drone_named = ap node_of d_me ∙ w.drone_named;
      station = t;
      station_there = t_there;
      station_named = ap node_of t_me ∙ w.station_named;
      drone_is = subst (DroneIs sys me kind plan valid p) (sym d_core) w.drone_is;
      station_is = t_is;
      above = λ low e. subst (λ n. low < n) (sym previous) (w.above low (sym d_low ∙ e));
      flies = record {
        frame = w.flies.frame;
        found = more_there s.sent packets w.flies.frame r w.flies.found;
        from = w.flies.from;
        stamp = w.flies.stamp;
        carries = w.flies.carries;
        recent = w.flies.recent;
        fresh = fresh;
        above = above_up (is_up p) d.link t.link d_low t_low w.flies.above;
      };
      asides = λ i q le e ne. elim (in_either s.sent packets q i e) [ inl h ↦ w.asides i q le h ne | inr h ↦ new q h ];
    }

    near_moved : (j : ℕ) (b : Node) (packets : List Packet) (events : List Event) (t : Step) → Moves s j b packets events t → (Sound (moved s j b packets) → IsWaiting (moved s j b packets) r p) → Near s (length packets) r p t
    near_moved j b packets events t h on = record {
      waits = subst (λ x. IsWaiting x r p) (sym h.is) (on (subst Sound h.is h.keeps.sound));
      given = ap (λ (x : WorldState). x.given) h.is;
      names = h.keeps.names;
      sent = (let z : length t.state.sent ≡ length s.sent + length packets = ap (λ (x : WorldState). length x.sent) h.is ∙ length-append s.sent packets in omega arith);
      there = h.keeps.kept.sent;
      key = ap (λ (x : WorldState). x.key) h.is;
    }

    -- another node
    pub near_other : (j : ℕ) (b : Node) (packets : List Packet) (events : List Event) (t : Step) → j ≢ dp → j ≢ sp → Moves s j b packets events t → ((q : Packet) → IsAt packets q → Aside s.key q) → Near s (length packets) r p t
    near_other j b packets events t nd ns h new = near_moved j b packets events t h (λ sound.
        goes_on j b packets sound w.drone (set_elsewhere s.nodes j dp b (λ e. nd (sym e)) ∙ w.drone_there) refl refl
        w.station (set_elsewhere s.nodes j sp b (λ e. ns (sym e)) ∙ w.station_there) refl w.station_is refl refl refl w.flies.fresh new)

    module _ (i : ℕ) (f : Packet) (found : slice_get s.sent i ≡ Some f) (stamp : ℕ) (m : PlanMsg) (c : Carries s.key f stamp m) (name : Name) where
      abbrev Given : ℕ → Node → ℕ → Type 0
      Given j y extra = IfOk (node_does s j name (node_receives s.clock (encoding f) y)) (Near s extra r p)

      abbrev silent_drone : DroneSide → CoreStep DroneState
      silent_drone y = record { core = y.core; first = []; answer = None; last = [] }

      one : {A : Type 0} → A ⊎ A → A
      one (inl a) = a
      one (inr a) = a

      abbrev StillDrone : (j : ℕ) (y : DroneSide) → slice_get s.nodes j ≡ Some (Drone y) → DroneState → Step → Type 0
      StillDrone j y there core t = Still s w.sound i f found stamp m c drone_rules drones j y there name core t

      abbrev StillStation : (j : ℕ) (y : StationSide) → slice_get s.nodes j ≡ Some (Station y) → StationState → Step → Type 0
      StillStation j y there core t = Still s w.sound i f found stamp m c station_rules stations j y there name core t

      -- a drone that leaves it alone
      drone_still : (j : ℕ) (y : DroneSide) (there : slice_get s.nodes j ≡ Some (Drone y)) → drone_step true y.core (stream_of f.from) m ≡ rests y.core
          → IfOk (node_does s j name (node_receives s.clock (encoding f) (Drone y))) (StillDrone j y there y.core)
      drone_still j y there is =
          weaker (λ t. StillDrone j y there y.core t ⊎ StillDrone j y there y.core t) (StillDrone j y there y.core) (node_does s j name (node_receives s.clock (encoding f) (Drone y))) (λ t h. one h)
          (still s w.sound i f found stamp m c drone_rules drones j y there name (silent_drone y) (drone_core_rests y.core (stream_of f.from) m (rests y.core) is) refl refl refl)

      station_still : (j : ℕ) (y : StationSide) (there : slice_get s.nodes j ≡ Some (Station y)) → station_step y.core (stream_of f.from) m ≡ stays y.core
          → IfOk (node_does s j name (node_receives s.clock (encoding f) (Station y))) (λ t. StillStation j y there y.core t ⊎ StillStation j y there (untold y.core) t)
      station_still j y there is =
          still s w.sound i f found stamp m c station_rules stations j y there name (station_does (stays y.core)) (ap station_does is) refl refl (no_frames_reported y.core.outcome)

      pub other_drone : (j : ℕ) (y : DroneSide) → slice_get s.nodes j ≡ Some (Drone y) → j ≢ dp → j ≢ sp → drone_step true y.core (stream_of f.from) m ≡ rests y.core → Given j (Drone y) 0
      other_drone j y there nd ns is =
          weaker (StillDrone j y there y.core) (Near s 0 r p) (node_does s j name (node_receives s.clock (encoding f) (Drone y)))
          (λ t h. near_other j _ [] h.events t nd ns h.moves (λ q at. absurd (no_packet q at))) (drone_still j y there is)

      pub other_station : (j : ℕ) (y : StationSide) → slice_get s.nodes j ≡ Some (Station y) → j ≢ dp → j ≢ sp → station_step y.core (stream_of f.from) m ≡ stays y.core → Given j (Station y) 0
      other_station j y there nd ns is =
          weaker (λ t. StillStation j y there y.core t ⊎ StillStation j y there (untold y.core) t) (Near s 0 r p) (node_does s j name (node_receives s.clock (encoding f) (Station y)))
          (λ t h. elim h [
            | inl h ↦ near_other j _ [] h.events t nd ns h.moves (λ q at. absurd (no_packet q at))
            | inr h ↦ near_other j _ [] h.events t nd ns h.moves (λ q at. absurd (no_packet q at))
          ]) (station_still j y there is)

      -- the drone and the station of the upload, at a frame of another node
      fresh_up : (b : Bool) → f.from ≢ sends_it b → (d t : Link) → (d ≡ w.drone.link) ⊎ (d ≡ tries f w.drone.link) → (t ≡ w.station.link) ⊎ (t ≡ tries f w.station.link)
          → ((l : ℕ) → last_of (stream_of (sends_it b)) (hears_it b w.drone.link w.station.link).history ≡ Some l → l < w.flies.stamp)
          → (l : ℕ) → last_of (stream_of (sends_it b)) (hears_it b d t).history ≡ Some l → l < w.flies.stamp
      fresh_up true ne d t (inl h) k old l e = old l (ap (λ (x : Link). last_of (stream_of me) x.history) (sym h) ∙ e)
      fresh_up true ne d t (inr h) k old l e = old l (last_kept s.key w.drone.link f me (λ z. ne (sym z)) l (ap (λ (x : Link). last_of (stream_of me) x.history) (sym h) ∙ e))
      fresh_up false ne d t h (inl k) old l e = old l (ap (λ (x : Link). last_of (stream_of (sends_it false)) x.history) (sym k) ∙ e)
      fresh_up false ne d t h (inr k) old l e = old l (last_kept s.key w.station.link f (sends_it false) (λ z. ne (sym z)) l (ap (λ (x : Link). last_of (stream_of (sends_it false)) x.history) (sym k) ∙ e))

      pub own_drone : f.from ≢ sends_it (is_up p) → drone_step true w.drone.core (stream_of f.from) m ≡ rests w.drone.core → Given dp (Drone w.drone) 0
      own_drone ne is =
          weaker (StillDrone dp w.drone w.drone_there w.drone.core) (Near s 0 r p) (node_does s dp name (node_receives s.clock (encoding f) (Drone w.drone)))
          (λ t h. let d : DroneSide = record { link = tries f w.drone.link; core = w.drone.core; services = h.services } in
          near_moved dp (Drone d) [] h.events t h.moves (λ sound.
          goes_on dp (Drone d) [] sound d (set_there s.nodes dp (Drone w.drone) (Drone d) w.drone_there) refl refl
          w.station (set_elsewhere s.nodes dp sp (Drone d) (λ e. apart_indices (sym e)) ∙ w.station_there) refl w.station_is (low_tried w.drone.link f) refl refl
          (fresh_up (is_up p) ne d.link w.station.link (inr refl) (inl refl) w.flies.fresh) (λ q at. absurd (no_packet q at))))
          (drone_still dp w.drone w.drone_there is)

      own_still : f.from ≢ sends_it (is_up p) → (core : StationState) → StationIs sys me kind plan valid p core → (t : Step) → StillStation sp w.station w.station_there core t → Near s 0 r p t
      own_still ne core is t h =
          let y : StationSide = record { link = tries f w.station.link; core = core; services = h.services } in
          near_moved sp (Station y) [] h.events t h.moves (λ sound.
          goes_on sp (Station y) [] sound w.drone (set_elsewhere s.nodes sp dp (Station y) apart_indices ∙ w.drone_there) refl refl
          y (set_there s.nodes sp (Station w.station) (Station y) w.station_there) refl is refl (low_tried w.station.link f) (trying_previous w.station.link.history f (answer_to w.station.link.key w.station.link.history f))
          (fresh_up (is_up p) ne w.drone.link y.link (inl refl) (inr refl) w.flies.fresh) (λ q at. absurd (no_packet q at)))

      pub own_station : f.from ≢ sends_it (is_up p) → station_step w.station.core (stream_of f.from) m ≡ stays w.station.core → Given sp (Station w.station) 0
      own_station ne is =
          weaker (λ t. StillStation sp w.station w.station_there w.station.core t ⊎ StillStation sp w.station w.station_there (untold w.station.core) t) (Near s 0 r p) (node_does s sp name (node_receives s.clock (encoding f) (Station w.station)))
          (λ t h. elim h [
            | inl h ↦ own_still ne w.station.core w.station_is t h
            | inr h ↦ own_still ne (untold w.station.core) (station_untold sys me kind plan valid p w.station.core w.station_is) t h
          ]) (station_still sp w.station w.station_there is)
