-- Each line leaves what holds of the commands of all nodes.
use Rattle.std.proofs.Common.{◌≡◌, ℕ, suc, ◌+◌, ◌-◌, ◌<◌, Bool, true, false, inl, inr, if◌then◌else◌, nat_lt, IsTrue, List, [], ◌∷◌, ◌++◌, length, slice_get, Option, Some, None, refl, sym, ap, subst, arith, ◌∙◌}
use Rattle.std.specs.Prelude.{position}
use Rattle.std.proofs.lemmas.List.{append-nil}
use Rattle.std.proofs.lemmas.List.Elements.{All-nil}
use Rattle.std.specs.declared.result.Result.{Result}
use Rattle.mav_names.specs.declared.names.Name.{Name}
use Rattle.mav_names.specs.Addresses.{same_name, node_of}
use Rattle.mav_frame.specs.Packet.{Packet}
use Rattle.mav_frame.specs.Encoding.{encoding}
use Rattle.plan_items.specs.Kinds.{number_of}
use Rattle.plan_upload.specs.declared.faults.OpFault.{OpFault}
use Rattle.plan_upload.specs.Kinds.{clear_number}
use Rattle.plan_upload.specs.Refusals.{upload_refusal, refusal}
use Rattle.command_proto.specs.Commander.{open_command}
use Rattle.fleet_report.specs.Events.{Event, Restarted}
use Rattle.mav_nodes.specs.Links.{Outcome}
use Rattle.mav_nodes.specs.Nodes.{StationSide, DroneSide, new_drone, new_station, station_begins, station_cancels, station_clears, station_gets, station_commands, station_lists_params}
use Rattle.mav_nodes.specs.Restarts.{drone_restarts}
use Rattle.plan_ranges.specs.Ranges.{Is16, Is32, NameInRange, ItemInRange}
use Rattle.scenario_lines.specs.declared.faults.Reason.{Reason}
use Rattle.scenario_lines.specs.declared.lines.Line.{Line}
use Rattle.scenario_lines.specs.declared.lines.Line.TheVariants.{Blank, Drone as DroneLine, Station as StationLine, Item as OneItem, Items, Empty, Begin, Cancel, Clear, Get, Command, Params, Heartbeat, Deliver, Flow, Noise, Tick, Clock, Restart, Sim, WhereIs}
use Rattle.scenario_lines.specs.LineContext.{has_drone}
use Rattle.scenario_lines.specs.Grammar.{against}
use Rattle.scenario_lines.specs.Permits.{IsPermitted}
use Rattle.node_reports.specs.Nodes.{Node, Drone, Station, node_name}
use Rattle.node_reports.specs.Calls.{node_receives, node_beats, node_ticks, as_station, as_drone}
use Rattle.fleet_world.specs.WorldState.{WorldState, names_of, stream_of, is_station_named, is_drone_named, drones_in, stations_in, context_of}
use Rattle.fleet_world.specs.declared.locations.Location.{Location}
use Rattle.scenario_lines.specs.ItemRows.{items_from}
use Rattle.fleet_world.specs.Steps.{Step, StepError, most_drones, most_stations, most_restarts, starts_again, restarts_at, restarts_found, restart_line, node_does, station_line, orders, upload_begins, orders_at, orders_found, orders_to, begins, cancels, clears, gets, asks, command_busy, params_busy, commands, lists_params, delivers, after_line, location_in, locates_as}
use Rattle.fleet_world.specs.Authentic.{AuthenticLine}
use Rattle.fleet_invariants.specs.Sound.{link_of, SoundDrone, Sound}
use Rattle.fleet_invariants.specs.Kept.{LineFits}
use Rattle.fleet_invariants.proofs.Lists.{at_end}
use Rattle.fleet_invariants.proofs.Tests.{by_test, less, name_eq, either_true}
use Rattle.fleet_invariants.proofs.Restated.{sound_restated}
use Rattle.fleet_invariants.proofs.Joins.{Unnamed, unnamed}
use Rattle.fleet_invariants.proofs.Heard.{sent_known, authentic_known}
use Rattle.fleet_invariants.proofs.Restarting.{sound_counted}
use Rattle.fleet_command_laws.proofs.Lists.{stamp_of, stamp_next, last_stamp, Rising, Runs, Repeats, command_next}
use Rattle.mav_nodes.specs.Payloads.{service_in}
use Rattle.fleet_command_laws.specs.Lines.{command_in, commanded, Order, orders_begun}
use Rattle.fleet_command_laws.specs.Accepted.{order_of, accepts, accepted_at, accepted_found, accepted_by}
use Rattle.fleet_command_laws.proofs.Outcomes.{Goes}
use Rattle.fleet_command_laws.proofs.Stations.{Voice}
use Rattle.fleet_command_laws.proofs.StationCalls.{StationSays, station_beginning, station_cancelling, station_clearing, station_getting, station_commanding, station_listing}
use Rattle.fleet_command_laws.proofs.Drones.{Tells, tells_nothing, drone_restarting}
use Rattle.fleet_command_laws.proofs.Worlds.{Commanded, sent_of, After, Stays, no_line, none_of, rests_so, stays_behind, does_begin, does_so, station_before, of_station, of_drone, receives_so, beats_so, ticks_so, calls_so}
use Rattle.fleet_command_laws.proofs.Gives.{flows_so, stays_like, flights_so}

-- ---- no reason against it

not_against : (bad : Bool) (reason : Reason) → against bad reason ≡ None → bad ≡ false
not_against true reason e = absurd (let wrong : ◌≡◌ {A = Option Reason} (Some reason) None = e in cc)
not_against false reason e = refl

-- ---- the name of a drone

in_range : (name : Name) (nodes : List Node) → ((i : ℕ) (a : Node) → slice_get nodes i ≡ Some a → NameInRange (node_name a)) → has_drone (names_of nodes) name ≡ true → NameInRange name
in_range name [] each h = absurd (cc)
in_range name (Drone d ∷ ns) each h = elim (either_true (same_name (node_name (Drone d)) name) (has_drone (names_of ns) name) h) [
  | inl x ↦ subst NameInRange (name_eq (node_name (Drone d)) name x) (each 0 (Drone d) refl)
  | inr y ↦ in_range name ns (λ i a found. each (suc i) a found) y
]
in_range name (Station t ∷ ns) each h = in_range name ns (λ i a found. each (suc i) a found) h

drone_range : (s : WorldState) → Sound s → (name : Name) → IsTrue (has_drone (names_of s.nodes) name) → NameInRange name
drone_range s g name h = in_range name s.nodes (λ i a found. own a (g.links i a found).me.1 (g.links i a found).me.3) h
  where
    own : (a : Node) → (link_of a).me.sys < 256 → (link_of a).me.comp < 256 → NameInRange (node_name a)
    own (Drone n) sys comp = record { sys = sys; comp = comp }
    own (Station n) sys comp = record { sys = sys; comp = comp }

-- ---- a node that joins

module _ (name : Name) where
  next_low : (low : ℕ) (p : Packet) → same_name p.from name ≡ false → low ≡ stamp_next name low p
  next_low low p apart = sym (ap (λ (t : Bool). if t then stamp_of p else low) apart)

  no_command : (p : Packet) → same_name p.from name ≡ false → None ≡ commanded name p
  no_command p apart = sym (ap (λ (t : Bool). if t then command_in (service_in p.id p.payload) else None) apart)

  later_none : (p : Packet) (ps : List Packet) → ((i : ℕ) (q : Packet) → slice_get (p ∷ ps) i ≡ Some q → same_name q.from name ≡ false) → (i : ℕ) (q : Packet) → slice_get ps i ≡ Some q → same_name q.from name ≡ false
  later_none p ps none i q found = none (suc i) q found

  differ : (b : Bool) → b ≡ false → b ≡ true → ⊥
  differ true e f = absurd (cc)
  differ false e f = absurd (cc)

  none_rising : (low : ℕ) (ps : List Packet) → ((i : ℕ) (q : Packet) → slice_get ps i ≡ Some q → same_name q.from name ≡ false) → Rising name low ps
  none_rising low [] none = tt
  none_rising low (p ∷ ps) none =
      ((λ by. absurd (differ (same_name p.from name) (none 0 p refl) by)), subst (λ l. Rising name l ps) (next_low low p (none 0 p refl)) (none_rising low ps (later_none p ps none)))

  none_last : (low : ℕ) (ps : List Packet) → ((i : ℕ) (q : Packet) → slice_get ps i ≡ Some q → same_name q.from name ≡ false) → last_stamp name low ps ≡ low
  none_last low [] none = refl
  none_last low (p ∷ ps) none = ap (λ l. last_stamp name l ps) (sym (next_low low p (none 0 p refl))) ∙ none_last low ps (later_none p ps none)

  none_runs : (ps : List Packet) → ((i : ℕ) (q : Packet) → slice_get ps i ≡ Some q → same_name q.from name ≡ false) → Runs name None ps
  none_runs [] none = tt
  none_runs (p ∷ ps) none =
      subst (λ o. Repeats name None o × Runs name (command_next name None o) ps) (no_command p (none 0 p refl)) (tt, none_runs ps (later_none p ps none))

  pub new_voice : (ps : List Packet) → ((i : ℕ) (q : Packet) → slice_get ps i ≡ Some q → same_name q.from name ≡ false) → Voice ps name [] None
  new_voice ps none = record { rising = none_rising 0 ps none; last = (let e = none_last 0 ps none in omega arith); runs = none_runs ps none; given = tt }

-- a name that no node has has sent nothing
unsent : (s : WorldState) → Sound s → (name : Name) → Unnamed s.nodes name → (i : ℕ) (p : Packet) → slice_get s.sent i ≡ Some p → same_name p.from name ≡ false
unsent s g name none i p found =
    let from = (g.sent i p found).from in
    elim (same_name p.from name) as (λ t. same_name p.from name ≡ t → t ≡ false) [
      | true ↦ λ e. absurd (none from.index from.node from.found (from.name_is ∙ name_eq p.from name e))
      | false ↦ λ _. refl
    ] refl

module _ (s : WorldState) (g : Sound s) (c : Commanded s) where
  drone_joined : (d : DroneSide) → Tells s.sent (node_of d.link.me) d.link.history d.services.executor → After s no_line (record s { nodes = s.nodes ++ Drone d ∷ [] })
  drone_joined d tells = record {
    begun = λ name is. sym (append-nil (orders_begun name s.sent));
    commanded = record {
      stations = λ k n e. elim (at_end s.nodes (Drone d) (Station n) k e) [ inl x ↦ c.stations k n x | inr x ↦ absurd (drone_station d n x.1) ];
      drones = λ k n e. elim (at_end s.nodes (Drone d) (Drone n) k e) [
        | inl x ↦ c.drones k n x
        | inr x ↦ subst (λ (m : DroneSide). Tells s.sent (node_of m.link.me) m.link.history m.services.executor) (same_drone d n x.1) tells
      ];
    };
  }
    where
      drone_station : (d : DroneSide) (n : StationSide) → ◌≡◌ {A = Node} (Drone d) (Station n) → ⊥
      drone_station d n e = cc

      same_drone : (d n : DroneSide) → ◌≡◌ {A = Node} (Drone d) (Drone n) → d ≡ n
      same_drone d n e = cc

  station_joined : (d : StationSide) → Voice s.sent (node_of d.link.me) d.link.history d.services.commander.issue → After s no_line (record s { nodes = s.nodes ++ Station d ∷ [] })
  station_joined d voice = record {
    begun = λ name is. sym (append-nil (orders_begun name s.sent));
    commanded = record {
      stations = λ k n e. elim (at_end s.nodes (Station d) (Station n) k e) [
        | inl x ↦ c.stations k n x
        | inr x ↦ subst (λ (m : StationSide). Voice s.sent (node_of m.link.me) m.link.history m.services.commander.issue) (same_station d n x.1) voice
      ];
      drones = λ k n e. elim (at_end s.nodes (Station d) (Drone n) k e) [ inl x ↦ c.drones k n x | inr x ↦ absurd (station_drone d n x.1) ];
    };
  }
    where
      station_drone : (d : StationSide) (n : DroneSide) → ◌≡◌ {A = Node} (Station d) (Drone n) → ⊥
      station_drone d n e = cc

      same_station : (d n : StationSide) → ◌≡◌ {A = Node} (Station d) (Station n) → d ≡ n
      same_station d n e = cc

  -- ---- orders

  abbrev EachOrder : (ℕ → StationSide → Result Step StepError) → Type 0
  EachOrder order = (k : ℕ) (n : StationSide) → slice_get s.nodes k ≡ Some (Station n) → Stays s no_line (order k n)

  order_at : (order : ℕ → StationSide → Result Step StepError) → EachOrder order → (k : ℕ) (o : Option Node) → slice_get s.nodes k ≡ o → Stays s no_line (orders_at s k o order)
  order_at order each k None found = rests_so s c
  order_at order each k (Some (Drone n)) found = rests_so s c
  order_at order each k (Some (Station n)) found = each k n found

  order_placed : (order : ℕ → StationSide → Result Step StepError) → EachOrder order → (k : Option ℕ) → Stays s no_line (orders_found s k order)
  order_placed order each None = rests_so s c
  order_placed order each (Some k) = order_at order each k (slice_get s.nodes k) refl

  orders_so : (order : ℕ → StationSide → Result Step StepError) → EachOrder order → (name : Name) → Stays s no_line (orders_to s name order)
  orders_so order each name = order_placed order each (position (is_station_named name) s.nodes)

  -- one that a station follows
  follows : (k : ℕ) (n : StationSide) → slice_get s.nodes k ≡ Some (Station n) → (o : Outcome StationSide) → Goes (StationSays s.sent n.link.me s.clock []) [] o → Stays s no_line (node_does s k (node_name (Station n)) (as_station o))
  follows k n found o h = does_so s g c k (Station n) found (node_name (Station n)) (as_station o) (of_station s g c [] n o h)

  order_or : (k : ℕ) (n : StationSide) → slice_get s.nodes k ≡ Some (Station n) → (why : Option OpFault) (o : Outcome StationSide) → Goes (StationSays s.sent n.link.me s.clock []) [] o → Stays s no_line (orders s k n why o)
  order_or k n found (Some why) o h = rests_so s c
  order_or k n found None o h = follows k n found o h

  asked_or : (k : ℕ) (n : StationSide) → slice_get s.nodes k ≡ Some (Station n) → (why : Option Event) (o : Outcome StationSide) → Goes (StationSays s.sent n.link.me s.clock []) [] o → Stays s no_line (asks s k n why o)
  asked_or k n found (Some why) o h = rests_so s c
  asked_or k n found None o h = follows k n found o h

  cancels_so : (station : Name) → Stays s no_line (cancels s station)
  cancels_so station =
      orders_so (λ k n. orders s k n None (station_cancels s.clock n)) (λ k n found. order_or k n found None (station_cancels s.clock n) (station_cancelling s.sent n.link.me s.clock [] n (station_before s g c k n found))) station

  clears_so : (station drone : Name) (kind : ℕ) → Stays s no_line (clears s station drone kind)
  clears_so station drone kind =
      orders_so (λ k n. orders s k n (refusal n.core) (station_clears s.clock (stream_of drone) kind n))
      (λ k n found. order_or k n found (refusal n.core) (station_clears s.clock (stream_of drone) kind n) (station_clearing s.sent n.link.me s.clock [] n (station_before s g c k n found) (stream_of drone) kind)) station

  gets_so : (station drone : Name) (kind : ℕ) → Stays s no_line (gets s station drone kind)
  gets_so station drone kind =
      orders_so (λ k n. orders s k n (refusal n.core) (station_gets s.clock (stream_of drone) kind n))
      (λ k n found. order_or k n found (refusal n.core) (station_gets s.clock (stream_of drone) kind n) (station_getting s.sent n.link.me s.clock [] n (station_before s g c k n found) (stream_of drone) kind)) station

  -- a command, which is accepted if none is open
  abbrev commanding : Name → ℕ → ℕ → ℕ → StationSide → Result Step StepError
  commanding drone number word k n = asks s k n (command_busy (node_of n.link.me) (open_command n.services.commander)) (station_commands s.clock (stream_of drone) number word n)

  abbrev at_most_one : Order → StationSide → Option ℕ → Name → List Order
  at_most_one order n busy name = if same_name (node_of n.link.me) name then accepts order busy else []

  command_by : (drone : Name) (number word : ℕ) → NameInRange drone → Is16 number → Is32 word → (k : ℕ) (n : StationSide) → slice_get s.nodes k ≡ Some (Station n) → (busy : Option ℕ)
      → Stays s (at_most_one (order_of drone number word) n busy) (asks s k n (command_busy (node_of n.link.me) busy) (station_commands s.clock (stream_of drone) number word n))
  command_by drone number word range small short k n found (Some open_number) = record {
    commanded = c;
    begun = λ name is. sym (append-nil (orders_begun name s.sent)) ∙ ap (λ os. orders_begun name s.sent ++ os) (sym (none_of (Station n) name));
  }
  command_by drone number word range small short k n found None =
      does_begin s g c (order_of drone number word ∷ []) k (Station n) found (node_of n.link.me) (as_station (station_commands s.clock (stream_of drone) number word n))
      (of_station s g c (order_of drone number word ∷ []) n (station_commands s.clock (stream_of drone) number word n)
      (station_commanding s.sent n.link.me s.clock n (station_before s g c k n found) (g.cores k (Station n) found).services (stream_of drone) number word range small short))

  command_at : (drone : Name) (number word : ℕ) → NameInRange drone → Is16 number → Is32 word → (k : ℕ) (o : Option Node) → slice_get s.nodes k ≡ o → Stays s (λ name. accepted_at (order_of drone number word) name o) (orders_at s k o (commanding drone number word))
  command_at drone number word range small short k None found = rests_so s c
  command_at drone number word range small short k (Some (Drone n)) found = rests_so s c
  command_at drone number word range small short k (Some (Station n)) found = command_by drone number word range small short k n found (open_command n.services.commander)

  command_placed : (drone : Name) (number word : ℕ) → NameInRange drone → Is16 number → Is32 word → (o : Option ℕ) → Stays s (λ name. accepted_found (order_of drone number word) s name o) (orders_found s o (commanding drone number word))
  command_placed drone number word range small short None = rests_so s c
  command_placed drone number word range small short (Some k) = command_at drone number word range small short k (slice_get s.nodes k) refl

  commands_so : (station drone : Name) (number word : ℕ) → NameInRange drone → Is16 number → Is32 word → Stays s (λ name. accepted_found (order_of drone number word) s name (position (is_station_named station) s.nodes)) (commands s station drone number word)
  commands_so station drone number word range small short = command_placed drone number word range small short (position (is_station_named station) s.nodes)

  params_so : (station drone : Name) → Stays s no_line (lists_params s station drone)
  params_so station drone =
      orders_so (λ k n. asks s k n (params_busy (node_of n.link.me) n.services.client.operation) (station_lists_params s.clock (stream_of drone) n))
      (λ k n found. asked_or k n found (params_busy (node_of n.link.me) n.services.client.operation) (station_lists_params s.clock (stream_of drone) n)
      (station_listing s.sent n.link.me s.clock [] n (station_before s g c k n found) (stream_of drone))) station

  -- ---- a drone that starts again

  restart_at : (k : ℕ) (o : Option Node) → slice_get s.nodes k ≡ o → Stays s no_line (restarts_at s k o)
  restart_at k None found = rests_so s c
  restart_at k (Some (Station n)) found = rests_so s c
  restart_at k (Some (Drone n)) found =
      let own : SoundDrone n = g.cores k (Drone n) found in
      let end = g.links k (Drone n) found in
      let o = drone_restarts s.key s.clock n in
      stays_behind s no_line (Restarted (node_of n.link.me) ∷ []) (node_does s k (node_of n.link.me) (as_drone o))
      (does_so s g c k (Drone n) found (node_of n.link.me) (as_drone o) (of_drone s g c n o
      (drone_restarting s (sent_of s g) n n.link.me s.clock (λ i. record { sys = own.sys i; comp = sym own.comp i; link = sym end.me.4 i }))))

  restart_placed : (o : Option ℕ) → Stays s no_line (restarts_found s o)
  restart_placed None = rests_so s c
  restart_placed (Some k) = restart_at k (slice_get s.nodes k) refl

  restarts_so : (drone : Name) → Stays s no_line (starts_again s drone)
  restarts_so drone = restart_placed (position (is_drone_named drone) s.nodes)

-- an upload, of the state with its draft, from the state without
begin_so : (s : WorldState) (g : Sound s) (c : Commanded s) (drone : Name) (kind : ℕ) (k : ℕ) (n : StationSide) → slice_get s.nodes k ≡ Some (Station n) → (why : Option OpFault) → Stays s no_line (upload_begins s k n drone kind why)
begin_so s g c drone kind k n found (Some why) = rests_so s c
begin_so s g c drone kind k n found None =
    let t : WorldState = record s { draft = [] } in
    let h : Sound t = sound_restated s s.given [] s.clock g g.given (All-nil ItemInRange) (omega arith) g.clock in
    let d : Commanded t = record { stations = c.stations; drones = c.drones } in
    stays_like s t no_line (upload_begins s k n drone kind None) refl refl (follows t h d k n found (station_begins s.clock (stream_of drone) kind s.draft n) (station_beginning s.sent n.link.me s.clock [] n (station_before s g c k n found) (stream_of drone) kind s.draft))

begins_so : (s : WorldState) (g : Sound s) (c : Commanded s) (station drone : Name) (kind : ℕ) → Stays s no_line (begins s station drone kind)
begins_so s g c station drone kind =
    orders_so s g c (λ k n. upload_begins s k n drone kind (upload_refusal n.core kind s.draft)) (λ k n found. begin_so s g c drone kind k n found (upload_refusal n.core kind s.draft)) station

-- ---- lines

at_line : (s : WorldState) → Sound s → Sound (station_line s)
at_line s g = sound_restated s (length s.sent) s.draft s.clock g (omega arith) g.draft (omega arith) g.clock

delivered : (s : WorldState) (g : Sound s) (c : Commanded s) (number : ℕ) (name : Name) (o : Option Packet) → slice_get s.sent (number - 1) ≡ o → Stays s no_line (delivers s number name o)
delivered s g c number name None e = rests_so s c
delivered s g c number name (Some p) e = calls_so s g c (node_receives s.clock (encoding p)) (receives_so s g c (encoding p) (sent_known s g (number - 1) p e)) name

-- nothing but the clock, the draft or a count changes
same_nodes : (s t : WorldState) → Commanded s → t.nodes ≡ s.nodes → t.sent ≡ s.sent → After s no_line t
same_nodes s t c nodes sent = record {
  commanded = record {
    stations = λ k n found. subst (λ frames. Voice frames (node_of n.link.me) n.link.history n.services.commander.issue) (sym sent) (c.stations k n (ap (λ ns. slice_get ns k) (sym nodes) ∙ found));
    drones = λ k n found. subst (λ frames. Tells frames (node_of n.link.me) n.link.history n.services.executor) (sym sent) (c.drones k n (ap (λ ns. slice_get ns k) (sym nodes) ∙ found));
  };
  begun = λ name is. ap (orders_begun name) sent ∙ sym (append-nil (orders_begun name s.sent));
}

located : (s : WorldState) → Commanded s → (drone : Name) (at : Option Location) → Stays s no_line (locates_as s drone at)
located s c drone None = rests_so s c
located s c drone (Some at) = rests_so s c

from_line : (s : WorldState) (orders : Name → List Order) (r : Result Step StepError) → Stays (station_line s) orders r → Stays s orders r
from_line s orders r h = stays_like s (station_line s) orders r refl refl h

at_commanded : (s : WorldState) → Commanded s → Commanded (station_line s)
at_commanded s c = record { stations = c.stations; drones = c.drones }

pub commanded_line : (s : WorldState) (g : Sound s) (c : Commanded s) (line : Line) → IsPermitted (context_of s) line → LineFits line → AuthenticLine s line → Stays s (accepted_by s line) (after_line s line)
commanded_line s g c Blank permitted fits authentic = rests_so s c
commanded_line s g c (DroneLine sys x y) permitted fits authentic =
    by_test (Stays s no_line) (nat_lt (drones_in s.nodes) most_drones) _ _ (λ _. drone_joined s g c (new_drone s.key sys (record { x = x; y = y })) (tells_nothing s.sent (record { sys = sys; comp = 1 }))) (λ _. tt)
commanded_line s g c (StationLine sys comp) permitted fits authentic =
    let name : Name = record { sys = sys; comp = comp } in
    by_test (Stays s no_line) (nat_lt (stations_in s.nodes) most_stations) _ _
    (λ _. station_joined s g c (new_station s.key (stream_of name) 0) (new_voice name s.sent (unsent s g name (unnamed s.nodes name (not_against _ _ permitted.1))))) (λ _. tt)
commanded_line s g c (OneItem item) permitted fits authentic = same_nodes s (record s { draft = s.draft ++ item ∷ [] }) c refl refl
commanded_line s g c (Items n first) permitted fits authentic = same_nodes s (record s { draft = s.draft ++ items_from n first 0 }) c refl refl
commanded_line s g c Empty permitted fits authentic = same_nodes s (record s { draft = [] }) c refl refl
commanded_line s g c (Begin station drone kind) permitted fits authentic =
    from_line s no_line (begins (station_line s) station drone (number_of kind)) (begins_so (station_line s) (at_line s g) (at_commanded s c) station drone (number_of kind))
commanded_line s g c (Cancel station) permitted fits authentic =
    from_line s no_line (cancels (station_line s) station) (cancels_so (station_line s) (at_line s g) (at_commanded s c) station)
commanded_line s g c (Clear station drone kind) permitted fits authentic =
    from_line s no_line (clears (station_line s) station drone (clear_number kind)) (clears_so (station_line s) (at_line s g) (at_commanded s c) station drone (clear_number kind))
commanded_line s g c (Get station drone kind) permitted fits authentic =
    from_line s no_line (gets (station_line s) station drone (number_of kind)) (gets_so (station_line s) (at_line s g) (at_commanded s c) station drone (number_of kind))
commanded_line s g c (Command station drone number word) permitted fits authentic =
    from_line s (accepted_by s (Command station drone number word)) (commands (station_line s) station drone number word) (commands_so (station_line s) (at_line s g) (at_commanded s c) station drone number word (drone_range s g drone permitted.0.1) fits.0 fits.1)
commanded_line s g c (Params station drone) permitted fits authentic =
    from_line s no_line (lists_params (station_line s) station drone) (params_so (station_line s) (at_line s g) (at_commanded s c) station drone)
commanded_line s g c (Heartbeat node) permitted fits authentic = calls_so s g c (node_beats s.clock) (beats_so s g c) node
commanded_line s g c (Deliver number node) permitted fits authentic = delivered s g c number node (slice_get s.sent (number - 1)) refl
commanded_line s g c (Flow k) permitted fits authentic = flows_so k s g c
commanded_line s g c (Noise node bytes) permitted fits authentic =
    calls_so s g c (node_receives s.clock bytes) (receives_so s g c bytes (authentic_known s g bytes fits authentic)) node
commanded_line s g c (Tick node) permitted fits authentic = calls_so s g c (node_ticks s.clock) (ticks_so s g c) node
commanded_line s g c (Clock n) permitted fits authentic = same_nodes s (record s { clock = s.clock + n }) c refl refl
commanded_line s g c (Sim drone n) permitted fits authentic = flights_so n drone s g c
commanded_line s g c (WhereIs drone) permitted fits authentic = located s c drone (location_in s.nodes drone)
commanded_line s g c (Restart drone) permitted fits authentic =
    by_test (Stays s no_line) (nat_lt s.restarts most_restarts) _ _
    (λ few. stays_like s (restart_line s) no_line (starts_again (restart_line s) drone) refl refl (restarts_so (restart_line s) (sound_counted s g (less _ _ few)) (record { stations = c.stations; drones = c.drones }) drone)) (λ _. tt)
