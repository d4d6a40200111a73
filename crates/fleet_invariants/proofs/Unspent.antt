-- No authentic scenario stops for want of a timestamp.
use Rattle.std.proofs.Common.{◌≡◌, ◌≢◌, ℕ, zero, suc, ◌+◌, ◌-◌, ◌*◌, ◌<◌, ◌≤◌, Bool, true, false, if◌then◌else◌, nat_lt, List, [], ◌∷◌, length, slice_get, Option, Some, None, Ok, Err, refl, sym, subst, arith}
use Rattle.std.specs.Prelude.{nat_le, position}
use Rattle.std.specs.declared.result.Result.{Result}
use Rattle.mav_names.specs.declared.names.Name.{Name}
use Rattle.plan_items.specs.Kinds.{number_of}
use Rattle.plan_upload.specs.declared.faults.OpFault.{OpFault}
use Rattle.plan_upload.specs.Addresses.{node_of, same_name}
use Rattle.plan_upload.specs.Drone.{drone_tick}
use Rattle.plan_upload.specs.Kinds.{clear_number}
use Rattle.plan_upload.specs.Refusals.{upload_refusal, refusal}
use Rattle.plan_upload.specs.Station.{StationStep, station_tick, station_cancel, begin_upload, begin_clear, begin_get}
use Rattle.mav_profile.specs.Messages.{extras_of}
use Rattle.mav_profile.specs.Profile.{profile_definitions}
use Rattle.mav_frame.specs.Packet.{Packet}
use Rattle.mav_frame.specs.Encoding.{encoding}
use Rattle.mav_frame.specs.FinalParse.{final_parse}
use Rattle.mav_messages.specs.declared.messages.Message.{Message}
use Rattle.mav_sign.specs.Endpoints.{frames_of}
use Rattle.mav_sign.specs.History.{greatest_stamp}
use Rattle.drone_sim.specs.Sim.{armed, changes, sim_tick}
use Rattle.fleet_invariants.proofs.Calls.{sound_does}
use Rattle.mav_nodes.specs.News.{NodeEvent}
use Rattle.std.specs.List.{list_any}
use Rattle.mav_nodes.specs.Links.{Link, Outcome, sends}
use Rattle.mav_nodes.specs.FileServices.{transfer_heard, transfer_waits}
use Rattle.mav_nodes.specs.Services.{ServiceStep, DroneServices, StationServices, station_waits, command_of, asks_command, asks_params, sim_step, drone_flies, changes_mission, drone_notes}
use Rattle.mav_nodes.specs.Steps.{Side, Rules, CoreStep, with_core, steps, serves, receives}
use Rattle.command_proto.specs.Commander.{open_command, commands as gives, commander_step, commander_tick}
use Rattle.param_proto.specs.Client.{client_step, client_tick, lists}
use Rattle.mav_nodes.specs.Nodes.{DroneSide, StationSide, drone_rules, drone_waits, drone_heartbeat, drone_receives, drone_ticks, drone_beats, station_rules, station_does, station_heartbeat, station_receives, station_ticks, station_beats, station_begins, station_cancels, station_clears, station_gets, station_commands, station_lists_params, drone_sims}
use Rattle.scenario_lines.specs.declared.faults.Reason.{Reason}
use Rattle.scenario_lines.specs.declared.faults.Reason.TheVariants.{Long}
use Rattle.scenario_lines.specs.declared.lines.Line.{Line}
use Rattle.scenario_lines.specs.declared.lines.Line.TheVariants.{Blank, Drone as DroneLine, Station as StationLine, Item as OneItem, Items, Empty, Begin, Cancel, Clear, Get, Command, Params, Heartbeat, Deliver, Flow, Noise, Tick, Clock, Restart, Sim, WhereIs}
use Rattle.scenario_lines.specs.Grammar.{line_of, most_line_bytes}
use Rattle.scenario_lines.specs.Reasons.{reason_against}
use Rattle.mav_nodes.specs.Restarts.{restarted_drone, drone_restarts}
use Rattle.std.proofs.lemmas.List.{append-nil}
use Rattle.fleet_report.specs.Events.{Event, Restarted}
use Rattle.node_reports.specs.Nodes.{Node, Drone, Station, node_name}
use Rattle.node_reports.specs.Calls.{as_drone, as_station, node_receives, node_beats, node_ticks, node_flies}
use Rattle.fleet_world.specs.WorldState.{WorldState, is_named, is_drone_named, is_station_named, stream_of, context_of, drones_in, stations_in}
use Rattle.fleet_world.specs.declared.locations.Location.{Location}
use Rattle.fleet_world.specs.Steps.{Step, StepError, At_limit, Stamps_spent, most_frames, most_drones, most_stations, most_restarts, restarts_at, restarts_found, starts_again, restart_line, after_events, and_then, packets_in, node_does, calls_at, calls_found, calls, given_to, given_from, given_to_all, flow_next, flows, delivers, station_line, orders, upload_begins, orders_at, orders_found, orders_to, begins, cancels, clears, gets, asks, command_busy, params_busy, commands, lists_params, after_line, flies, location_in, locates_as}
use Rattle.fleet_world.specs.Scenario.{ScenarioError, Bad, Too_many_lines, Not_done, Played, stopped, goes_on, judged, line_played, unless_stopped, lines_played, at_start, last_played, rest_played, played}
use Rattle.scenario_lines.specs.FileLines.{most_lines, whole_lines, unfinished, without_cr}
use Rattle.fleet_world.specs.Authentic.{AuthenticLine, line_read, line_done, AuthenticDone, UnlessStopped, HoldsOfLines, HoldsOfLast}
use Rattle.fleet_invariants.specs.Sound.{ahead, link_of, Sound}
use Rattle.fleet_invariants.specs.Kept.{Known, StepKeeps, Keeps, LineFits}
use Rattle.fleet_invariants.specs.Laws.{NoneSpent}
use Rattle.fleet_invariants.proofs.Lists.{within}
use Rattle.fleet_invariants.proofs.Tests.{by_test, less}
use Rattle.fleet_invariants.proofs.Growth.{at_most_on}
use Rattle.fleet_invariants.proofs.Moves.{steady_of, sound_of}
use Rattle.fleet_invariants.proofs.Nodes.{advanced}
use Rattle.fleet_invariants.proofs.Restarting.{starts_anew}
use Rattle.fleet_invariants.proofs.Links.{block_is, stamp_near}
use Rattle.fleet_invariants.proofs.Hearing.{KnownFrames}
use Rattle.fleet_invariants.proofs.Doing.{known_frames}
use Rattle.fleet_invariants.proofs.Restated.{restated, sound_restated}
use Rattle.fleet_invariants.proofs.Heard.{heard_is, sent_known, authentic_known}
use Rattle.fleet_invariants.proofs.Gives.{sound_gives, sound_calls}
use Rattle.fleet_invariants.proofs.Readings.{read_fits}
use Rattle.fleet_invariants.proofs.Plays.{choosing, one_line, sound_start, sound_lines}
use Rattle.fleet_invariants.proofs.Counts.{few_frames, IsShort, line_short}
use Rattle.fleet_invariants.proofs.Timestamps.{IsDone, Near, IsNear, SendsFew, ends_done, beats_near, steps_near, serves_near, both_done, NearFrame, all_done}
use Rattle.fleet_invariants.specs.Services.{param_count}
use Rattle.fleet_invariants.proofs.Files.{station_says, tick_says}
use Rattle.fleet_invariants.proofs.Services.{most_answers, drone_few, station_few, flown_few}

-- ---- what a node does

drone_done : (o : Outcome DroneSide) → IsDone o → IsDone (as_drone o)
drone_done None h = h
drone_done (Some d) h = tt

station_done : (o : Outcome StationSide) → IsDone o → IsDone (as_station o)
station_done None h = h
station_done (Some d) h = tt

params_noted : (v : DroneServices) (events : List NodeEvent) → length v.server.params ≡ param_count → length (drone_notes v events).server.params ≡ param_count
params_noted v events h =
    by_test (λ (w : DroneServices). length w.server.params ≡ param_count) (list_any changes_mission events) (record v { sim = changes v.sim }) v (λ _. h) (λ _. h)

pub drones_send_few : SendsFew drone_rules (λ (v : DroneServices). length v.server.params ≡ param_count)
drones_send_few = record { few = λ core v from m h. (drone_few core v from m h).0; again = λ core v from m h. (drone_few core v from m h).1; noted = params_noted }

pub stations_send_few : SendsFew station_rules (λ (v : StationServices). Unit {0})
stations_send_few = record { few = λ core v from m h. station_few (commander_step v.commander from m) (client_step v.client from m) (transfer_heard v.files from m) (station_says v.files from m); again = λ core v from m h. tt; noted = λ v events h. tt }

-- a datagram with no more frames than a line has bytes
abbrev HasFew : List ℕ → Type 0
HasFew bytes = length (frames_of (final_parse (extras_of profile_definitions) false bytes)) ≤ 4096

module _ (s : WorldState) (g : Sound s) where
  abbrev NearNow : Link → Type 0
  NearNow link = Near s.clock s.key (ahead s) link

  near_at : (k : ℕ) (a : Node) → slice_get s.nodes k ≡ Some a → NearNow (link_of a)
  near_at k a found = let l = g.links k a found in record { key_is = l.key; local = l.local }

  near_known : (packets : List Packet) → KnownFrames s packets → (index : ℕ) (p : Packet) → slice_get packets index ≡ Some p → NearFrame s.clock s.key (ahead s) p
  near_known packets known index p e v block signed =
      let at = known index p e v in
      let q = g.sent at.index p at.found in
      subst (λ n. n ≤ s.clock + ahead s) (sym (block_is s p q block signed).stamp_is) (stamp_near s (steady_of s g) p q)

  room : s.clock + (ahead s + 1) ≤ greatest_stamp
  room = let clock = g.clock in let frames = g.frames in let restarts = g.restarts in omega arith

  room_for : (n : ℕ) → n ≤ 163840 → s.clock + (ahead s + n) ≤ greatest_stamp
  room_for n few = let clock = g.clock in let frames = g.frames in let restarts = g.restarts in omega (arith, few)

  more_room : s.clock + (ahead s + 1 + most_answers) ≤ greatest_stamp
  more_room = let clock = g.clock in let frames = g.frames in let restarts = g.restarts in omega arith

  -- whatever is known of the services
  abbrev Any : {Services : Type 0} → Services → Type 0
  Any v = Unit {0}

  steps_done : {Core Services : Type 0} (link : Link) (services : Services) (step : CoreStep Core) → NearNow link → IsDone (steps s.clock link services step)
  steps_done {Core} {Services} link services step h =
      ends_done (IsNear s.clock s.key Any (ahead s + 1)) (steps s.clock link services step) (steps_near s.clock s.key (λ (v : Services). Unit {0}) (ahead s) link services step tt h room)

  beats_done : {Core Services : Type 0} (link : Link) (core : Core) (services : Services) (message : Message) → NearNow link → IsDone (with_core core services [] (sends s.clock message link))
  beats_done {Core} {Services} link core services message h =
      ends_done (IsNear s.clock s.key Any (ahead s + 1)) (with_core core services [] (sends s.clock message link)) (beats_near s.clock s.key (λ (v : Services). Unit {0}) (ahead s) link core services message tt h room)

  serves_done : {Core Services : Type 0} (link : Link) (core : Core) (step : ServiceStep Services) → length step.answers ≤ most_answers → NearNow link → IsDone (serves s.clock link core step)
  serves_done {Core} {Services} link core step few h =
      ends_done (IsNear s.clock s.key Any (ahead s + most_answers)) (serves s.clock link core step) (serves_near s.clock s.key (λ (v : Services). Unit {0}) (ahead s) link core step tt few h (room_for most_answers (omega arith)))

  datagram_done : {Core Services : Type 0} (Few : Services → Type 0) (rules : Rules Core Services) → SendsFew rules Few → (node : Side Core Services) (bytes : List ℕ) → Few node.services → node.link.extras ≡ extras_of profile_definitions → NearNow node.link → Known s bytes → HasFew bytes
      → IsDone (receives rules s.clock bytes node)
  datagram_done Few rules sends_few node bytes own extras h known few =
      let packets = frames_of (final_parse node.link.extras false bytes) in
      let short : length packets ≤ 4096 = subst (λ (x : List (ℕ × ℕ)). length (frames_of (final_parse x false bytes)) ≤ 4096) (sym extras) few in
      all_done s.clock s.key Few rules sends_few packets (ahead s) (ahead s) node (omega arith) (h, own) (near_known packets (known_frames s bytes node.link.extras extras known))
      (room_for (40 * length packets) (omega (arith, short)))

  -- ---- calls

  abbrev EachDone : (Node → Outcome Node) → Type 0
  EachDone call = (k : ℕ) (a : Node) → slice_get s.nodes k ≡ Some a → IsDone (call a)

  ticks_done : EachDone (node_ticks s.clock)
  ticks_done k (Drone n) found = drone_done (drone_ticks s.clock n) (steps_done n.link n.services (drone_waits (drone_tick n.core)) (near_at k (Drone n) found))
  ticks_done k (Station n) found = station_done (station_ticks s.clock n)
      (both_done s.clock s.key Any (ahead s) n.link n.services (station_does (station_tick n.core)) station_waits tt (λ v _. (tt, station_few (commander_tick v.commander) (client_tick v.client) (transfer_waits v.files) (tick_says v.files))) (near_at k (Station n) found) more_room)

  heartbeats_done : EachDone (node_beats s.clock)
  heartbeats_done k (Drone n) found = drone_done (drone_beats s.clock n) (beats_done n.link n.core n.services (drone_heartbeat (armed n.services.sim)) (near_at k (Drone n) found))
  heartbeats_done k (Station n) found = station_done (station_beats s.clock n) (beats_done n.link n.core n.services station_heartbeat (near_at k (Station n) found))

  flights_done : EachDone (node_flies s.clock)
  flights_done k (Drone n) found =
      drone_done (drone_sims s.clock n) (serves_done n.link n.core (drone_flies n.core n.services)
      (flown_few n.services (sim_tick n.services.sim n.core.plans.mission (sim_step n.services.server))) (near_at k (Drone n) found))
  flights_done k (Station n) found = tt

  receives_done : (bytes : List ℕ) → Known s bytes → HasFew bytes → EachDone (node_receives s.clock bytes)
  receives_done bytes known few k (Drone n) found =
      drone_done (drone_receives s.clock bytes n) (datagram_done (λ (v : DroneServices). length v.server.params ≡ param_count) drone_rules drones_send_few n bytes (g.cores k (Drone n) found).services.count (g.links k (Drone n) found).extras (near_at k (Drone n) found) known few)
  receives_done bytes known few k (Station n) found =
      station_done (station_receives s.clock bytes n) (datagram_done Any station_rules stations_send_few n bytes tt (g.links k (Station n) found).extras (near_at k (Station n) found) known few)

  sent_few : (i : ℕ) (p : Packet) → slice_get s.sent i ≡ Some p → HasFew (encoding p)
  sent_few i p found = subst (λ (ps : List Packet). length ps ≤ 4096) (sym (heard_is s g p (g.sent i p found)).frames) (omega arith)

  pub sent_done : (i : ℕ) (p : Packet) → slice_get s.sent i ≡ Some p → EachDone (node_receives s.clock (encoding p))
  sent_done i p found = receives_done (encoding p) (sent_known s g i p found) (sent_few i p found)

-- ---- steps

-- if a step isn't done, it isn't for want of a timestamp
abbrev Unspent : Result Step StepError → Type 0
Unspent (Ok t) = Unit {0}
Unspent (Err (At_limit limit)) = Unit {0}
Unspent (Err Stamps_spent) = ⊥

behind_unspent : (events : List Event) (r : Result Step StepError) → Unspent r → Unspent (after_events events r)
behind_unspent events (Ok t) h = tt
behind_unspent events (Err (At_limit limit)) h = tt
behind_unspent events (Err Stamps_spent) h = h

then_unspent : (s : WorldState) (r : Result Step StepError) (next : WorldState → Result Step StepError) → Keeps s r → Unspent r → ((t : WorldState) → StepKeeps s t → Unspent (next t)) → Unspent (and_then r next)
then_unspent s (Ok t) next keeps h each = behind_unspent t.events (next t.state) (each t.state keeps)
then_unspent s (Err (At_limit limit)) next keeps h each = tt
then_unspent s (Err Stamps_spent) next keeps h each = h

does : (s : WorldState) (k : ℕ) (name : Name) (o : Outcome Node) → IsDone o → Unspent (node_does s k name o)
does s k name None h = h
does s k name (Some d) h = by_test Unspent (nat_le (length s.sent + length (packets_in d.events)) most_frames) _ _ (λ _. tt) (λ _. tt)

module _ (s : WorldState) (g : Sound s) where
  at_index : (call : Node → Outcome Node) → EachDone s g call → (k : ℕ) (o : Option Node) → slice_get s.nodes k ≡ o → Unspent (calls_at s k o call)
  at_index call each k None found = tt
  at_index call each k (Some node) found = does s k (node_name node) (call node) (each k node found)

  placed : (call : Node → Outcome Node) → EachDone s g call → (k : Option ℕ) → Unspent (calls_found s k call)
  placed call each None = tt
  placed call each (Some k) = at_index call each k (slice_get s.nodes k) refl

  calls_unspent : (name : Name) (call : Node → Outcome Node) → EachDone s g call → Unspent (calls s name call)
  calls_unspent name call each = placed call each (position (is_named name) s.nodes)

  given_one : (i : ℕ) (p : Packet) → slice_get s.sent i ≡ Some p → (k : ℕ) (o : Option Node) → slice_get s.nodes k ≡ o → Unspent (given_to s k p o)
  given_one i p sent k None found = tt
  given_one i p sent k (Some node) found =
      by_test Unspent (same_name (node_name node) p.from) _ _ (λ _. tt) (λ _. does s k (node_name node) (node_receives s.clock (encoding p) node) (sent_done s g i p sent k node found))

  delivered : (number : ℕ) (name : Name) (o : Option Packet) → slice_get s.sent (number - 1) ≡ o → Unspent (delivers s number name o)
  delivered number name None found = tt
  delivered number name (Some p) found = calls_unspent name (node_receives s.clock (encoding p)) (sent_done s g (number - 1) p found)

given_some : (n : ℕ) (s : WorldState) → Sound s → (i : ℕ) (p : Packet) → slice_get s.sent i ≡ Some p → (k : ℕ) → Unspent (given_from s k n p)
given_some zero s g i p sent k = tt
given_some (suc n) s g i p sent k =
    then_unspent s (given_to s k p (slice_get s.nodes k)) (λ t. given_from t (k + 1) n p) ((sound_gives s g).one i p sent k) (given_one s g i p sent k (slice_get s.nodes k) refl) (λ t h. given_some n t h.sound i p (h.kept.sent i p sent) (k + 1))

flow_unspent : (s : WorldState) → Sound s → (o : Option Packet) → slice_get s.sent s.given ≡ o → (next : WorldState → Result Step StepError) → ((t : WorldState) → Sound t → Unspent (next t)) → Unspent (flow_next s o next)
flow_unspent s g None e next each = tt
flow_unspent s g (Some p) e next each =
    let inside = within s.sent s.given p e in
    let t = restated s (s.given + 1) s.draft s.clock in
    let sound = sound_restated s (s.given + 1) s.draft s.clock g (omega arith) g.draft (omega arith) g.clock in
    then_unspent t (given_to_all t p) next ((sound_gives t sound).all s.given p e) (given_some (length s.nodes) t sound s.given p e 0) (λ u h. each u h.sound)

flows_unspent : (k : ℕ) (s : WorldState) → Sound s → Unspent (flows k s)
flows_unspent zero s g = tt
flows_unspent (suc k) s g = flow_unspent s g (slice_get s.sent s.given) refl (flows k) (λ t h. flows_unspent k t h)

-- ---- a flight

flies_unspent : (n : ℕ) (drone : Name) (s : WorldState) → Sound s → Unspent (flies n drone s)
flies_unspent zero drone s g = tt
flies_unspent (suc n) drone s g =
    then_unspent s (calls s drone (node_flies s.clock)) (flies n drone) (sound_calls s g (node_flies s.clock) (sound_does s g).flies drone)
    (calls_unspent s g drone (node_flies s.clock) (flights_done s g)) (λ t h. flies_unspent n drone t h.sound)

located : (s : WorldState) (drone : Name) (at : Option Location) → Unspent (locates_as s drone at)
located s drone None = tt
located s drone (Some at) = tt

-- ---- orders

module _ (s : WorldState) (g : Sound s) where
  abbrev EachOrder : (ℕ → StationSide → Result Step StepError) → Type 0
  EachOrder order = (k : ℕ) (node : StationSide) → slice_get s.nodes k ≡ Some (Station node) → Unspent (order k node)

  order_at : (order : ℕ → StationSide → Result Step StepError) → EachOrder order → (k : ℕ) (o : Option Node) → slice_get s.nodes k ≡ o → Unspent (orders_at s k o order)
  order_at order each k None found = tt
  order_at order each k (Some (Drone n)) found = tt
  order_at order each k (Some (Station n)) found = each k n found

  order_placed : (order : ℕ → StationSide → Result Step StepError) → EachOrder order → (k : Option ℕ) → Unspent (orders_found s k order)
  order_placed order each None = tt
  order_placed order each (Some k) = order_at order each k (slice_get s.nodes k) refl

  order_unspent : (order : ℕ → StationSide → Result Step StepError) → EachOrder order → (name : Name) → Unspent (orders_to s name order)
  order_unspent order each name = order_placed order each (position (is_station_named name) s.nodes)

  -- a station's step is done
  step_done : (k : ℕ) (node : StationSide) → slice_get s.nodes k ≡ Some (Station node) → (step : StationStep) → IsDone (as_station (steps s.clock node.link node.services (station_does step)))
  step_done k node found step = station_done (steps s.clock node.link node.services (station_does step)) (steps_done s g node.link node.services (station_does step) (near_at s g k (Station node) found))

  refused_or : (k : ℕ) (node : StationSide) (why : Option OpFault) (outcome : Outcome StationSide) → IsDone (as_station outcome) → Unspent (orders s k node why outcome)
  refused_or k node (Some why) outcome h = tt
  refused_or k node None outcome h = does s k (node_of node.link.me) (as_station outcome) h

  begun_or : (k : ℕ) (node : StationSide) → slice_get s.nodes k ≡ Some (Station node) → (drone : Name) (kind : ℕ) (why : Option OpFault) → Unspent (upload_begins s k node drone kind why)
  begun_or k node found drone kind (Some why) = tt
  begun_or k node found drone kind None =
      does (record s { draft = [] }) k (node_of node.link.me) (as_station (station_begins s.clock (stream_of drone) kind s.draft node)) (step_done k node found (begin_upload node.core (stream_of drone) kind s.draft))

  begins_unspent : (station drone : Name) (kind : ℕ) → Unspent (begins s station drone kind)
  begins_unspent station drone kind =
      order_unspent (λ k node. upload_begins s k node drone kind (upload_refusal node.core kind s.draft)) (λ k node found. begun_or k node found drone kind (upload_refusal node.core kind s.draft)) station

  cancels_unspent : (station : Name) → Unspent (cancels s station)
  cancels_unspent station =
      order_unspent (λ k node. orders s k node None (station_cancels s.clock node)) (λ k node found. refused_or k node None (station_cancels s.clock node) (step_done k node found (station_cancel node.core))) station

  clears_unspent : (station drone : Name) (kind : ℕ) → Unspent (clears s station drone kind)
  clears_unspent station drone kind =
      order_unspent (λ k node. orders s k node (refusal node.core) (station_clears s.clock (stream_of drone) kind node))
      (λ k node found. refused_or k node (refusal node.core) (station_clears s.clock (stream_of drone) kind node) (step_done k node found (begin_clear node.core (stream_of drone) kind))) station

  gets_unspent : (station drone : Name) (kind : ℕ) → Unspent (gets s station drone kind)
  gets_unspent station drone kind =
      order_unspent (λ k node. orders s k node (refusal node.core) (station_gets s.clock (stream_of drone) kind node))
      (λ k node found. refused_or k node (refusal node.core) (station_gets s.clock (stream_of drone) kind node) (step_done k node found (begin_get node.core (stream_of drone) kind))) station

  asked_or : (k : ℕ) (node : StationSide) (why : Option Event) (outcome : Outcome StationSide) → IsDone (as_station outcome) → Unspent (asks s k node why outcome)
  asked_or k node (Some event) outcome h = tt
  asked_or k node None outcome h = does s k (node_of node.link.me) (as_station outcome) h

  -- its services send one message
  asked_done : (k : ℕ) (node : StationSide) → slice_get s.nodes k ≡ Some (Station node) → (step : ServiceStep StationServices) → length step.answers ≤ most_answers → IsDone (as_station (serves s.clock node.link node.core step))
  asked_done k node found step few = station_done (serves s.clock node.link node.core step) (serves_done s g node.link node.core step few (near_at s g k (Station node) found))

  commands_unspent : (station drone : Name) (number word : ℕ) → Unspent (commands s station drone number word)
  commands_unspent station drone number word =
      order_unspent (λ k node. asks s k node (command_busy (node_of node.link.me) (open_command node.services.commander)) (station_commands s.clock (stream_of drone) number word node))
      (λ k node found. asked_or k node (command_busy (node_of node.link.me) (open_command node.services.commander)) (station_commands s.clock (stream_of drone) number word node)
      (asked_done k node found (asks_command node.services (gives node.services.commander (stream_of drone) (command_of number word))) (omega arith))) station

  params_unspent : (station drone : Name) → Unspent (lists_params s station drone)
  params_unspent station drone =
      order_unspent (λ k node. asks s k node (params_busy (node_of node.link.me) node.services.client.operation) (station_lists_params s.clock (stream_of drone) node))
      (λ k node found. asked_or k node (params_busy (node_of node.link.me) node.services.client.operation) (station_lists_params s.clock (stream_of drone) node)
      (asked_done k node found (asks_params node.services (lists node.services.client (stream_of drone))) (omega arith))) station

-- ---- a drone that starts again

module _ (s : WorldState) (g : Sound s) (few : s.restarts < most_restarts) where
  starting : (k : ℕ) (n : DroneSide) → slice_get s.nodes k ≡ Some (Drone n) → IsDone (as_drone (drone_restarts s.key s.clock n))
  starting k n found =
      let first = starts_anew s (steady_of s g) k n found few in
      let t = advanced (restart_line s) k (Drone (restarted_drone s.key n)) [] in
      heartbeats_done t (sound_of t first.steady (subst (λ (ps : List Packet). length ps ≤ most_frames) (sym (append-nil s.sent)) g.frames)) k (Drone (restarted_drone s.key n)) first.there

  restart_at : (k : ℕ) (o : Option Node) → slice_get s.nodes k ≡ o → Unspent (restarts_at (restart_line s) k o)
  restart_at k None found = tt
  restart_at k (Some (Station n)) found = tt
  restart_at k (Some (Drone n)) found =
      let name = node_of n.link.me in
      let o = as_drone (drone_restarts s.key s.clock n) in
      behind_unspent (Restarted name ∷ []) (node_does (restart_line s) k name o) (does (restart_line s) k name o (starting k n found))

  restart_placed : (o : Option ℕ) → Unspent (restarts_found (restart_line s) o)
  restart_placed None = tt
  restart_placed (Some k) = restart_at k (slice_get s.nodes k) refl

  restarts_unspent : (drone : Name) → Unspent (starts_again (restart_line s) drone)
  restarts_unspent drone = restart_placed (position (is_drone_named drone) s.nodes)

-- ---- lines

at_line : (s : WorldState) → Sound s → Sound (station_line s)
at_line s g = sound_restated s (length s.sent) s.draft s.clock g (omega arith) g.draft (omega arith) g.clock

line_unspent : (s : WorldState) → Sound s → (line : Line) → LineFits line → AuthenticLine s line → IsShort line → Unspent (after_line s line)
line_unspent s g Blank fits authentic short = tt
line_unspent s g (DroneLine sys x y) fits authentic short = by_test Unspent (nat_lt (drones_in s.nodes) most_drones) _ _ (λ _. tt) (λ _. tt)
line_unspent s g (StationLine sys comp) fits authentic short = by_test Unspent (nat_lt (stations_in s.nodes) most_stations) _ _ (λ _. tt) (λ _. tt)
line_unspent s g (OneItem item) fits authentic short = tt
line_unspent s g (Items n first) fits authentic short = tt
line_unspent s g Empty fits authentic short = tt
line_unspent s g (Begin station drone kind) fits authentic short = begins_unspent (station_line s) (at_line s g) station drone (number_of kind)
line_unspent s g (Cancel station) fits authentic short = cancels_unspent (station_line s) (at_line s g) station
line_unspent s g (Clear station drone kind) fits authentic short = clears_unspent (station_line s) (at_line s g) station drone (clear_number kind)
line_unspent s g (Get station drone kind) fits authentic short = gets_unspent (station_line s) (at_line s g) station drone (number_of kind)
line_unspent s g (Command station drone number word) fits authentic short = commands_unspent (station_line s) (at_line s g) station drone number word
line_unspent s g (Params station drone) fits authentic short = params_unspent (station_line s) (at_line s g) station drone
line_unspent s g (Heartbeat node) fits authentic short = calls_unspent s g node (node_beats s.clock) (heartbeats_done s g)
line_unspent s g (Deliver number node) fits authentic short = delivered s g number node (slice_get s.sent (number - 1)) refl
line_unspent s g (Flow k) fits authentic short = flows_unspent k s g
line_unspent s g (Noise node bytes) fits authentic short =
    let few = at_most_on _ _ _ (few_frames (extras_of profile_definitions) bytes) short in
    calls_unspent s g node (node_receives s.clock bytes) (receives_done s g bytes (authentic_known s g bytes fits authentic) few)
line_unspent s g (Tick node) fits authentic short = calls_unspent s g node (node_ticks s.clock) (ticks_done s g)
line_unspent s g (Clock n) fits authentic short = tt
line_unspent s g (Sim drone n) fits authentic short = flies_unspent n drone s g
line_unspent s g (WhereIs drone) fits authentic short = located s drone (location_in s.nodes drone)
line_unspent s g (Restart drone) fits authentic short =
    by_test Unspent (nat_lt s.restarts most_restarts) _ _ (λ few. restarts_unspent s g (less _ _ few) drone) (λ _. tt)

-- ---- a scenario

-- it isn't for want of a timestamp that it stopped, if it did
abbrev HasNext : Option ScenarioError → Type 0
HasNext None = Unit {0}
HasNext (Some (Bad line reason)) = Unit {0}
HasNext (Some Too_many_lines) = Unit {0}
HasNext (Some (Not_done (At_limit limit))) = Unit {0}
HasNext (Some (Not_done Stamps_spent)) = ⊥

abbrev Goes : Played → Type 0
Goes p = HasNext p.stop

went_on : (p : Played) (r : Result Step StepError) → Unspent r → Goes (goes_on p r)
went_on p (Ok t) h = tt
went_on p (Err (At_limit limit)) h = tt
went_on p (Err Stamps_spent) h = h

judging : (p : Played) → Sound p.state → (number : ℕ) (text : List ℕ) (reason : Option Reason) → reason_against (context_of p.state) text ≡ reason → AuthenticDone p.state (line_read text reason) → Goes (judged p number text reason)
judging p g number text (Some reason) e authentic = tt
judging p g number text None e authentic =
    went_on p (after_line p.state (line_of text)) (line_unspent p.state g (line_of text) (read_fits (context_of p.state) text e).1 authentic (line_short (context_of p.state) text e))

line_goes : (p : Played) → Sound p.state → (number : ℕ) (raw text : List ℕ) → AuthenticDone p.state (line_done p.state number raw text)
    → Goes (if nat_lt most_lines number then stopped p Too_many_lines else if nat_lt most_line_bytes (length raw) then stopped p (Bad number Long) else judged p number text (reason_against (context_of p.state) text))
line_goes p g number raw text authentic =
    choosing Goes (AuthenticDone p.state) (nat_lt most_lines number) (stopped p Too_many_lines) _ None _ (λ _. tt)
    (choosing Goes (AuthenticDone p.state) (nat_lt most_line_bytes (length raw)) (stopped p (Bad number Long)) _ None _ (λ _. tt)
    (judging p g number text (reason_against (context_of p.state) text) refl))
    authentic

unless : (o : Option ScenarioError) (p next : Played) (T : Type 0) → Goes p → UnlessStopped o T → (T → Goes next) → Goes (unless_stopped o p next)
unless None p next T h each on = on each
unless (Some stop) p next T h each on = h

lines_go : (lines : List (List ℕ)) (p : Played) → Sound p.state → Goes p → (number : ℕ) → HoldsOfLines AuthenticDone p number lines → Goes (lines_played p number lines)
lines_go [] p g h number authentic = h
lines_go (raw ∷ more) p g h number authentic =
    unless p.stop p (lines_played (line_played p number raw) (number + 1) more) _ h authentic (λ each.
    lines_go more (line_played p number raw) (one_line p g number raw (without_cr raw) each.0) (line_goes p g number raw (without_cr raw) each.0) (number + 1) each.1)

last_goes : (p : Played) → Sound p.state → Goes p → (number : ℕ) (rest : List ℕ) → p.stop ≡ None → HoldsOfLast AuthenticDone true p number rest → Goes (last_played p number rest)
last_goes p g h number [] e authentic = h
last_goes p g h number (b ∷ bs) e authentic =
    line_goes p g number (b ∷ bs) (b ∷ bs) (subst (λ (o : Option ScenarioError). UnlessStopped o (AuthenticDone p.state (line_done p.state number (b ∷ bs) (b ∷ bs)))) e authentic)

rest_goes : (ended : Bool) (p : Played) → Sound p.state → Goes p → (number : ℕ) (rest : List ℕ) → p.stop ≡ None → HoldsOfLast AuthenticDone ended p number rest → Goes (rest_played ended p number rest)
rest_goes true p g h number rest e authentic = last_goes p g h number rest e authentic
rest_goes false p g h number rest e authentic =
    by_test Goes (nat_lt most_line_bytes (length rest)) _ p
    (λ _. by_test Goes (nat_lt most_lines number) _ _ (λ _. tt) (λ _. tt)) (λ _. h)

finished : (o : Option ScenarioError) (p next : Played) → Goes p → p.stop ≡ o → (p.stop ≡ None → Goes next) → Goes (unless_stopped o p next)
finished None p next h e each = each e
finished (Some stop) p next h e each = h

not_spent : (o : Option ScenarioError) → HasNext o → o ≢ Some (Not_done Stamps_spent)
not_spent o h e = subst HasNext e h

pub none_spent : NoneSpent
none_spent key ended bytes authentic =
    let lines = lines_played (at_start key) 1 (whole_lines bytes) in
    let g : Sound lines.state = sound_lines (at_start key) (sound_start key) 1 (whole_lines bytes) authentic.lines in
    let h : Goes lines = lines_go (whole_lines bytes) (at_start key) (sound_start key) tt 1 authentic.lines in
    not_spent (played key ended bytes).stop
    (finished lines.stop lines (rest_played ended lines (length (whole_lines bytes) + 1) (unfinished bytes)) h refl (λ e.
    rest_goes ended lines g h (length (whole_lines bytes) + 1) (unfinished bytes) e authentic.last))
