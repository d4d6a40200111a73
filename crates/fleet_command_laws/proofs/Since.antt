-- Drones' histories go on.
use Rattle.std.proofs.Common.{◌≡◌, ℕ, zero, suc, ◌+◌, ◌-◌, ◌⊎◌, inl, inr, true, false, nat_lt, List, [], ◌∷◌, ◌++◌, length, slice_get, slice_set, Option, Some, None, Ok, Err, refl, sym, ap, subst, append_assoc, ◌∙◌}
use Rattle.std.specs.Prelude.{nat_le, position}
use Rattle.std.specs.declared.result.Result.{Result}
use Rattle.std.proofs.lemmas.List.{append-nil}
use Rattle.std.proofs.lemmas.List.Quantifiers.{position-Some}
use Rattle.std.proofs.lemmas.Option.{get_or_from_slice_get}
use Rattle.mav_names.specs.declared.names.Name.{Name}
use Rattle.mav_names.specs.declared.names.Stream.{Stream}
use Rattle.mav_names.specs.Addresses.{same_name, node_of}
use Rattle.plan_items.specs.declared.messages.PlanMsg.{PlanMsg}
use Rattle.plan_items.specs.Kinds.{number_of}
use Rattle.plan_upload.specs.declared.faults.OpFault.{OpFault}
use Rattle.plan_upload.specs.declared.changes.Change.{Change}
use Rattle.plan_upload.specs.declared.changes.Change.TheVariants.{Same, Install, Empty as Emptied}
use Rattle.plan_upload.specs.Changes.{change_by}
use Rattle.plan_upload.specs.Kinds.{clear_number}
use Rattle.plan_upload.specs.Plans.{Plans}
use Rattle.plan_upload.specs.Refusals.{upload_refusal, refusal}
use Rattle.plan_upload.specs.Drone.{DroneState, drone_step, drone_tick}
use Rattle.mav_frame.specs.Packet.{Packet, SignatureBlock}
use Rattle.mav_frame.specs.Encoding.{encoding}
use Rattle.mav_frame.specs.FinalParse.{final_parse}
use Rattle.mav_messages.specs.declared.messages.Message.{Message}
use Rattle.mav_sign.specs.declared.admission.Admit.{Admit}
use Rattle.mav_sign.specs.declared.admission.Admit.TheVariants.{Admitted, Unsigned, BadSignature, BelowFloor, NotLater, TooOld, TooManyStreams}
use Rattle.mav_sign.specs.History.{Entry, tried, answer_to, next_in}
use Rattle.mav_sign.specs.History as history
use Rattle.mav_sign.specs.Endpoints.{frames_of}
use Rattle.command_proto.specs.Commander.{open_command}
use Rattle.drone_sim.specs.Sim.{armed, changes, sim_tick}
use Rattle.mav_nodes.specs.News.{NodeEvent, Drops}
use Rattle.mav_nodes.specs.Links.{Link, Outcome, tries, sends, sends_all}
use Rattle.mav_nodes.specs.Payloads.{plan_in, service_in}
use Rattle.mav_nodes.specs.Services.{ServiceStep, DroneServices, drone_serves, drone_notes, changes_mission, sim_step, drone_flies}
use Rattle.mav_nodes.specs.Steps.{CoreStep, answers, steps, serves, takes, admits, hears, hears_all}
use Rattle.mav_nodes.specs.Nodes.{DroneSide, StationSide, drone_rules, drone_core, drone_receives, drone_waits, drone_ticks, drone_beats, drone_heartbeat, change_events, new_drone, new_station, station_begins, station_cancels, station_clears, station_gets, station_commands, station_lists_params, drone_sims}
use Rattle.mav_nodes.specs.Restarts.{restarted_drone, drone_restarts}
use Rattle.fleet_report.specs.Events.{Event, Restarted}
use Rattle.scenario_lines.specs.declared.lines.Line.{Line}
use Rattle.scenario_lines.specs.declared.lines.Line.TheVariants.{Blank, Drone as DroneLine, Station as StationLine, Item as OneItem, Items, Empty, Begin, Cancel, Clear, Get, Command, Params, Heartbeat, Deliver, Flow, Noise, Tick, Clock, Restart, Sim, WhereIs}
use Rattle.node_reports.specs.Nodes.{Node, Drone, Station, node_name}
use Rattle.node_reports.specs.Calls.{as_drone, as_station, node_receives, node_beats, node_ticks, node_flies}
use Rattle.fleet_world.specs.WorldState.{WorldState, stream_of, is_named, is_station_named, is_drone_named, drones_in, stations_in}
use Rattle.std.specs.List.{list_any}
use Rattle.fleet_world.specs.declared.locations.Location.{Location}
use Rattle.fleet_invariants.proofs.Hearing.{flown_silent}
use Rattle.fleet_world.specs.Steps.{Step, StepError, after_events, and_then, most_frames, most_drones, most_stations, most_restarts, packets_in, node_does, calls_at, calls_found, calls, given_to, given_from, given_to_all, flow_next, flows, delivers, restarts_at, restarts_found, starts_again, restart_line, station_line, orders, upload_begins, orders_at, orders_found, orders_to, asks, command_busy, params_busy, after_line, flies, location_in, locates_as}
use Rattle.fleet_invariants.proofs.Lists.{stays_where, more_there}
use Rattle.fleet_invariants.proofs.Tests.{by_test}
use Rattle.fleet_invariants.proofs.Nodes.{Silent}
use Rattle.fleet_command_laws.specs.Since.{GoesOn, HasHistory, HistoryAfter, HistoriesAfter, EveryHistoryGoesOn}
use Rattle.fleet_command_laws.proofs.Outcomes.{Goes, goes_quietly, goes_then, goes_still, goes_sends, goes_all, goes_answers, goes_core, IsSteady, AllOf}

pub still : (h : List Entry) → GoesOn h h
still h = record { more = []; is = sym (append-nil h) }

one_more : (h j : List Entry) (x : Entry) → GoesOn h j → GoesOn h (j ++ x ∷ [])
one_more h j x g = record { more = g.more ++ x ∷ []; is = ap (λ es. es ++ x ∷ []) g.is ∙ append_assoc h g.more (x ∷ []) }

goes_further : (h j k : List Entry) → GoesOn h j → GoesOn j k → GoesOn h k
goes_further h j k f g = record { more = f.more ++ g.more; is = g.is ∙ ap (λ es. es ++ g.more) f.is ∙ append_assoc h f.more g.more }

-- ---- a drone

-- what a drone's services make of a step of its plan core leaves its executor
pub noted_executor : (v : DroneServices) (events : List NodeEvent) → (drone_notes v events).executor ≡ v.executor
noted_executor v events =
    by_test (λ (w : DroneServices). w.executor ≡ v.executor) (list_any changes_mission events) (record v { sim = changes v.sim }) v (λ _. refl) (λ _. refl)

module _ (h : List Entry) (clock : ℕ) where
  abbrev pub LinkOn : Link → List Packet → Type 0
  LinkOn link ps = GoesOn h link.history

  abbrev DroneOn : DroneSide → List Packet → Type 0
  DroneOn n ps = GoesOn h n.link.history

  abbrev pub Any : Message → Type 0
  Any m = Unit {0}

  pub steady : IsSteady LinkOn Any clock
  steady m link ps any g = one_more h link.history (history.sent (next_in link.history clock)) g

  pub all_any : (ms : List Message) → AllOf Any ms
  all_any [] = tt
  all_any (m ∷ ms) = (tt, all_any ms)

  pub changes_silent : (by : Stream) (plans : Plans) (change : Change) → Silent (change_events by plans change)
  changes_silent by plans Same = tt
  changes_silent by plans (Install kind) = tt
  changes_silent by plans (Emptied None) = tt
  changes_silent by plans (Emptied (Some kind)) = tt

  stepping : (link : Link) (services : DroneServices) (ps : List Packet) (step : CoreStep DroneState) → Silent step.first → Silent step.last → LinkOn link ps → Goes DroneOn ps (steps clock link services step)
  stepping link services ps step first last g =
      goes_quietly DroneOn ps step.first _ first
      (goes_core DroneOn step.core services LinkOn step.last ps (answers clock step.answer link) (λ l qs k. k) last (goes_answers LinkOn Any clock steady (λ m. tt) step.answer link ps g))

  serving : (link : Link) (core : DroneState) (ps : List Packet) (t : ServiceStep DroneServices) → Silent t.last → LinkOn link ps → Goes DroneOn ps (serves clock link core t)
  serving link core ps t silent g =
      goes_core DroneOn core t.services LinkOn t.last ps (sends_all clock t.answers link) (λ l qs k. k) silent (goes_all LinkOn Any clock steady t.answers link ps (all_any t.answers) g)

  taking : (n : DroneSide) (ps : List Packet) (from : Stream) (plan : Option PlanMsg) (service : Option Message) → DroneOn n ps → Goes DroneOn ps (takes drone_rules clock n from plan service)
  taking n ps from None None g = goes_still DroneOn ps n [] tt g
  taking n ps from None (Some m) g = serving n.link n.core ps (drone_serves n.core n.services from m) tt g
  taking n ps from (Some m) service g =
      let step = drone_step true n.core from m in
      stepping n.link (drone_notes n.services (drone_core n.core from m).first) ps (drone_core n.core from m) (changes_silent from step.drone.plans (change_by step.event)) tt g

  admitting : (n : DroneSide) (ps : List Packet) (p : Packet) (answer : Admit) (block : Option SignatureBlock) → DroneOn n ps → Goes DroneOn ps (admits drone_rules clock n p answer block)
  admitting n ps p Admitted None g = goes_still DroneOn ps n (Drops Admitted ∷ []) tt g
  admitting n ps p Admitted (Some block) g = taking n ps (history.stream_of p block) (plan_in p.id p.payload) (service_in p.id p.payload) g
  admitting n ps p Unsigned block g = goes_still DroneOn ps n (Drops Unsigned ∷ []) tt g
  admitting n ps p BadSignature block g = goes_still DroneOn ps n (Drops BadSignature ∷ []) tt g
  admitting n ps p (BelowFloor low) block g = goes_still DroneOn ps n (Drops (BelowFloor low) ∷ []) tt g
  admitting n ps p (NotLater last) block g = goes_still DroneOn ps n (Drops (NotLater last) ∷ []) tt g
  admitting n ps p (TooOld local) block g = goes_still DroneOn ps n (Drops (TooOld local) ∷ []) tt g
  admitting n ps p TooManyStreams block g = goes_still DroneOn ps n (Drops TooManyStreams ∷ []) tt g

  hearing_all : (packets : List Packet) (n : DroneSide) (ps : List Packet) → DroneOn n ps → Goes DroneOn ps (hears_all drone_rules clock packets n)
  hearing_all [] n ps g = goes_still DroneOn ps n [] tt g
  hearing_all (p ∷ packets) n ps g =
      let answer : Admit = answer_to n.link.key n.link.history p in
      goes_then DroneOn DroneOn ps (hears drone_rules clock p n) (hears_all drone_rules clock packets)
      (admitting (record n { link = tries p n.link }) ps p answer p.block (one_more h n.link.history (tried p answer) g)) (λ a qs k. hearing_all packets a qs k)

  simming : (n : DroneSide) → DroneOn n [] → Goes DroneOn [] (drone_sims clock n)
  simming n g =
      let tick = sim_tick n.services.sim n.core.plans.mission (sim_step n.services.server) in
      serving n.link n.core [] (drone_flies n.core n.services) (flown_silent tick.reached tick.captured tick.sim.captures) g

  beating : (n : DroneSide) → DroneOn n [] → Goes DroneOn [] (drone_beats clock n)
  beating n g =
      goes_core DroneOn n.core n.services LinkOn [] [] (sends clock (drone_heartbeat (armed n.services.sim)) n.link) (λ l qs k. k) tt
      (goes_sends LinkOn clock (drone_heartbeat (armed n.services.sim)) n.link [] (steady (drone_heartbeat (armed n.services.sim)) n.link [] tt g))

-- ---- a node

-- what is said of a drone alone
abbrev NodeOn : List Entry → Node → Node → List Packet → Type 0
NodeOn h (Drone a) (Drone n) ps = GoesOn h n.link.history
NodeOn h (Drone a) (Station n) ps = ⊥
NodeOn h (Station a) b ps = Unit {0}

of_drone : (h : List Entry) (clock : ℕ) (a : DroneSide) (o : Outcome DroneSide) → Goes (DroneOn h clock) [] o → Goes (NodeOn h (Drone a)) [] (as_drone o)
of_drone h clock a None g = tt
of_drone h clock a (Some d) g = g

no_drone : (h : List Entry) (a : StationSide) (o : Outcome Node) → Goes (NodeOn h (Station a)) [] o
no_drone h a None = tt
no_drone h a (Some d) = tt

abbrev own : Node → List Entry
own (Drone n) = n.link.history
own (Station n) = []

abbrev CallOn : (Node → Outcome Node) → Type 0
CallOn call = (a : Node) → Goes (NodeOn (own a) a) [] (call a)

receives_on : (clock : ℕ) (bytes : List ℕ) → CallOn (node_receives clock bytes)
receives_on clock bytes (Drone n) =
    of_drone n.link.history clock n (drone_receives clock bytes n) (hearing_all n.link.history clock (frames_of (final_parse n.link.extras false bytes)) n [] (still n.link.history))
receives_on clock bytes (Station n) = no_drone [] n (node_receives clock bytes (Station n))

ticks_on : (clock : ℕ) → CallOn (node_ticks clock)
ticks_on clock (Drone n) =
    of_drone n.link.history clock n (drone_ticks clock n) (stepping n.link.history clock n.link n.services [] (drone_waits (drone_tick n.core)) tt tt (still n.link.history))
ticks_on clock (Station n) = no_drone [] n (node_ticks clock (Station n))

beats_on : (clock : ℕ) → CallOn (node_beats clock)
beats_on clock (Drone n) = of_drone n.link.history clock n (drone_beats clock n) (beating n.link.history clock n (still n.link.history))
beats_on clock (Station n) = no_drone [] n (node_beats clock (Station n))

flies_on : (clock : ℕ) → CallOn (node_flies clock)
flies_on clock (Drone n) = of_drone n.link.history clock n (drone_sims clock n) (simming n.link.history clock n (still n.link.history))
flies_on clock (Station n) = no_drone [] n (node_flies clock (Station n))

-- ---- the world

-- each drone, after a step
abbrev On : WorldState → Result Step StepError → Type 0
On s (Ok t) = (k : ℕ) (d : DroneSide) → slice_get s.nodes k ≡ Some (Drone d) → HasHistory t.state k d.link.history
On s (Err error) = Unit {0}

rests_on : (s t : WorldState) → t.nodes ≡ s.nodes → (k : ℕ) (d : DroneSide) → slice_get s.nodes k ≡ Some (Drone d) → HasHistory t k d.link.history
rests_on s t same k d found = record { node = d; found = ap (λ ns. slice_get ns k) same ∙ found; goes_on = still d.link.history }

behind_on : (s : WorldState) (events : List Event) (r : Result Step StepError) → On s r → On s (after_events events r)
behind_on s events (Ok t) h = λ k d found. let x = h k d found in record { node = x.node; found = x.found; goes_on = x.goes_on }
behind_on s events (Err error) h = tt

both_on : (s t : WorldState) (r : Result Step StepError) → ((k : ℕ) (d : DroneSide) → slice_get s.nodes k ≡ Some (Drone d) → HasHistory t k d.link.history) → On t r → On s r
both_on s t (Ok u) h i =
    λ k d found. let x = h k d found in let y = i k x.node x.found in record { node = y.node; found = y.found; goes_on = goes_further d.link.history x.node.link.history y.node.link.history x.goes_on y.goes_on }
both_on s t (Err error) h i = tt

then_on : (s : WorldState) (r : Result Step StepError) (next : WorldState → Result Step StepError) → On s r → ((t : WorldState) → On t (next t)) → On s (and_then r next)
then_on s (Ok t) next h each = behind_on s t.events (next t.state) (both_on s t.state (next t.state) h (each t.state))
then_on s (Err error) next h each = tt

-- a drone that is replaced has this history
replaced : (h : List Entry) (t : WorldState) (k : ℕ) (d : DroneSide) (b : Node) (ps : List Packet) → slice_get t.nodes k ≡ Some b → NodeOn h (Drone d) b ps → HasHistory t k h
replaced h t k d (Drone n) ps found g = record { node = n; found = found; goes_on = g }
replaced h t k d (Station n) ps found g = absurd g

drone_is : (d : DroneSide) (a : Node) → Drone d ≡ a → (b : Node) (ps : List Packet) → NodeOn (own a) a b ps → NodeOn d.link.history (Drone d) b ps
drone_is d a same b ps g = subst (λ x. NodeOn (own x) x b ps) (sym same) g

does_on : (s : WorldState) (k : ℕ) (a : Node) → slice_get s.nodes k ≡ Some a → (name : Name) (o : Outcome Node) → Goes (NodeOn (own a) a) [] o → On s (node_does s k name o)
does_on s k a found name None g = tt
does_on s k a found name (Some d) g =
    by_test (On s) (nat_le (length s.sent + length (packets_in d.events)) most_frames) _ _
    (λ _. λ j e there. elim (stays_where s.nodes k a d.node found j (Drone e) there) [
      | inl x ↦ replaced e.link.history (record s { nodes = slice_set s.nodes k d.node; sent = s.sent ++ packets_in d.events }) j e d.node (packets_in d.events) x.1.1 (drone_is e a x.1.0 d.node (packets_in d.events) g)
      | inr x ↦ record { node = e; found = x; goes_on = still e.link.history }
    ]) (λ _. tt)

module _ (s : WorldState) where
  at_index : (call : Node → Outcome Node) → CallOn call → (k : ℕ) (a : Option Node) → slice_get s.nodes k ≡ a → On s (calls_at s k a call)
  at_index call each k None found = rests_on s s refl
  at_index call each k (Some a) found = does_on s k a found (node_name a) (call a) (each a)

  placed : (call : Node → Outcome Node) → CallOn call → (k : Option ℕ) → On s (calls_found s k call)
  placed call each None = rests_on s s refl
  placed call each (Some k) = at_index call each k (slice_get s.nodes k) refl

  calls_on : (call : Node → Outcome Node) → CallOn call → (name : Name) → On s (calls s name call)
  calls_on call each name = placed call each (position (is_named name) s.nodes)

  to_one : (p : Packet) (k : ℕ) (a : Option Node) → slice_get s.nodes k ≡ a → On s (given_to s k p a)
  to_one p k None found = rests_on s s refl
  to_one p k (Some a) found =
      by_test (On s) (same_name (node_name a) p.from) _ _ (λ _. rests_on s s refl) (λ _. does_on s k a found (node_name a) (node_receives s.clock (encoding p) a) (receives_on s.clock (encoding p) a))

  -- orders
  abbrev EachOrder : (ℕ → StationSide → Result Step StepError) → Type 0
  EachOrder order = (k : ℕ) (n : StationSide) → slice_get s.nodes k ≡ Some (Station n) → On s (order k n)

  order_at : (order : ℕ → StationSide → Result Step StepError) → EachOrder order → (k : ℕ) (o : Option Node) → slice_get s.nodes k ≡ o → On s (orders_at s k o order)
  order_at order each k None found = rests_on s s refl
  order_at order each k (Some (Drone n)) found = rests_on s s refl
  order_at order each k (Some (Station n)) found = each k n found

  order_placed : (order : ℕ → StationSide → Result Step StepError) → EachOrder order → (k : Option ℕ) → On s (orders_found s k order)
  order_placed order each None = rests_on s s refl
  order_placed order each (Some k) = order_at order each k (slice_get s.nodes k) refl

  orders_on : (order : ℕ → StationSide → Result Step StepError) → EachOrder order → (name : Name) → On s (orders_to s name order)
  orders_on order each name = order_placed order each (position (is_station_named name) s.nodes)

  follows : (k : ℕ) (n : StationSide) → slice_get s.nodes k ≡ Some (Station n) → (name : Name) (o : Outcome StationSide) → On s (node_does s k name (as_station o))
  follows k n found name o = does_on s k (Station n) found name (as_station o) (no_drone [] n (as_station o))

  order_or : (k : ℕ) (n : StationSide) → slice_get s.nodes k ≡ Some (Station n) → (why : Option OpFault) (o : Outcome StationSide) → On s (orders s k n why o)
  order_or k n found (Some why) o = rests_on s s refl
  order_or k n found None o = follows k n found (node_of n.link.me) o

  asked_or : (k : ℕ) (n : StationSide) → slice_get s.nodes k ≡ Some (Station n) → (why : Option Event) (o : Outcome StationSide) → On s (asks s k n why o)
  asked_or k n found (Some why) o = rests_on s s refl
  asked_or k n found None o = follows k n found (node_of n.link.me) o

to_some : (n : ℕ) (s : WorldState) (p : Packet) (k : ℕ) → On s (given_from s k n p)
to_some zero s p k = rests_on s s refl
to_some (suc n) s p k =
    then_on s (given_to s k p (slice_get s.nodes k)) (λ t. given_from t (k + 1) n p) (to_one s p k (slice_get s.nodes k) refl) (λ t. to_some n t p (k + 1))

-- a state with the same nodes
on_like : (s u : WorldState) (r : Result Step StepError) → u.nodes ≡ s.nodes → On u r → On s r
on_like s u r same h = both_on s u r (rests_on s u same) h

flow_on : (s : WorldState) (o : Option Packet) (next : WorldState → Result Step StepError) → ((t : WorldState) → On t (next t)) → On s (flow_next s o next)
flow_on s None next each = rests_on s s refl
flow_on s (Some p) next each =
    let t : WorldState = record s { given = s.given + 1 } in
    on_like s t (and_then (given_to_all t p) next) refl (then_on t (given_to_all t p) next (to_some (length s.nodes) t p 0) each)

flows_on : (k : ℕ) (s : WorldState) → On s (flows k s)
flows_on zero s = rests_on s s refl
flows_on (suc k) s = flow_on s (slice_get s.sent s.given) (flows k) (λ t. flows_on k t)

flights_on : (n : ℕ) (drone : Name) (s : WorldState) → On s (flies n drone s)
flights_on zero drone s = rests_on s s refl
flights_on (suc n) drone s =
    then_on s (calls s drone (node_flies s.clock)) (flies n drone) (calls_on s (node_flies s.clock) (flies_on s.clock) drone) (λ t. flights_on n drone t)

located : (s : WorldState) (drone : Name) (at : Option Location) → On s (locates_as s drone at)
located s drone None = rests_on s s refl
located s drone (Some at) = rests_on s s refl

begin_on : (s : WorldState) (drone : Name) (kind k : ℕ) (n : StationSide) → slice_get s.nodes k ≡ Some (Station n) → (why : Option OpFault) → On s (upload_begins s k n drone kind why)
begin_on s drone kind k n found (Some why) = rests_on s s refl
begin_on s drone kind k n found None =
    let t : WorldState = record s { draft = [] } in
    on_like s t (upload_begins s k n drone kind None) refl (follows t k n found (node_of n.link.me) (station_begins s.clock (stream_of drone) kind s.draft n))

delivered : (s : WorldState) (number : ℕ) (name : Name) (o : Option Packet) → On s (delivers s number name o)
delivered s number name None = rests_on s s refl
delivered s number name (Some p) = calls_on s (node_receives s.clock (encoding p)) (receives_on s.clock (encoding p)) name

joined : (s : WorldState) (n : Node) (k : ℕ) (d : DroneSide) → slice_get s.nodes k ≡ Some (Drone d) → HasHistory (record s { nodes = s.nodes ++ n ∷ [] }) k d.link.history
joined s n k d found = record { node = d; found = more_there s.nodes (n ∷ []) (Drone d) k found; goes_on = still d.link.history }

-- ---- a drone that starts again

abbrev RestartOn : WorldState → Name → Result Step StepError → Type 0
RestartOn s drone (Ok t) =
    (k : ℕ) (d : DroneSide) → slice_get s.nodes k ≡ Some (Drone d) → HasHistory t.state k d.link.history ⊎ ((same_name (node_of d.link.me) drone ≡ true) × HasHistory t.state k (restarted_drone s.key d).link.history)
RestartOn s drone (Err error) = Unit {0}

module _ (s : WorldState) (drone : Name) where
  unchanged : (r : Result Step StepError) → On s r → RestartOn s drone r
  unchanged (Ok t) h = λ k d found. inl (h k d found)
  unchanged (Err error) h = tt

  behind_restart : (events : List Event) (r : Result Step StepError) → RestartOn s drone r → RestartOn s drone (after_events events r)
  behind_restart events (Ok t) h = λ k d found. h k d found
  behind_restart events (Err error) h = tt

  drone_same : (e n : DroneSide) → ◌≡◌ {A = Node} (Drone e) (Drone n) → n ≡ e
  drone_same e n same = cc

  restart_does : (k : ℕ) (n : DroneSide) → slice_get s.nodes k ≡ Some (Drone n) → same_name (node_of n.link.me) drone ≡ true → (name : Name) (o : Outcome Node) → Goes (NodeOn (restarted_drone s.key n).link.history (Drone n)) [] o → RestartOn s drone (node_does s k name o)
  restart_does k n found named name None g = tt
  restart_does k n found named name (Some d) g =
      let t : WorldState = record s { nodes = slice_set s.nodes k d.node; sent = s.sent ++ packets_in d.events } in
      by_test (RestartOn s drone) (nat_le (length s.sent + length (packets_in d.events)) most_frames) _ _
      (λ _. λ j e there. elim (stays_where s.nodes k (Drone n) d.node found j (Drone e) there) [
        | inl x ↦ inr (subst (λ (m : DroneSide). (same_name (node_of m.link.me) drone ≡ true) × HasHistory t j (restarted_drone s.key m).link.history) (drone_same e n x.1.0)
            (named, replaced (restarted_drone s.key n).link.history t j n d.node (packets_in d.events) x.1.1 g))
        | inr x ↦ inl (record { node = e; found = x; goes_on = still e.link.history })
      ]) (λ _. tt)

  restart_at : (k : ℕ) (o : Option Node) → slice_get s.nodes k ≡ o → ((n : DroneSide) → o ≡ Some (Drone n) → same_name (node_of n.link.me) drone ≡ true) → RestartOn s drone (restarts_at s k o)
  restart_at k None found named = unchanged (restarts_at s k None) (rests_on s s refl)
  restart_at k (Some (Station n)) found named = unchanged (restarts_at s k (Some (Station n))) (rests_on s s refl)
  restart_at k (Some (Drone n)) found named =
      let h : List Entry = (restarted_drone s.key n).link.history in
      let o : Outcome Node = as_drone (drone_restarts s.key s.clock n) in
      behind_restart (Restarted (node_of n.link.me) ∷ []) (node_does s k (node_of n.link.me) o)
      (restart_does k n found (named n refl) (node_of n.link.me) o (of_drone h s.clock n (drone_restarts s.key s.clock n) (beating h s.clock (restarted_drone s.key n) (still h))))

  named_at : (k : ℕ) → position (is_drone_named drone) s.nodes ≡ Some k → (n : DroneSide) → slice_get s.nodes k ≡ Some (Drone n) → same_name (node_of n.link.me) drone ≡ true
  named_at k is n found =
      sym (ap (is_drone_named drone) (get_or_from_slice_get s.nodes k (Drone n) (Drone n) found)) ∙ (position-Some (is_drone_named drone) s.nodes k (Drone n) is).1

  restart_placed : (o : Option ℕ) → position (is_drone_named drone) s.nodes ≡ o → RestartOn s drone (restarts_found s o)
  restart_placed None is = unchanged (restarts_found s None) (rests_on s s refl)
  restart_placed (Some k) is = restart_at k (slice_get s.nodes k) refl (λ n found. named_at k is n found)

  counted : (r : Result Step StepError) → RestartOn (restart_line s) drone r → RestartOn s drone r
  counted (Ok t) h = λ k d found. h k d found
  counted (Err error) h = tt

restarts_on : (s : WorldState) (drone : Name) → RestartOn s drone (starts_again (restart_line s) drone)
restarts_on s drone =
    counted s drone (starts_again (restart_line s) drone) (restart_placed (restart_line s) drone (position (is_drone_named drone) s.nodes) refl)

-- ---- lines

of_restart : (s : WorldState) (drone : Name) (r : Result Step StepError) → RestartOn s drone r → HistoriesAfter s (Restart drone) r
of_restart s drone (Ok t) h = h
of_restart s drone (Err error) h = tt

-- every line but `restart`
module _ (s : WorldState) (line : Line) (plain : (t : WorldState) (k : ℕ) (d : DroneSide) → HasHistory t k d.link.history → HistoryAfter line s t k d) where
  by_on : (r : Result Step StepError) → On s r → HistoriesAfter s line r
  by_on (Ok t) h = λ k d found. plain t.state k d (h k d found)
  by_on (Err error) h = tt

-- from the state with its place of flows
placed_on : (s : WorldState) (r : Result Step StepError) → On (station_line s) r → On s r
placed_on s r h = on_like s (station_line s) r refl h

pub every_history : EveryHistoryGoesOn
every_history s Blank = by_on s Blank (λ t k d h. h) (after_line s Blank) (rests_on s s refl)
every_history s (DroneLine sys x y) =
    by_test (HistoriesAfter s (DroneLine sys x y)) (nat_lt (drones_in s.nodes) most_drones) _ _ (λ _. joined s (Drone (new_drone s.key sys (record { x = x; y = y })))) (λ _. tt)
every_history s (StationLine sys comp) =
    by_test (HistoriesAfter s (StationLine sys comp)) (nat_lt (stations_in s.nodes) most_stations) _ _ (λ _. joined s (Station (new_station s.key (stream_of (record { sys = sys; comp = comp })) 0))) (λ _. tt)
every_history s (OneItem item) = by_on s (OneItem item) (λ t k d h. h) (after_line s (OneItem item)) (λ k d found. rests_on s _ refl k d found)
every_history s (Items n first) = by_on s (Items n first) (λ t k d h. h) (after_line s (Items n first)) (λ k d found. rests_on s _ refl k d found)
every_history s Empty = by_on s Empty (λ t k d h. h) (after_line s Empty) (λ k d found. rests_on s _ refl k d found)
every_history s (Begin station drone kind) =
    let u : WorldState = station_line s in
    by_on s (Begin station drone kind) (λ t k d h. h) (after_line s (Begin station drone kind)) (placed_on s (after_line s (Begin station drone kind))
    (orders_on u (λ k n. upload_begins u k n drone (number_of kind) (upload_refusal n.core (number_of kind) u.draft)) (λ k n found. begin_on u drone (number_of kind) k n found (upload_refusal n.core (number_of kind) u.draft)) station))
every_history s (Cancel station) =
    let u : WorldState = station_line s in
    by_on s (Cancel station) (λ t k d h. h) (after_line s (Cancel station)) (placed_on s (after_line s (Cancel station))
    (orders_on u (λ k n. orders u k n None (station_cancels u.clock n)) (λ k n found. order_or u k n found None (station_cancels u.clock n)) station))
every_history s (Clear station drone kind) =
    let u : WorldState = station_line s in
    by_on s (Clear station drone kind) (λ t k d h. h) (after_line s (Clear station drone kind)) (placed_on s (after_line s (Clear station drone kind))
    (orders_on u (λ k n. orders u k n (refusal n.core) (station_clears u.clock (stream_of drone) (clear_number kind) n)) (λ k n found. order_or u k n found (refusal n.core) (station_clears u.clock (stream_of drone) (clear_number kind) n)) station))
every_history s (Get station drone kind) =
    let u : WorldState = station_line s in
    by_on s (Get station drone kind) (λ t k d h. h) (after_line s (Get station drone kind)) (placed_on s (after_line s (Get station drone kind))
    (orders_on u (λ k n. orders u k n (refusal n.core) (station_gets u.clock (stream_of drone) (number_of kind) n)) (λ k n found. order_or u k n found (refusal n.core) (station_gets u.clock (stream_of drone) (number_of kind) n)) station))
every_history s (Command station drone number word) =
    let u : WorldState = station_line s in
    by_on s (Command station drone number word) (λ t k d h. h) (after_line s (Command station drone number word)) (placed_on s (after_line s (Command station drone number word))
    (orders_on u (λ k n. asks u k n (command_busy (node_of n.link.me) (open_command n.services.commander)) (station_commands u.clock (stream_of drone) number word n))
    (λ k n found. asked_or u k n found (command_busy (node_of n.link.me) (open_command n.services.commander)) (station_commands u.clock (stream_of drone) number word n)) station))
every_history s (Params station drone) =
    let u : WorldState = station_line s in
    by_on s (Params station drone) (λ t k d h. h) (after_line s (Params station drone)) (placed_on s (after_line s (Params station drone))
    (orders_on u (λ k n. asks u k n (params_busy (node_of n.link.me) n.services.client.operation) (station_lists_params u.clock (stream_of drone) n))
    (λ k n found. asked_or u k n found (params_busy (node_of n.link.me) n.services.client.operation) (station_lists_params u.clock (stream_of drone) n)) station))
every_history s (Heartbeat node) = by_on s (Heartbeat node) (λ t k d h. h) (after_line s (Heartbeat node)) (calls_on s (node_beats s.clock) (beats_on s.clock) node)
every_history s (Deliver number node) =
    by_on s (Deliver number node) (λ t k d h. h) (after_line s (Deliver number node)) (delivered s number node (slice_get s.sent (number - 1)))
every_history s (Flow n) = by_on s (Flow n) (λ t k d h. h) (after_line s (Flow n)) (flows_on n s)
every_history s (Noise node bytes) =
    by_on s (Noise node bytes) (λ t k d h. h) (after_line s (Noise node bytes)) (calls_on s (node_receives s.clock bytes) (receives_on s.clock bytes) node)
every_history s (Tick node) = by_on s (Tick node) (λ t k d h. h) (after_line s (Tick node)) (calls_on s (node_ticks s.clock) (ticks_on s.clock) node)
every_history s (Clock n) = by_on s (Clock n) (λ t k d h. h) (after_line s (Clock n)) (λ k d found. rests_on s _ refl k d found)
every_history s (Sim drone n) = by_on s (Sim drone n) (λ t k d h. h) (after_line s (Sim drone n)) (flights_on n drone s)
every_history s (WhereIs drone) =
    by_on s (WhereIs drone) (λ t k d h. h) (after_line s (WhereIs drone)) (located s drone (location_in s.nodes drone))
every_history s (Restart drone) =
    by_test (HistoriesAfter s (Restart drone)) (nat_lt s.restarts most_restarts) _ _ (λ _. of_restart s drone (starts_again (restart_line s) drone) (restarts_on s drone)) (λ _. tt)
