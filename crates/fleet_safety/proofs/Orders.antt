-- Orders to a station, and ticks and HEARTBEATs, in both worlds.
use Rattle.std.proofs.Common.{◌≡◌, ℕ, true, List, [], ◌∷◌, ◌++◌, position, slice_get, Option, Some, None, Ok, refl, sym, ap, subst, arith, ◌∙◌}
use Rattle.std.specs.declared.result.Result.{Result}
use Rattle.std.proofs.lemmas.List.{append-nil}
use Rattle.mav_names.specs.declared.names.Name.{Name}
use Rattle.mav_names.specs.declared.names.Stream.{Stream}
use Rattle.mav_frame.specs.Packet.{Packet}
use Rattle.plan_items.specs.declared.kinds.PlanKind.{PlanKind}
use Rattle.plan_items.specs.declared.kinds.PlanKind.TheVariants.{Mission, Fence, Rally}
use Rattle.plan_items.specs.Kinds.{number_of}
use Rattle.plan_upload.specs.declared.faults.OpFault.{OpFault}
use Rattle.plan_upload.specs.Addresses.{node_of}
use Rattle.plan_upload.specs.Kinds.{clear_number}
use Rattle.plan_upload.specs.Refusals.{upload_refusal, refusal}
use Rattle.plan_safety.specs.History.{steps_of}
use Rattle.plan_safety.specs.World as world
use Rattle.plan_safety.specs.World.{Nodes, Distinct, World, Begins, Clears, Gets, Cancels, Station_waits, happens, quiet}
use Rattle.plan_ranges.specs.Ranges.{NameInRange, StreamInRange, Is8, Is16, Is32}
use Rattle.command_proto.specs.Commander.{open_command}
use Rattle.param_proto.specs.Client.{Operation as ParamOperation}
use Rattle.mav_nodes.specs.Links.{Outcome}
use Rattle.mav_nodes.specs.Nodes.{StationSide, drone_ticks, drone_beats, station_ticks, station_beats, station_begins, station_cancels, station_clears, station_gets, station_commands, station_lists_params, drone_sims}
use Rattle.scenario_lines.specs.LineContext.{has_drone}
use Rattle.node_reports.specs.Nodes.{Node, Drone, Station, node_name}
use Rattle.node_reports.specs.Calls.{node_ticks, node_beats, as_station, node_flies}
use Rattle.fleet_world.specs.WorldState.{WorldState, stream_of, names_of, is_station_named}
use Rattle.fleet_world.specs.Steps.{Step, StepError, node_does, refuses, orders, upload_begins, orders_at, orders_found, orders_to, begins, cancels, clears, gets, command_busy, params_busy, asks, commands, lists_params}
use Rattle.fleet_report.specs.Events.{Event, Command_refused, Params_refused}
use Rattle.fleet_invariants.specs.Sound.{Sound}
use Rattle.fleet_invariants.specs.Laws.{OrderKeeps, EveryCallKeeps, EachCallKeeps}
use Rattle.fleet_safety.specs.Reporting.{seen, Refused, refused_reported, refusal_reported, step_reported}
use Rattle.fleet_safety.specs.Actions.{Action, Order, Accepts_upload, Accepts_clear, Accepts_get, spoken_in, moves, ticks, asking, cancelled, acts, ticked, beaten, at_station, if_ordered, to_station, upload_at, clear_at, get_at, cancel_at, command_at, params_at, simmed}
use Rattle.fleet_safety.proofs.Names.{kept, HoldsDrone, a_drone, stream_named}
use Rattle.fleet_safety.proofs.Reports.{silent_step}
use Rattle.fleet_safety.proofs.Fits.{Stands, Reached, Fits, reached_on, Leads}
use Rattle.fleet_safety.proofs.Own.{own_of, own_nothing, tame_nothing}
use Rattle.fleet_safety.proofs.Spoken.{said}
use Rattle.fleet_safety.proofs.Datagrams.{station_outcome, drone_saying, station_saying}
use Rattle.fleet_safety.proofs.Drones as drones
use Rattle.fleet_safety.proofs.Stations as stations
use Rattle.fleet_safety.proofs.States.{StateLeads, state_maps, state_rests, Goes, goes_still, does_leads}

-- a step that reports nothing of the world's nodes
quiet_stands : (clock : ℕ) (w : World) (a : Node) → Stands clock w a → Stands clock (quiet w) a
quiet_stands clock w (Drone a) h = h
quiet_stands clock w (Station a) h = h

quiet_fits : (n : Nodes) (clock : ℕ) (nodes : List Node) (sent : List Packet) (w : World) → Reached n (quiet w) → Fits n clock nodes sent w → Fits n clock nodes sent (quiet w)
quiet_fits n clock nodes sent w reached h = record {
  named = h.named;
  covers = h.covers;
  stands = λ i a e. quiet_stands clock w a (h.stands i a e);
  unnamed = h.unnamed;
  frames = h.frames;
  reached = reached;
}

small : (kind : PlanKind) → Is8 (number_of kind)
small Mission = omega arith
small Fence = omega arith
small Rally = omega arith

small_clear : (kind : Option PlanKind) → Is8 (clear_number kind)
small_clear None = omega arith
small_clear (Some kind) = small kind

module _ (number : ℕ) (n : Nodes) (distinct : Distinct n) (every_call : EveryCallKeeps) (s : WorldState) (w : World) (sound : Sound s) (fits : Fits n s.clock s.nodes s.sent w) where
  calls_keep : EachCallKeeps s
  calls_keep = every_call s sound

  still : StateLeads n w (Goes n s) (Ok (record { state = s; events = [] })) []
  still = state_rests n w (Goes n s) s (goes_still n s w sound fits)

  -- ---- ticks and HEARTBEATs
  tick_of : (k : ℕ) (a : Node) → slice_get s.nodes k ≡ Some a → Leads n s.clock s.nodes s.sent w k a (λ x. x) (node_ticks s.clock a) (moves s.clock a (ticks a) ++ spoken_in a (node_ticks s.clock a)) []
  tick_of k (Drone a) e = drone_saying n s.clock s.nodes s.sent w k a (drone_ticks s.clock a) (moves s.clock (Drone a) (ticks (Drone a))) [] (drones.ticks_lead n distinct s.clock s.nodes s.sent w fits k a e)
  tick_of k (Station a) e = station_saying n s.clock s.nodes s.sent w k a (station_ticks s.clock a) (moves s.clock (Station a) (ticks (Station a))) [] (stations.ticks_lead n distinct s.clock s.nodes s.sent w fits k a e)

  beat_of : (k : ℕ) (a : Node) → slice_get s.nodes k ≡ Some a → Leads n s.clock s.nodes s.sent w k a (λ x. x) (node_beats s.clock a) (spoken_in a (node_beats s.clock a)) []
  beat_of k (Drone a) e = drone_saying n s.clock s.nodes s.sent w k a (drone_beats s.clock a) [] [] (drones.beats_lead n distinct s.clock s.nodes s.sent w fits k a e)
  beat_of k (Station a) e = station_saying n s.clock s.nodes s.sent w k a (station_beats s.clock a) [] [] (stations.beats_lead n distinct s.clock s.nodes s.sent w fits k a e)

  sim_of : (k : ℕ) (a : Node) → slice_get s.nodes k ≡ Some a → Leads n s.clock s.nodes s.sent w k a (λ x. x) (node_flies s.clock a) (spoken_in a (node_flies s.clock a)) []
  sim_of k (Drone a) e = drone_saying n s.clock s.nodes s.sent w k a (drone_sims s.clock a) [] [] (drones.flight_leads n distinct s.clock s.nodes s.sent w fits k a e)
  sim_of k (Station a) e = stations.rests_lead n distinct s.clock s.nodes s.sent w fits k a e

  pub sims_lead : (k : ℕ) (a : Node) → slice_get s.nodes k ≡ Some a → StateLeads n w (Goes n s) (node_does s k (node_name a) (node_flies s.clock a)) (simmed number s k a)
  sims_lead k a e =
      let keeps = calls_keep.flies k a (node_name a) e in
      does_leads number n s s w k a e (λ i p h. h) (node_flies s.clock a) (spoken_in a (node_flies s.clock a)) [] (sim_of k a e) keeps.1 keeps.0

  pub ticks_lead : (k : ℕ) (a : Node) → slice_get s.nodes k ≡ Some a → StateLeads n w (Goes n s) (node_does s k (node_name a) (node_ticks s.clock a)) (ticked number s k a)
  ticks_lead k a e =
      let keeps = calls_keep.ticks k a (node_name a) e in
      does_leads number n s s w k a e (λ i p h. h) (node_ticks s.clock a) (moves s.clock a (ticks a) ++ spoken_in a (node_ticks s.clock a)) [] (tick_of k a e) keeps.1 keeps.0

  pub beats_lead : (k : ℕ) (a : Node) → slice_get s.nodes k ≡ Some a → StateLeads n w (Goes n s) (node_does s k (node_name a) (node_beats s.clock a)) (beaten number s k a)
  beats_lead k a e =
      let keeps = calls_keep.beats k a (node_name a) e in
      does_leads number n s s w k a e (λ i p h. h) (node_beats s.clock a) (spoken_in a (node_beats s.clock a)) [] (beat_of k a e) keeps.1 keeps.0

  -- ---- the station of a name
  by_node : (order : ℕ → StationSide → Result Step StepError) (does : ℕ → StationSide → List Action) → ((k : ℕ) (a : StationSide) → slice_get s.nodes k ≡ Some (Station a) → StateLeads n w (Goes n s) (order k a) (does k a)) → (k : ℕ) (o : Option Node) → slice_get s.nodes k ≡ o → StateLeads n w (Goes n s) (orders_at s k o order) (at_station k o does)
  by_node order does lead k None e = still
  by_node order does lead k (Some (Drone a)) e = still
  by_node order does lead k (Some (Station a)) e = lead k a e

  orders_lead : (name : Name) (order : ℕ → StationSide → Result Step StepError) (does : ℕ → StationSide → List Action) → ((k : ℕ) (a : StationSide) → slice_get s.nodes k ≡ Some (Station a) → StateLeads n w (Goes n s) (order k a) (does k a)) → StateLeads n w (Goes n s) (orders_to s name order) (to_station s name does)
  orders_lead name order does lead = by_place (position (is_station_named name) s.nodes)
    where
      by_place : (o : Option ℕ) → StateLeads n w (Goes n s) (orders_found s o order) (if_ordered s o does)
      by_place None = still
      by_place (Some k) = by_node order does lead k (slice_get s.nodes k) refl

  -- ---- an order that is refused
  module _ (k : ℕ) (a : StationSide) (there : slice_get s.nodes k ≡ Some (Station a)) where
    here : n.is_station a.link.me ≡ true
    here = fits.covers k (Station a) there

    core_is : (w.station a.link.me).state ≡ a.core
    core_is = (fits.stands k (Station a) there).0

    -- nothing happens to the nodes
    refuses_lead : (e : world.Event) (why : OpFault) → happens n w e ≡ quiet w → refused_reported n w e ≡ Refused (node_of a.link.me) why ∷ [] → StateLeads n w (Goes n s) (refuses s a why) (acts number (e ∷ []) [] (refuses s a why))
    refuses_lead e why is reports = record {
      follows = (
        record {
          report = sym (ap (λ es. (es ++ step_reported w (happens n w e)) ++ []) reports
              ∙ append-nil (Refused (node_of a.link.me) why ∷ step_reported w (happens n w e))
              ∙ ap (λ v. Refused (node_of a.link.me) why ∷ step_reported w v) is
              ∙ ap (λ es. Refused (node_of a.link.me) why ∷ es) (silent_step w (quiet w) refl refl));
          own = own_of n w (e ∷ []) (quiet w).sent [] [] (ap (λ (v : World). steps_of v.sent v.news []) is) tame_nothing refl;
          drones = λ index d there. (goes.fits.stands index (Drone d) there).0;
        },
        tt,
      );
      report = refl;
      holds = goes;
    }
      where
        goes : Goes n s s (happens n w e)
        goes = subst (Goes n s s) (sym is) (record {
          sound = sound;
          fits = quiet_fits n s.clock s.nodes s.sent w (subst (Reached n) is (reached_on n distinct w e fits.reached)) fits;
          kept = kept s.nodes;
          sent = λ i p h. h;
        })

    -- ---- a cancel
    cancel_leads : StateLeads n w (Goes n s) (orders s k a None (station_cancels s.clock a)) (cancel_at number s k a)
    cancel_leads =
        let keeps = calls_keep.cancels k a (node_of a.link.me) there in
        let events : List world.Event = moves s.clock (Station a) (Cancels a.link.me) in
        let accepted_now : List Order = cancelled a.link.me a.core.operation in
        does_leads number n s s w k (Station a) there (λ i p h. h) (as_station (station_cancels s.clock a)) events accepted_now
        (station_outcome n s.clock s.nodes s.sent w k (Station a) (station_cancels s.clock a) events accepted_now (stations.cancels_lead n distinct s.clock s.nodes s.sent w fits k a there)) keeps.1 keeps.0

    -- ---- an order to its services

    -- refused: nothing happens in the world
    asks_nothing : (refused : Event) (outcome : Outcome StationSide) → seen (refused ∷ []) ≡ [] → StateLeads n w (Goes n s) (asks s k a (Some refused) outcome) (acts number [] [] (asks s k a (Some refused) outcome))
    asks_nothing refused outcome unseen = record {
      follows = (record { report = unseen; own = own_nothing n w; drones = λ index d there. (fits.stands index (Drone d) there).0 }, tt);
      report = refl;
      holds = goes_still n s w sound fits;
    }

    -- or followed: what they say
    asks_lead : (outcome : Outcome StationSide) → Leads n s.clock s.nodes s.sent w k (Station a) Station outcome (said (Station_waits a.link.me) a.link.me outcome) [] → OrderKeeps s s k a outcome
        → StateLeads n w (Goes n s) (asks s k a None outcome) (acts number (spoken_in (Station a) (as_station outcome)) [] (asks s k a None outcome))
    asks_lead outcome leads order =
        let keeps = order (node_of a.link.me) there in
        does_leads number n s s w k (Station a) there (λ i p h. h) (as_station outcome) (spoken_in (Station a) (as_station outcome)) []
        (station_saying n s.clock s.nodes s.sent w k a outcome [] [] leads) keeps.1 keeps.0

    command_leads : (drone : Name) (which word : ℕ) → NameInRange drone → Is16 which → Is32 word → (o : Option ℕ) → open_command a.services.commander ≡ o
        → StateLeads n w (Goes n s) (asks s k a (command_busy (node_of a.link.me) o) (station_commands s.clock (stream_of drone) which word a))
        (acts number (asking a (command_busy (node_of a.link.me) o) (station_commands s.clock (stream_of drone) which word a)) [] (asks s k a (command_busy (node_of a.link.me) o) (station_commands s.clock (stream_of drone) which word a)))
    command_leads drone which word within small short (Some number) e = asks_nothing (Command_refused (node_of a.link.me)) (station_commands s.clock (stream_of drone) which word a) refl
    command_leads drone which word within small short None e =
        asks_lead (station_commands s.clock (stream_of drone) which word a) (stations.commands_lead n distinct s.clock s.nodes s.sent w fits k a there (stream_of drone) which word)
        (calls_keep.commands k a drone which word within small short e)

    params_leads : (drone : Name) → NameInRange drone → (o : Option ParamOperation) → a.services.client.operation ≡ o
        → StateLeads n w (Goes n s) (asks s k a (params_busy (node_of a.link.me) o) (station_lists_params s.clock (stream_of drone) a))
        (acts number (asking a (params_busy (node_of a.link.me) o) (station_lists_params s.clock (stream_of drone) a)) [] (asks s k a (params_busy (node_of a.link.me) o) (station_lists_params s.clock (stream_of drone) a)))
    params_leads drone within (Some operation) e = asks_nothing (Params_refused (node_of a.link.me)) (station_lists_params s.clock (stream_of drone) a) refl
    params_leads drone within None e =
        asks_lead (station_lists_params s.clock (stream_of drone) a) (stations.params_lead n distinct s.clock s.nodes s.sent w fits k a there (stream_of drone)) (calls_keep.params k a drone within e)

    -- ---- an order that names a drone
    module _ (drone : Name) (known : n.is_drone (stream_of drone) ≡ true) (within : NameInRange drone) where
      abbrev d : Stream
      d = stream_of drone

      upload_leads : (kind : PlanKind) (o : Option OpFault) → upload_refusal a.core (number_of kind) s.draft ≡ o → StateLeads n w (Goes n s) (upload_begins s k a drone (number_of kind) o) (upload_at number s drone kind o k a)
      upload_leads kind (Some why) e =
          let e' : upload_refusal (w.station a.link.me).state (number_of kind) s.draft ≡ Some why = ap (λ z. upload_refusal z (number_of kind) s.draft) core_is ∙ e in
          refuses_lead (Begins a.link.me d kind s.draft) why (rw (here, known, e') refl) (rw (here, known) (ap (refusal_reported a.link.me) e'))
      upload_leads kind None e =
          let from : WorldState = record s { draft = [] } in
          let keeps = calls_keep.begins k a drone (number_of kind) within (small kind) e (node_of a.link.me) there in
          let events : List world.Event = moves s.clock (Station a) (Begins a.link.me d kind s.draft) in
          let accepted_now : List Order = Accepts_upload a.link.me d (number_of kind) s.draft ∷ [] in
          state_maps n w (Goes n from) (Goes n s) (node_does from k (node_of a.link.me) (as_station (station_begins s.clock d (number_of kind) s.draft a)))
          (acts number events accepted_now (node_does from k (node_of a.link.me) (as_station (station_begins s.clock d (number_of kind) s.draft a))))
          (does_leads number n s from w k (Station a) there (λ i p h. h) (as_station (station_begins s.clock d (number_of kind) s.draft a)) events accepted_now
          (station_outcome n s.clock s.nodes s.sent w k (Station a) (station_begins s.clock d (number_of kind) s.draft a) events accepted_now (stations.begins_lead n distinct s.clock s.nodes s.sent w fits k a there d known within kind s.draft sound.draft e)) keeps.1 keeps.0)
          (λ t v g. record { sound = g.sound; fits = g.fits; kept = g.kept; sent = g.sent })

      clear_leads : (kind : Option PlanKind) (o : Option OpFault) → refusal a.core ≡ o → StateLeads n w (Goes n s) (orders s k a o (station_clears s.clock d (clear_number kind) a)) (clear_at number s drone kind o k a)
      clear_leads kind (Some why) e =
          let e' : refusal (w.station a.link.me).state ≡ Some why = ap refusal core_is ∙ e in
          refuses_lead (Clears a.link.me d kind) why (rw (here, known, e') refl) (rw (here, known) (ap (refusal_reported a.link.me) e'))
      clear_leads kind None e =
          let keeps = calls_keep.clears k a drone (clear_number kind) within (small_clear kind) e (node_of a.link.me) there in
          let events : List world.Event = moves s.clock (Station a) (Clears a.link.me d kind) in
          let accepted_now : List Order = Accepts_clear a.link.me d (world.clear_number kind) ∷ [] in
          does_leads number n s s w k (Station a) there (λ i p h. h) (as_station (station_clears s.clock d (clear_number kind) a)) events accepted_now
          (station_outcome n s.clock s.nodes s.sent w k (Station a) (station_clears s.clock d (clear_number kind) a) events accepted_now (stations.clears_lead n distinct s.clock s.nodes s.sent w fits k a there d known within kind e)) keeps.1 keeps.0

      get_leads : (kind : PlanKind) (o : Option OpFault) → refusal a.core ≡ o → StateLeads n w (Goes n s) (orders s k a o (station_gets s.clock d (number_of kind) a)) (get_at number s drone kind o k a)
      get_leads kind (Some why) e =
          let e' : refusal (w.station a.link.me).state ≡ Some why = ap refusal core_is ∙ e in
          refuses_lead (Gets a.link.me d kind) why (rw (here, known, e') refl) (rw (here, known) (ap (refusal_reported a.link.me) e'))
      get_leads kind None e =
          let keeps = calls_keep.gets k a drone (number_of kind) within (small kind) e (node_of a.link.me) there in
          let events : List world.Event = moves s.clock (Station a) (Gets a.link.me d kind) in
          let accepted_now : List Order = Accepts_get a.link.me d (number_of kind) ∷ [] in
          does_leads number n s s w k (Station a) there (λ i p h. h) (as_station (station_gets s.clock d (number_of kind) a)) events accepted_now
          (station_outcome n s.clock s.nodes s.sent w k (Station a) (station_gets s.clock d (number_of kind) a) events accepted_now (stations.gets_lead n distinct s.clock s.nodes s.sent w fits k a there d known within kind e)) keeps.1 keeps.0

  -- a drone that was named
  module _ (drone : Name) (is_named : has_drone (names_of s.nodes) drone ≡ true) where
    held : HoldsDrone s.nodes drone
    held = a_drone s.nodes drone is_named

    stream_is : held.drone.link.me ≡ stream_of drone
    stream_is = stream_named held.drone.link.me (fits.named.proper held.index (Drone held.drone) held.there).0 ∙ ap stream_of held.name_is

    known : n.is_drone (stream_of drone) ≡ true
    known = subst (λ x. n.is_drone x ≡ true) stream_is (fits.covers held.index (Drone held.drone) held.there)

    within : NameInRange drone
    within = subst StreamInRange stream_is (fits.named.proper held.index (Drone held.drone) held.there).2

    pub begins_lead : (station : Name) (kind : PlanKind) → StateLeads n w (Goes n s) (begins s station drone (number_of kind)) (to_station s station (λ k a. upload_at number s drone kind (upload_refusal a.core (number_of kind) s.draft) k a))
    begins_lead station kind =
        orders_lead station (λ k a. upload_begins s k a drone (number_of kind) (upload_refusal a.core (number_of kind) s.draft)) (λ k a. upload_at number s drone kind (upload_refusal a.core (number_of kind) s.draft) k a)
        (λ k a e. upload_leads k a e drone known within kind (upload_refusal a.core (number_of kind) s.draft) refl)

    pub clears_lead : (station : Name) (kind : Option PlanKind) → StateLeads n w (Goes n s) (clears s station drone (clear_number kind)) (to_station s station (λ k a. clear_at number s drone kind (refusal a.core) k a))
    clears_lead station kind =
        orders_lead station (λ k a. orders s k a (refusal a.core) (station_clears s.clock (stream_of drone) (clear_number kind) a)) (λ k a. clear_at number s drone kind (refusal a.core) k a)
        (λ k a e. clear_leads k a e drone known within kind (refusal a.core) refl)

    pub gets_lead : (station : Name) (kind : PlanKind) → StateLeads n w (Goes n s) (gets s station drone (number_of kind)) (to_station s station (λ k a. get_at number s drone kind (refusal a.core) k a))
    gets_lead station kind =
        orders_lead station (λ k a. orders s k a (refusal a.core) (station_gets s.clock (stream_of drone) (number_of kind) a)) (λ k a. get_at number s drone kind (refusal a.core) k a)
        (λ k a e. get_leads k a e drone known within kind (refusal a.core) refl)

    pub commands_lead : (station : Name) (which word : ℕ) → Is16 which → Is32 word → StateLeads n w (Goes n s) (commands s station drone which word) (to_station s station (command_at number s drone which word))
    commands_lead station which word small short =
        orders_lead station (λ k a. asks s k a (command_busy (node_of a.link.me) (open_command a.services.commander)) (station_commands s.clock (stream_of drone) which word a)) (command_at number s drone which word)
        (λ k a e. command_leads k a e drone which word within small short (open_command a.services.commander) refl)

    pub params_lead : (station : Name) → StateLeads n w (Goes n s) (lists_params s station drone) (to_station s station (params_at number s drone))
    params_lead station =
        orders_lead station (λ k a. asks s k a (params_busy (node_of a.link.me) a.services.client.operation) (station_lists_params s.clock (stream_of drone) a)) (params_at number s drone)
        (λ k a e. params_leads k a e drone within a.services.client.operation refl)

  pub cancels_lead : (station : Name) → StateLeads n w (Goes n s) (cancels s station) (to_station s station (cancel_at number s))
  cancels_lead station = orders_lead station (λ k a. orders s k a None (station_cancels s.clock a)) (cancel_at number s) (λ k a e. cancel_leads k a e)
