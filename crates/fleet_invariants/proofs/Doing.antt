-- What a node does at a datagram, a tick, a heartbeat and an order.
use Rattle.std.proofs.Common.{false, ◌≡◌, ℕ, ◌<◌, ◌^◌, List, [], slice_get, Option, Some, None, IfSome, refl, sym, subst, ◌∙◌}
use Rattle.std.specs.Prelude.{All}
use Rattle.mav_names.specs.declared.names.Name.{Name}
use Rattle.mav_names.specs.declared.names.Stream.{Stream}
use Rattle.mav_profile.specs.Messages.{extras_of}
use Rattle.mav_profile.specs.Profile.{profile_definitions}
use Rattle.plan_items.specs.declared.items.Item.{Item}
use Rattle.plan_items.specs.declared.messages.PlanMsg.{PlanMsg}
use Rattle.plan_upload.specs.Addresses.{node_of}
use Rattle.plan_upload.specs.Drone.{DroneState, drone_tick}
use Rattle.command_proto.specs.Commander.{commander_tick}
use Rattle.param_proto.specs.Client.{client_tick}
use Rattle.plan_upload.specs.Station.{StationState, station_tick, station_cancel, begin_upload, begin_clear, begin_get, operation_of, Uploads, Clears, Gets}
use Rattle.plan_upload.specs.Refusals.{upload_refusal}
use Rattle.mav_frame.specs.FinalParse.{final_parse}
use Rattle.mav_sign.specs.Endpoints.{frames_of}
use Rattle.drone_sim.specs.Sim.{armed, sim_tick}
use Rattle.mav_nodes.specs.Links.{Outcome, after_events, sends}
use Rattle.mav_nodes.specs.Steps.{Side, CoreStep, with_core, steps}
use Rattle.mav_nodes.specs.Nodes.{DroneSide, StationSide, drone_receives, drone_waits, tick_answer, drone_ticks, drone_heartbeat, drone_beats, station_receives, station_does, services_tick, station_ticks, station_heartbeat, station_beats, station_begins, station_cancels, station_clears, station_gets, station_commands, station_lists_params, drone_sims}
use Rattle.mav_nodes.specs.FileServices.{transfer_waits}
use Rattle.mav_nodes.specs.Services.{sim_step, drone_flies}
use Rattle.mav_nodes.proofs.Sendings.{heartbeats_fit}
use Rattle.plan_ranges.specs.Ranges.{InRange, ItemInRange, NameInRange, StreamInRange}
use Rattle.plan_ranges.proofs.DroneRanges as drones
use Rattle.plan_ranges.proofs.StationRanges as stations
use Rattle.node_reports.specs.Nodes.{Node, Drone, Station}
use Rattle.node_reports.specs.Calls.{as_drone, as_station, node_receives, node_beats, node_ticks, node_flies}
use Rattle.fleet_world.specs.WorldState.{WorldState, stream_of}
use Rattle.fleet_invariants.specs.Kept.{Known}
use Rattle.fleet_world.proofs.Systems.{drone_tick_stays}
use Rattle.fleet_invariants.proofs.Roles.{drone_tick_plans, station_tick_stays, station_cancel_stays, begin_stays}
use Rattle.fleet_invariants.proofs.Moves.{Steady}
use Rattle.fleet_invariants.specs.Sound.{has_heard}
use Rattle.fleet_invariants.proofs.Rooms.{roomy_tick}
use Rattle.fleet_invariants.proofs.Links.{link_sends}
use Rattle.fleet_invariants.proofs.Nodes.{advanced, NodeDoes, as_node, drone_done, drone_steps, station_done, then_next, rests}
use Rattle.fleet_invariants.proofs.Services.{station_waiting, command_asked, params_asked, drone_flying}
use Rattle.fleet_invariants.proofs.Serving.{station_serves_so, drone_serves_so}
use Rattle.fleet_invariants.proofs.Hearing.{KnownFrames, drone_hears_all, station_hears_all, station_goes, station_services, flown_silent}

as_drone_is : (o : Outcome DroneSide) → as_node Drone o ≡ as_drone o
as_drone_is None = refl
as_drone_is (Some d) = refl

as_station_is : (o : Outcome StationSide) → as_node Station o ≡ as_station o
as_station_is None = refl
as_station_is (Some d) = refl

behind_none : {Core Services : Type 0} (o : Outcome (Side Core Services)) → after_events [] o ≡ o
behind_none None = refl
behind_none (Some d) = refl

pub known_frames : (s : WorldState) (bytes : List ℕ) (extras : List (ℕ × ℕ)) → extras ≡ extras_of profile_definitions → Known s bytes → KnownFrames s (frames_of (final_parse extras false bytes))
known_frames s bytes extras same known = subst (λ (x : List (ℕ × ℕ)). KnownFrames s (frames_of (final_parse x false bytes))) (sym same) known

ticks_say : (o : Option (Stream × PlanMsg)) → IfSome o (λ (sent : Stream × PlanMsg). StreamInRange sent.0 × InRange sent.1) → IfSome (tick_answer o) InRange
ticks_say None h = tt
ticks_say (Some sent) h = h.1

module _ (s : WorldState) (k : ℕ) (g : Steady s) where
  -- ---- a drone
  module _ (n : DroneSide) (found : slice_get s.nodes k ≡ Some (Drone n)) where
    a_drone : (o : Outcome DroneSide) → NodeDoes s k (as_node Drone o) → NodeDoes s k (as_drone o)
    a_drone o h = subst (NodeDoes s k) (as_drone_is o) h

    drone_receiving : (bytes : List ℕ) → Known s bytes → NodeDoes s k (as_drone (drone_receives s.clock bytes n))
    drone_receiving bytes known =
        a_drone (drone_receives s.clock bytes n) (drone_hears_all (frames_of (final_parse n.link.extras false bytes)) s k n g found (known_frames s bytes n.link.extras (g.links k (Drone n) found).extras known))

    drone_ticking : NodeDoes s k (as_drone (drone_ticks s.clock n))
    drone_ticking =
        let own = g.cores k (Drone n) found in
        let tick = drone_tick n.core in
        let r = drones.ticks n.core own.range in
        a_drone (drone_ticks s.clock n) (drone_steps s k n g found n.services own.services (drone_waits tick) tt tt r.drone (drone_tick_stays n.core) (roomy_tick (has_heard n.link) n.core own.roomy) (λ none. drone_tick_plans n.core ∙ own.unstored none) (ticks_say tick.answer r.answer))

    drone_beating : NodeDoes s k (as_drone (drone_beats s.clock n))
    drone_beating =
        let own = g.cores k (Drone n) found in
        let step : CoreStep DroneState = record { core = n.core; first = []; answer = None; last = [] } in
        let said = sends s.clock (drone_heartbeat (armed n.services.sim)) n.link in
        a_drone (drone_beats s.clock n) (subst (λ (o : Outcome DroneSide). NodeDoes s k (as_node Drone o)) (behind_none (with_core n.core n.services [] said))
        (drone_done s k n g found n.services own.services step tt tt own.range refl own.roomy own.unstored said (link_sends s n.link (g.links k (Drone n) found) (drone_heartbeat (armed n.services.sim)) (heartbeats_fit.drone (armed n.services.sim)))))

    drone_simming : NodeDoes s k (as_drone (drone_sims s.clock n))
    drone_simming =
        let own = g.cores k (Drone n) found in
        let tick = sim_tick n.services.sim n.core.plans.mission (sim_step n.services.server) in
        a_drone (drone_sims s.clock n) (drone_serves_so s k g n found (drone_flies n.core n.services) (drone_flying (has_heard n.link) (node_of n.link.me) n.core n.services own.range.plans.mission.items own.services)
        (flown_silent tick.reached tick.captured tick.sim.captures))

  -- ---- a station
  module _ (n : StationSide) (found : slice_get s.nodes k ≡ Some (Station n)) where
    a_station : (o : Outcome StationSide) → NodeDoes s k (as_node Station o) → NodeDoes s k (as_station o)
    a_station o h = subst (NodeDoes s k) (as_station_is o) h

    station_receiving : (bytes : List ℕ) → Known s bytes → NodeDoes s k (as_station (station_receives s.clock bytes n))
    station_receiving bytes known =
        a_station (station_receives s.clock bytes n) (station_hears_all (frames_of (final_parse n.link.extras false bytes)) s k n g found (known_frames s bytes n.link.extras (g.links k (Station n) found).extras known))

    station_ticking : NodeDoes s k (as_station (station_ticks s.clock n))
    station_ticking =
        a_station (station_ticks s.clock n)
        (then_next Station s k (steps s.clock n.link n.services (station_does (station_tick n.core))) (services_tick s.clock)
        (station_goes s k n g found (station_tick n.core) (stations.ticks n.core (g.cores k (Station n) found).range) (station_tick_stays n.core))
        (λ d first. station_services (advanced s k (Station d.node) d.events) k first.steady d.node first.there (commander_tick d.node.services.commander) (client_tick d.node.services.client) (transfer_waits d.node.services.files)
        (station_waiting (node_of d.node.link.me) d.node.services (first.steady.cores k (Station d.node) first.there).services)))

    station_beating : NodeDoes s k (as_station (station_beats s.clock n))
    station_beating =
        let own = g.cores k (Station n) found in
        let step : CoreStep StationState = record { core = n.core; first = []; answer = None; last = [] } in
        let said = sends s.clock station_heartbeat n.link in
        a_station (station_beats s.clock n) (subst (λ (o : Outcome StationSide). NodeDoes s k (as_node Station o)) (behind_none (with_core n.core n.services [] said))
        (station_done s k n g found step tt tt own.range refl own.told said (link_sends s n.link (g.links k (Station n) found) station_heartbeat heartbeats_fit.station)))

    pub station_cancelling : NodeDoes s k (as_station (station_cancels s.clock n))
    station_cancelling =
        a_station (station_cancels s.clock n) (station_goes s k n g found (station_cancel n.core) (stations.cancels n.core (g.cores k (Station n) found).range) (station_cancel_stays n.core))

    pub station_beginning : (drone : Name) (kind : ℕ) (plan : List Item) → NameInRange drone → kind < 256 → All ItemInRange plan → upload_refusal n.core kind plan ≡ None → NodeDoes s k (as_station (station_begins s.clock (stream_of drone) kind plan n))
    station_beginning drone kind plan name small items free =
        a_station (station_begins s.clock (stream_of drone) kind plan n) (station_goes s k n g found (begin_upload n.core (stream_of drone) kind plan) (stations.uploads n.core (stream_of drone) kind plan (g.cores k (Station n) found).range name small items free) (begin_stays n.core (operation_of Uploads (stream_of drone) kind plan)))

    pub station_clearing : (drone : Name) (kind : ℕ) → NameInRange drone → kind < 256 → NodeDoes s k (as_station (station_clears s.clock (stream_of drone) kind n))
    station_clearing drone kind name small =
        a_station (station_clears s.clock (stream_of drone) kind n) (station_goes s k n g found (begin_clear n.core (stream_of drone) kind) (stations.clears n.core (stream_of drone) kind (g.cores k (Station n) found).range name small) (begin_stays n.core (operation_of Clears (stream_of drone) kind [])))

    pub station_getting : (drone : Name) (kind : ℕ) → NameInRange drone → kind < 256 → NodeDoes s k (as_station (station_gets s.clock (stream_of drone) kind n))
    station_getting drone kind name small =
        a_station (station_gets s.clock (stream_of drone) kind n) (station_goes s k n g found (begin_get n.core (stream_of drone) kind) (stations.gets n.core (stream_of drone) kind (g.cores k (Station n) found).range name small) (begin_stays n.core (operation_of Gets (stream_of drone) kind [])))

    pub station_commanding : (drone : Name) (number word : ℕ) → NameInRange drone → number < 65536 → word < 2 ^ 32 → NodeDoes s k (as_station (station_commands s.clock (stream_of drone) number word n))
    station_commanding drone number word name small short =
        a_station (station_commands s.clock (stream_of drone) number word n)
        (station_serves_so s k g n found _ (command_asked (node_of n.link.me) n.services (g.cores k (Station n) found).services (stream_of drone) number word name small short) tt)

    pub station_listing : (drone : Name) → NameInRange drone → NodeDoes s k (as_station (station_lists_params s.clock (stream_of drone) n))
    station_listing drone name =
        a_station (station_lists_params s.clock (stream_of drone) n)
        (station_serves_so s k g n found _ (params_asked (node_of n.link.me) n.services (g.cores k (Station n) found).services (stream_of drone) name) tt)

  -- ---- either
  pub node_receiving : (bytes : List ℕ) → Known s bytes → (a : Node) → slice_get s.nodes k ≡ Some a → NodeDoes s k (node_receives s.clock bytes a)
  node_receiving bytes known (Drone n) found = drone_receiving n found bytes known
  node_receiving bytes known (Station n) found = station_receiving n found bytes known

  pub node_ticking : (a : Node) → slice_get s.nodes k ≡ Some a → NodeDoes s k (node_ticks s.clock a)
  node_ticking (Drone n) found = drone_ticking n found
  node_ticking (Station n) found = station_ticking n found

  pub node_beating : (a : Node) → slice_get s.nodes k ≡ Some a → NodeDoes s k (node_beats s.clock a)
  node_beating (Drone n) found = drone_beating n found
  node_beating (Station n) found = station_beating n found

  pub node_flying : (a : Node) → slice_get s.nodes k ≡ Some a → NodeDoes s k (node_flies s.clock a)
  node_flying (Drone n) found = drone_simming n found
  node_flying (Station n) found = rests s k (Station n) g found
