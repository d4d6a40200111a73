-- A drone that starts again, in both worlds.
use Rattle.std.proofs.Common.{◌≡◌, ℕ, ◌+◌, ◌<◌, ◌≤◌, max, inl, true, nat_le, cond, List, [], ◌∷◌, ◌++◌, length, position, slice_get, slice_set, Option, Some, None, Ok, Err, refl, sym, ap, subst, arith, ◌∙◌}
use Rattle.mav_nodes.specs.Nodes.{DroneSide}
use Rattle.std.specs.Prelude.{unwrap_or}
use Rattle.std.specs.declared.result.Result.{Result}
use Rattle.std.proofs.lemmas.List.{append-nil}
use Rattle.mav_names.specs.declared.names.Name.{Name}
use Rattle.mav_names.specs.declared.names.Stream.{Stream}
use Rattle.mav_frame.specs.Packet.{Packet}
use Rattle.plan_upload.specs.Addresses.{node_of}
use Rattle.plan_upload.specs.Drone.{fresh_drone, restored}
use Rattle.plan_safety.specs.Store as store
use Rattle.plan_safety.specs.Store.{at}
use Rattle.plan_safety.specs.World.{Nodes, Distinct, World, DroneNode, Restarts, happens, restarted}
use Rattle.plan_safety.specs.History.{steps_of, final}
use Rattle.plan_safety.proofs.Keys.{at_same, at_apart}
use Rattle.plan_ranges.specs.Ranges.{DroneInRange}
use Rattle.mav_sign.specs.History.{local_of}
use Rattle.mav_nodes.specs.LowBounds.{stored_low}
use Rattle.mav_nodes.specs.Links.{Outcome}
use Rattle.mav_nodes.specs.Restarts.{started_again, restarted_drone}
use Rattle.fleet_report.specs.Events.{Restarted}
use Rattle.node_reports.specs.Nodes.{Node, Drone, Station, node_name}
use Rattle.node_reports.specs.Calls.{node_beats}
use Rattle.node_reports.specs.Reporting.{reported_by}
use Rattle.fleet_world.specs.declared.faults.Bound.TheVariants.{Frames}
use Rattle.fleet_world.specs.WorldState.{WorldState, is_drone_named}
use Rattle.fleet_world.specs.Steps.{Step, StepError, At_limit, after_events, most_frames, most_restarts, packets_in, node_does, restarts_at, restarts_found, starts_again, restart_line}
use Rattle.fleet_invariants.specs.Sound.{SoundDrone, Sound}
use Rattle.fleet_invariants.specs.Laws.{EveryCallKeeps}
use Rattle.fleet_invariants.proofs.Lists.{set_there, set_twice}
use Rattle.fleet_invariants.proofs.Moves.{Steady, Moves, steady_of, sound_of}
use Rattle.fleet_invariants.proofs.Restarting.{sound_counted, moves_anew, starts_anew}
use Rattle.fleet_safety.specs.Reporting.{ProtocolEvent, step_reported}
use Rattle.fleet_safety.specs.Reporting as report
use Rattle.fleet_safety.specs.Actions.{Action, restarted_at, restarted as actions_restarted, beaten, at_drone, if_drone, to_drone}
use Rattle.fleet_safety.proofs.Names.{SameRole, kept, set_kept}
use Rattle.fleet_safety.proofs.Times.{KeepsTime, restart_keeps}
use Rattle.fleet_safety.proofs.Frames.{SameFrames}
use Rattle.fleet_safety.proofs.Own.{own_of}
use Rattle.fleet_safety.proofs.Reports.{Chain, chain_end, chain_on, frames_before}
use Rattle.fleet_safety.proofs.Fits.{Stands, Reached, Fits, reached_all, MovesTo, fits_on}
use Rattle.fleet_safety.proofs.States.{StateLed, StateLeads, state_rests, state_then, state_maps, Goes, goes_on}
use Rattle.fleet_safety.proofs.Orders.{beats_lead}

module _ (number : ℕ) (n : Nodes) (distinct : Distinct n) (every_call : EveryCallKeeps) (s : WorldState) (w : World) (sound : Sound s) (fits : Fits n s.clock s.nodes s.sent w) (few : s.restarts < most_restarts) where
  abbrev t : WorldState
  t = restart_line s

  still : Goes n s t w
  still = record { sound = sound_counted s sound few; fits = fits; kept = kept s.nodes; sent = λ i p e. e }

  module _ (k : ℕ) (a : DroneSide) (there : slice_get s.nodes k ≡ Some (Drone a)) where
    abbrev x : Stream
    x = a.link.me

    abbrev r : DroneSide
    r = restarted_drone s.key a

    abbrev bound : ℕ
    bound = unwrap_or (stored_low a.link.history) 0

    abbrev anew : WorldState
    anew = restarted_at t k a

    moves : Moves t (Drone a) (Drone r) []
    moves = moves_anew s (steady_of s sound) k a there

    role : SameRole (Drone a) (Drone r)
    role = sym moves.link.me

    here : n.is_drone x ≡ true
    here = fits.covers k (Drone a) there

    stands : Stands s.clock w (Drone a)
    stands = fits.stands k (Drone a) there

    -- ---- the world of messages

    abbrev y : DroneNode
    y = restarted (w.drone x) bound

    abbrev v : World
    v = record w { drone = at w.drone x y; news = store.Restarted x ∷ [] }

    is_v : happens n w (Restarts x bound) ≡ v
    is_v = rw here refl

    chain : Chain n w v (Restarts x bound ∷ []) (step_reported w v ++ []) (λ h. steps_of v.sent v.news h)
    chain = chain_on n w v v (Restarts x bound) [] [] (λ h. h) is_v refl (chain_end n v)

    -- it reports that the drone starts again
    step_is : step_reported w v ≡ report.Restarted (node_of x) ∷ []
    step_is = ap (λ (es : List ProtocolEvent). report.Restarted (node_of x) ∷ (es ++ [])) (frames_before (length w.sent) w.sent (omega arith))

    -- the drone as it is then
    abbrev Same : DroneSide → ℕ → Type 0
    Same b low = (restored (w.drone x).state ≡ b.core) × KeepsTime s.clock b.link.history (λ q. max ((w.drone x).last q) low) (max (w.drone x).next (low + 1))

    by_low : (low : Option ℕ) → stored_low a.link.history ≡ low → Same (started_again s.key a.core.sys a.services.sim.home low a.core.plans) (unwrap_or low 0)
    by_low None is =
        let own : SoundDrone a = sound.cores k (Drone a) there in
        let end = sound.links k (Drone a) there in (
          ap restored stands.0 ∙ ap (fresh_drone a.core.sys) (own.unstored is),
          restart_keeps s.clock a.link.history (w.drone x).last (w.drone x).next None (subst (λ (o : Option ℕ). local_of a.link.history ≤ unwrap_or o 0) is end.within) end.previous stands.1,
        )
    by_low (Some low) is =
        let end = sound.links k (Drone a) there in (
          ap restored stands.0,
          restart_keeps s.clock a.link.history (w.drone x).last (w.drone x).next (Some low) (subst (λ (o : Option ℕ). local_of a.link.history ≤ unwrap_or o 0) is end.within) end.previous stands.1,
        )

    stands_anew : (y.state ≡ r.core) × KeepsTime s.clock r.link.history y.last y.next × DroneInRange r.core
    stands_anew = let same = by_low (stored_low a.link.history) refl in (same.0, same.1, moves.core.range)

    moves_to : MovesTo s.clock w v x (Drone r)
    moves_to = record {
      own = subst (λ me. ((v.drone me).state ≡ r.core) × KeepsTime s.clock r.link.history (v.drone me).last (v.drone me).next × DroneInRange r.core) role
          (subst (λ (z : DroneNode). (z.state ≡ r.core) × KeepsTime s.clock r.link.history z.last z.next × DroneInRange r.core) (sym (at_same w.drone x y)) stands_anew);
      drones = λ z far. at_apart w.drone x z y far;
      stations = λ z far. refl;
    }

    reached : Reached n v
    reached = subst (Reached n) chain.ends (reached_all n distinct w (Restarts x bound ∷ []) fits.reached)

    fits_anew : Fits n anew.clock anew.nodes anew.sent v
    fits_anew =
        subst (λ (ps : List Packet). Fits n s.clock (slice_set s.nodes k (Drone r)) ps v) (append-nil s.sent)
        (fits_on n s.clock s.nodes s.sent w v k (Drone a) (Drone r) fits there role moves_to [] (subst (λ (ps : List Packet). SameFrames ps w.sent) (sym (append-nil s.sent)) fits.frames) reached)

    steady_anew : Steady anew
    steady_anew =
        subst (λ (ps : List Packet). Steady (record t { nodes = slice_set s.nodes k (Drone r); sent = ps })) (append-nil s.sent) (starts_anew s (steady_of s sound) k a there few).steady

    goes_anew : Goes n s anew (final n w (Restarts x bound ∷ []))
    goes_anew = record {
      sound = sound_of anew steady_anew sound.frames;
      fits = subst (Fits n anew.clock anew.nodes anew.sent) (sym chain.ends) fits_anew;
      kept = set_kept s.nodes k (Drone a) (Drone r) there role;
      sent = λ i p e. e;
    }

    -- ---- the action

    abbrev action : Action
    action = record { number = number; events = Restarts x bound ∷ []; orders = []; report = Restarted (node_of x) ∷ []; state = anew }

    abbrev first : Step
    first = record { state = anew; events = Restarted (node_of x) ∷ [] }

    abbrev IsAnew : WorldState → World → Type 0
    IsAnew u z = (u ≡ anew) × Goes n s u z

    first_leads : StateLed n w IsAnew first (action ∷ [])
    first_leads = record {
      follows = (
        record {
          report = sym (chain.reports ∙ append-nil (step_reported w v) ∙ step_is);
          own = own_of n w (Restarts x bound ∷ []) v.sent v.news [] (chain.steps []) (record { few = inl (store.Restarted x, refl) }) refl;
          drones = λ index d e. (goes_anew.fits.stands index (Drone d) e).0;
        },
        tt,
      );
      report = refl;
      holds = (refl, goes_anew);
    }

    -- then it sends HEARTBEAT
    does_anew : (o : Outcome Node) → node_does anew k (node_name (Drone r)) o ≡ node_does t k (node_of x) o
    does_anew None = refl
    does_anew (Some d) =
        ap (λ name. node_does anew k name (Some d)) (ap node_of moves.link.me)
        ∙ ap (λ nodes. cond (nat_le (length s.sent + length (packets_in d.events)) most_frames) (Ok (record {
          state = record t { nodes = nodes; sent = s.sent ++ packets_in d.events };
          events = reported_by (node_of x) (length s.sent) d.events;
        })) (Err (At_limit Frames))) (set_twice s.nodes k (Drone r) d.node)

    beats_anew : (z : World) → Goes n s anew z → StateLeads n z (Goes n s) (node_does anew k (node_name (Drone r)) (node_beats anew.clock (Drone r))) (beaten number anew k (Drone r))
    beats_anew z g =
        state_maps n z (Goes n anew) (Goes n s) (node_does anew k (node_name (Drone r)) (node_beats anew.clock (Drone r))) (beaten number anew k (Drone r))
        (beats_lead number n distinct every_call anew z g.sound g.fits k (Drone r) (set_there s.nodes k (Drone a) (Drone r) there))
        (λ u p h. goes_on n s anew u z p g h)

    then_beats : (u : WorldState) (z : World) → IsAnew u z → StateLeads n z (Goes n s) (node_does u k (node_name (Drone r)) (node_beats u.clock (Drone r))) (beaten number u k (Drone r))
    then_beats u z h =
        subst (λ (q : WorldState). StateLeads n z (Goes n s) (node_does q k (node_name (Drone r)) (node_beats q.clock (Drone r))) (beaten number q k (Drone r))) (sym h.0)
        (beats_anew z (subst (λ (q : WorldState). Goes n s q z) h.0 h.1))

    restarts_lead : StateLeads n w (Goes n s) (restarts_at t k (Some (Drone a))) (actions_restarted number t k a)
    restarts_lead =
        subst (λ (q : Result Step StepError). StateLeads n w (Goes n s) (after_events (Restarted (node_of x) ∷ []) q) (actions_restarted number t k a)) (does_anew (node_beats s.clock (Drone r)))
        (state_then n w IsAnew (Goes n s) (Ok first) (action ∷ []) (λ u. node_does u k (node_name (Drone r)) (node_beats u.clock (Drone r))) (λ u. beaten number u k (Drone r)) first_leads then_beats)

  -- ---- the drone at an index, and the one of a name

  at_leads : (k : ℕ) (o : Option Node) → slice_get s.nodes k ≡ o → StateLeads n w (Goes n s) (restarts_at t k o) (at_drone number t k o)
  at_leads k None there = state_rests n w (Goes n s) t still
  at_leads k (Some (Station a)) there = state_rests n w (Goes n s) t still
  at_leads k (Some (Drone a)) there = restarts_lead k a there

  placed_leads : (o : Option ℕ) → StateLeads n w (Goes n s) (restarts_found t o) (if_drone number t o)
  placed_leads None = state_rests n w (Goes n s) t still
  placed_leads (Some k) = at_leads k (slice_get s.nodes k) refl

  pub restart_leads : (drone : Name) → StateLeads n w (Goes n s) (starts_again t drone) (to_drone number t drone)
  restart_leads drone = placed_leads (position (is_drone_named drone) s.nodes)
