-- Each execution of the world is one of the abstract mission store: the induction over events.
use Rattle.std.proofs.Common.{◌≡◌, ℕ, true, List, [], ◌∷◌, refl, arith, ◌==◌, if◌then◌else◌}
use Rattle.std.specs.Prelude.{slice_get}
use Rattle.mav_names.specs.declared.names.Stream.{Stream}
use Rattle.plan_items.specs.declared.items.Item.{Item}
use Rattle.plan_upload.specs.Addresses.{same_stream}
use Rattle.plan_upload.specs.Plans.{plan_at, no_plans}
use Rattle.plan_safety.specs.Store.{Store, first_store, nothing}
use Rattle.plan_safety.specs.World.{Nodes, Distinct, Start, World, Event, Begins, Clears, Gets, Cancels, Hands_out, Drone_ticks, Station_ticks, To_drone, To_station, Speaks, Drone_waits, Station_waits, Restarts, happens, where_drone, where_station, first_world}
use Rattle.plan_safety.specs.Safety.{SamePlans, IsExecution}
use Rattle.plan_safety.proofs.Keys.{by_test}
use Rattle.plan_safety.proofs.Part.{Inv, Moments}
use Rattle.plan_safety.proofs.Fleet.{All, part, hidden}
use Rattle.plan_safety.proofs.FleetMoves.{Goes}
use Rattle.plan_safety.proofs.FleetDroneEvents as drone
use Rattle.plan_safety.proofs.FleetDroneEvents.{quiet_world}
use Rattle.plan_safety.proofs.FleetDroneTicks as ticks
use Rattle.plan_safety.proofs.FleetStationEvents as station

-- no moment yet
abbrev never : Moments
never = record { first_count = 0; last_count = 0; last_request = 0; first_open = 0; first_ping = 0; first_reply = 0; first_job = 0; last_job = 0; last_cancel = 0; last_ack = 0; last_verdict = 0; last_shown = 0; now_shown = 0; counted = 0 }

-- no plans
no_plan : (k : ℕ) → plan_at no_plans k ≡ []
no_plan k = by_test (λ (p : List Item). p ≡ []) (k == 0) [] (if k == 1 then [] else []) (λ _. refl) (λ _. by_test (λ (p : List Item). p ≡ []) (k == 1) [] [] (λ _. refl) (λ _. refl))

-- at first no drone has a plan
pub first_plans : (start : Start) → SamePlans (first_world start) first_store
first_plans start = λ d k _. no_plan k

module _ (nodes : Nodes) (sound : Distinct nodes) where
  -- only nodes of the fleet do anything
  on_drone : (w v : World) (m : Store) (d : Stream) → All nodes w m → (nodes.is_drone d ≡ true → Goes nodes v m) → Goes nodes (where_drone nodes d w v) m
  on_drone w v m d all h = by_test (λ z. Goes nodes z m) (nodes.is_drone d) v _ h (λ _. quiet_world nodes w m all)

  on_station : (w v : World) (m : Store) (s : Stream) → All nodes w m → (nodes.is_station s ≡ true → Goes nodes v m) → Goes nodes (where_station nodes s w v) m
  on_station w v m s all h = by_test (λ z. Goes nodes z m) (nodes.is_station s) v _ h (λ _. quiet_world nodes w m all)

  -- each event keeps what holds, and is one that the store allows
  pub goes : (w : World) (m : Store) (e : Event) → All nodes w m → Goes nodes (happens nodes w e) m
  goes w m (Begins s d kind plan) all = on_station w _ m s all (λ hs. on_drone w _ m d all (λ hd. station.begin_goes nodes sound w m s all hs d kind plan hd))
  goes w m (Clears s d kind) all = on_station w _ m s all (λ hs. on_drone w _ m d all (λ hd. station.clear_goes nodes sound w m s all hs d kind hd))
  goes w m (Gets s d kind) all = on_station w _ m s all (λ hs. on_drone w _ m d all (λ hd. station.get_goes nodes sound w m s all hs d kind hd))
  goes w m (Cancels s) all = on_station w _ m s all (λ hs. station.station_cancel_goes nodes sound w m s all hs)
  goes w m (Hands_out s) all = on_station w _ m s all (λ hs. station.hand_goes nodes sound w m s all hs)
  goes w m (Drone_ticks d) all = on_drone w _ m d all (λ hd. ticks.tick_goes nodes sound w m d all hd)
  goes w m (Station_ticks s) all = on_station w _ m s all (λ hs. station.station_tick_goes nodes sound w m s all hs)
  goes w m (To_drone index d keeps) all = on_drone w _ m d all (λ hd. drone.coming_goes nodes sound w m d all hd keeps index (slice_get w.sent index) refl)
  goes w m (To_station index s) all = on_station w _ m s all (λ hs. station.coming_goes nodes sound w m s all hs index (slice_get w.sent index) refl)
  goes w m (Speaks node) all =
      by_test (λ v. Goes nodes v m) (nodes.is_drone node) _ _
      (λ hd. ticks.speak_goes nodes sound w m node all hd)
      (λ _. on_station w _ m node all (λ hs. station.speak_goes nodes sound w m node all hs))
  goes w m (Drone_waits d t) all = on_drone w _ m d all (λ hd. ticks.wait_goes nodes sound w m d all hd t)
  goes w m (Station_waits s t) all = on_station w _ m s all (λ hs. station.wait_goes nodes sound w m s all hs t)
  goes w m (Restarts d low) all = on_drone w _ m d all (λ hd. ticks.restart_goes nodes sound w m d all hd low)

  -- from what holds on, each execution is the store's
  pub runs : (es : List Event) (w : World) (m : Store) → All nodes w m → IsExecution nodes w m es
  runs [] w m all = tt
  runs (e ∷ es) w m all = let r = goes w m e all in (r.needs, r.all.plans, runs es (happens nodes w e) _ r.all)

  -- at first each pair's invariant holds
  first : (start : Start) (d s : Stream) → Inv d s (part (first_world start) first_store d s) never
  first start d s =
      by_test (λ t. Inv d s (record (part (first_world start) first_store d s) { transaction = t }) never) (same_stream s d) (nothing s) (hidden (nothing s))
      (λ _. record { facts = grind arith; truths = tt; upload = tt; operation = tt; for_drone = λ x. absurd (omega arith); since = omega arith; since_count = λ x. absurd (omega arith); count = λ x. absurd (omega arith); download = λ a b. absurd (omega arith); asked = λ x. absurd (omega arith); answers = λ ph. absurd (omega arith) })
      (λ _. record { facts = grind arith; truths = tt; upload = tt; operation = tt; for_drone = λ x. absurd (omega arith); since = omega arith; since_count = λ x. absurd (omega arith); count = λ x. absurd (omega arith); download = λ a b. absurd (omega arith); asked = λ x. absurd (omega arith); answers = λ ph. absurd (omega arith) })

  -- and all that holds of the world
  pub begins : (start : Start) → All nodes (first_world start) first_store
  begins start = record {
    pairs = λ d s _ _. (_, first start d s);
    frames = tt;
    owners = λ d _. tt;
    systems = λ d _. refl;
    names = λ s _. refl;
    transactions = λ s _ fresh. absurd (cc);
    openings = λ s _. tt;
    operations = λ s _. tt;
    plans = first_plans start;
  }

  -- the theorem
  pub always : (start : Start) (es : List Event) → IsExecution nodes (first_world start) first_store es
  always start es = runs es (first_world start) first_store (begins start)
