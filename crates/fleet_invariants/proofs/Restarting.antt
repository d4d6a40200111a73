-- A drone that starts again leaves a sound state.
use Rattle.std.proofs.Common.{◌≡◌, ℕ, ◌+◌, ◌*◌, ◌<◌, ◌≤◌, max, List, [], ◌∷◌, length, slice_get, Option, Some, None, Ok, Err, refl, sym, ap, subst, arith}
use Rattle.std.specs.Prelude.{position, unwrap_or}
use Rattle.std.specs.declared.result.Result.{Result}
use Rattle.mav_names.specs.declared.names.Name.{Name}
use Rattle.mav_names.specs.declared.names.Stream.{Stream}
use Rattle.mav_sign.specs.History.{local_of, previous_in}
use Rattle.plan_upload.specs.Addresses.{node_of}
use Rattle.plan_upload.specs.Plans.{no_plans}
use Rattle.mav_nodes.specs.LowBounds.{headroom, stored_low}
use Rattle.mav_nodes.specs.Links.{Outcome}
use Rattle.mav_nodes.specs.Nodes.{DroneSide, drone_beats}
use Rattle.mav_nodes.specs.Restarts.{started_again, restarted_drone, drone_restarts}
use Rattle.plan_ranges.proofs.DroneRanges as drones
use Rattle.fleet_report.specs.Events.{Event, Restarted}
use Rattle.node_reports.specs.Nodes.{Node, Drone, Station}
use Rattle.node_reports.specs.Calls.{as_drone}
use Rattle.fleet_world.specs.WorldState.{WorldState, named, is_drone_named}
use Rattle.fleet_world.specs.Steps.{Step, StepError, after_events, most_restarts, node_does, restarts_at, restarts_found, starts_again, restart_line}
use Rattle.fleet_invariants.specs.Sound.{link_of, has_heard, SoundLink, SoundDrone, Sound}
use Rattle.fleet_invariants.specs.Kept.{Kept, Keeps}
use Rattle.fleet_invariants.proofs.Lists.{nowhere}
use Rattle.fleet_invariants.proofs.Growth.{at_most_on, kept_still, kept_on, sent_kept, link_kept}
use Rattle.fleet_invariants.proofs.Rooms.{roomy_fresh}
use Rattle.fleet_invariants.proofs.Services.{drone_services_fresh}
use Rattle.fleet_invariants.proofs.Moves.{Steady, steady_of, sound_of, Moves}
use Rattle.fleet_invariants.proofs.Nodes.{NodeGoes, NodeDoes, advanced, node_goes, goes_on}
use Rattle.fleet_invariants.proofs.Doing.{node_beating}
use Rattle.fleet_invariants.proofs.Calls.{keeps}
use Rattle.fleet_invariants.proofs.Gives.{rests_so}

-- ---- it is counted

pub counted_kept : (s : WorldState) → Kept s (restart_line s)
counted_kept s = kept_still s (restart_line s) refl refl refl (omega arith) (omega arith)

pub steady_counted : (s : WorldState) → Steady s → s.restarts < most_restarts → Steady (restart_line s)
steady_counted s g few = record {
  apart = g.apart;
  links = λ i a e. link_kept s (restart_line s) (counted_kept s) (link_of a) (g.links i a e);
  cores = g.cores;
  sent = λ i p e. (sent_kept s (restart_line s) (counted_kept s) p (g.sent i p e)).sent;
  given = g.given;
  drones = g.drones;
  stations = g.stations;
  draft = g.draft;
  clock = g.clock;
  restarts = omega (arith, few);
}

pub sound_counted : (s : WorldState) → Sound s → s.restarts < most_restarts → Sound (restart_line s)
sound_counted s g few = sound_of (restart_line s) (steady_counted s (steady_of s g) few) g.frames

-- ---- it starts with what was stored

no_stamp : (stamp : ℕ) → ◌≡◌ {A = Option ℕ} None (Some stamp) → ⊥
no_stamp stamp e = cc

no_low : (low : ℕ) → ◌≡◌ {A = Option ℕ} (Some low) None → ⊥
no_low low e = cc

-- what is left out is at most the headroom, and one timestamp
further : (low old clock sent restarts : ℕ) → low ≤ old + 5000 → old ≤ clock + (sent + 5001 * restarts) → max 0 (max 0 low) ≤ clock + ((sent + 5001 * (restarts + 1)) + 0)
further low old clock sent restarts h k = at_most_on _ low _ (same low) (omega arith)
  where
    same : (n : ℕ) → max 0 (max 0 n) ≤ n
    same n = grind arith

stored_within : (low : ℕ) → max 0 (max 0 low) ≤ max 0 low
stored_within low = grind arith

stored_near : (low : ℕ) → max 0 low ≤ max 0 (max 0 low) + headroom
stored_near low = grind arith

module _ (s : WorldState) (g : Steady s) (k : ℕ) (n : DroneSide) (found : slice_get s.nodes k ≡ Some (Drone n)) where
  own : SoundDrone n
  own = g.cores k (Drone n) found

  end : SoundLink s n.link
  end = g.links k (Drone n) found

  me_is : record { sys = n.core.sys; comp = 1; link = 0 } ≡ n.link.me
  me_is = λ i. record { sys = own.sys i; comp = sym own.comp i; link = sym end.me.4 i }

  named_is : named (Drone (record n { link = record n.link { me = record { sys = n.core.sys; comp = 1; link = 0 } } })) ≡ named (Drone n)
  named_is = ap (λ (me : Stream). named (Drone (record n { link = record n.link { me = me } }))) me_is

  -- what it admitted and sent is at most the stored low bound
  rises : (low : Option ℕ) → stored_low n.link.history ≡ low → previous_in n.link.history ≤ unwrap_or low 0
  rises low is = at_most_on _ _ _ end.previous (subst (λ (o : Option ℕ). local_of n.link.history ≤ unwrap_or o 0) is end.within)

  near : (low : Option ℕ) → stored_low n.link.history ≡ low → unwrap_or low 0 ≤ local_of n.link.history + headroom
  near low is = subst (λ (o : Option ℕ). unwrap_or o 0 ≤ local_of n.link.history + headroom) is end.near

  starts_by : (low : Option ℕ) → stored_low n.link.history ≡ low → Moves (restart_line s) (Drone n) (Drone (started_again s.key n.core.sys n.services.sim.home low n.core.plans)) []
  starts_by None is = record {
    named_is = named_is;
    link = record {
      me = me_is;
      key = refl;
      extras = refl;
      seq = omega arith;
      local = omega arith;
      rises = rises None is;
      lasts = λ stream stamp e. absurd (no_stamp stamp e);
      within = omega arith;
      near = omega arith;
      sends = λ p e. absurd (nowhere e.index p e.found);
    };
    core = record {
      range = drones.fresh n.core.sys own.range.sys;
      sys = refl;
      comp = refl;
      roomy = roomy_fresh (has_heard (started_again s.key n.core.sys n.services.sim.home None n.core.plans).link) n.core.sys no_plans;
      unstored = λ none. refl;
      services = drone_services_fresh (has_heard (started_again s.key n.core.sys n.services.sim.home None n.core.plans).link) n.core.sys n.services.sim.home own.services.sim.home;
    };
  }
  starts_by (Some low) is = record {
    named_is = named_is;
    link = record {
      me = me_is;
      key = refl;
      extras = refl;
      seq = omega arith;
      local = further low (local_of n.link.history) s.clock (length s.sent) s.restarts (near (Some low) is) end.local;
      rises = rises (Some low) is;
      lasts = λ stream stamp e. absurd (no_stamp stamp e);
      within = stored_within low;
      near = stored_near low;
      sends = λ p e. absurd (nowhere e.index p e.found);
    };
    core = record {
      range = drones.again n.core own.range;
      sys = refl;
      comp = refl;
      roomy = roomy_fresh (has_heard (started_again s.key n.core.sys n.services.sim.home (Some low) n.core.plans).link) n.core.sys n.core.plans;
      unstored = λ none. absurd (no_low (max 0 low) none);
      services = drone_services_fresh (has_heard (started_again s.key n.core.sys n.services.sim.home (Some low) n.core.plans).link) n.core.sys n.services.sim.home own.services.sim.home;
    };
  }

  pub moves_anew : Moves (restart_line s) (Drone n) (Drone (restarted_drone s.key n)) []
  moves_anew = starts_by (stored_low n.link.history) refl

  -- before it sends anything
  pub starts_anew : s.restarts < most_restarts → NodeGoes (restart_line s) k (record { node = Drone (restarted_drone s.key n); events = [] })
  starts_anew few =
      node_goes (restart_line s) k (Drone n) (Drone (restarted_drone s.key n)) [] (steady_counted s g few) found moves_anew tt

  first_does : (b : Node) (o : Outcome Node) → NodeGoes (restart_line s) k (record { node = b; events = [] }) → NodeDoes (advanced (restart_line s) k b []) k o → NodeDoes (restart_line s) k o
  first_does b None first rest = tt
  first_does b (Some d) first rest = goes_on (restart_line s) k (record { node = b; events = [] }) d first rest

  pub drone_starting : s.restarts < most_restarts → NodeDoes (restart_line s) k (as_drone (drone_restarts s.key s.clock n))
  drone_starting few =
      let first = starts_anew few in
      let b : Node = Drone (restarted_drone s.key n) in
      first_does b (as_drone (drone_beats s.clock (restarted_drone s.key n))) first (node_beating (advanced (restart_line s) k b []) k first.steady b first.there)

-- ---- a line

reported : (s : WorldState) (events : List Event) (r : Result Step StepError) → Keeps s r → Keeps s (after_events events r)
reported s events (Ok t) h = record { sound = h.sound; kept = h.kept; names = h.names; clock = h.clock }
reported s events (Err error) h = tt

from_count : (s : WorldState) (r : Result Step StepError) → Keeps (restart_line s) r → Keeps s r
from_count s (Ok t) h = record { sound = h.sound; kept = kept_on s (restart_line s) t.state (counted_kept s) h.kept; names = h.names; clock = h.clock }
from_count s (Err error) h = tt

module _ (s : WorldState) (g : Sound s) (few : s.restarts < most_restarts) where
  at_index : (k : ℕ) (o : Option Node) → slice_get s.nodes k ≡ o → Keeps (restart_line s) (restarts_at (restart_line s) k o)
  at_index k None found = rests_so (restart_line s) (sound_counted s g few)
  at_index k (Some (Station n)) found = rests_so (restart_line s) (sound_counted s g few)
  at_index k (Some (Drone n)) found =
      let name = node_of n.link.me in
      let o = as_drone (drone_restarts s.key s.clock n) in
      reported (restart_line s) (Restarted name ∷ []) (node_does (restart_line s) k name o) (keeps (restart_line s) k name o (drone_starting s (steady_of s g) k n found few))

  placed : (o : Option ℕ) → Keeps (restart_line s) (restarts_found (restart_line s) o)
  placed None = rests_so (restart_line s) (sound_counted s g few)
  placed (Some k) = at_index k (slice_get s.nodes k) refl

  pub sound_restarts : (drone : Name) → Keeps s (starts_again (restart_line s) drone)
  sound_restarts drone = from_count s (starts_again (restart_line s) drone) (placed (position (is_drone_named drone) s.nodes))
