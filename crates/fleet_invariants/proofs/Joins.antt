-- One node more leaves a sound state.
use Rattle.std.proofs.Common.{◌≡◌, ◌≢◌, ℕ, zero, suc, ◌+◌, ◌<◌, ◌≤◌, inl, inr, true, false, List, [], ◌∷◌, ◌++◌, slice_get, Option, Some, None, refl, sym, ap, subst, arith, ◌∙◌}
use Rattle.std.proofs.lemmas.List.{length-append, map-append}
use Rattle.mav_names.specs.declared.names.Name.{Name}
use Rattle.mav_names.specs.declared.names.Stream.{Stream}
use Rattle.mav_names.specs.Addresses.{same_name}
use Rattle.mav_profile.specs.Messages.{extras_of}
use Rattle.mav_profile.specs.Profile.{profile_definitions}
use Rattle.mav_nodes.specs.Links.{new_link}
use Rattle.drone_sim.specs.declared.points.Point.{Point}
use Rattle.drone_sim.specs.Laws.{PointInRange}
use Rattle.mav_nodes.specs.Nodes.{new_drone, new_station}
use Rattle.scenario_lines.specs.LineContext.{has_name}
use Rattle.node_reports.specs.Nodes.{Node, Drone, Station, node_name}
use Rattle.fleet_world.specs.WorldState.{WorldState, named, names_of, stream_of, drones_in, stations_in}
use Rattle.fleet_world.specs.Steps.{most_drones, most_stations}
use Rattle.plan_upload.specs.Plans.{no_plans}
use Rattle.fleet_invariants.proofs.Rooms.{roomy_fresh}
use Rattle.fleet_invariants.proofs.Services.{drone_services_fresh, station_services_fresh}
use Rattle.fleet_invariants.specs.Sound.{link_of, has_heard, SoundLink, SoundCore, Sound}
use Rattle.fleet_invariants.specs.Kept.{Kept}
use Rattle.fleet_invariants.proofs.Lists.{some_is, nowhere, more_there, at_end}
use Rattle.fleet_invariants.proofs.Tests.{neither, differ, name_same}
use Rattle.fleet_invariants.proofs.Growth.{sent_kept, link_kept, named_name}
use Rattle.plan_ranges.proofs.DroneRanges as drones
use Rattle.plan_ranges.proofs.StationRanges as stations

-- no node has this name
abbrev pub Unnamed : List Node → Name → Type 0
Unnamed nodes name = (i : ℕ) (a : Node) → slice_get nodes i ≡ Some a → node_name a ≢ name

pub unnamed : (nodes : List Node) (name : Name) → has_name (names_of nodes) name ≡ false → Unnamed nodes name
unnamed [] name h i a e is = nowhere i a e
unnamed (n ∷ ns) name h zero a e is =
    let called : same_name (named n).name name ≡ true = ap (λ (m : Name). same_name m name) (named_name n ∙ ap node_name (some_is e) ∙ is) ∙ name_same name in
    differ (same_name (named n).name name) called (neither _ _ h).0
unnamed (n ∷ ns) name h (suc i) a e is = unnamed ns name (neither _ _ h).1 i a e is

-- ---- counts

drones_more : (nodes : List Node) (n : Node) → drones_in (nodes ++ n ∷ []) ≡ drones_in nodes + drones_in (n ∷ [])
drones_more [] n = sym (from_none (drones_in (n ∷ [])))
  where
    from_none : (k : ℕ) → 0 + k ≡ k
    from_none k = omega arith
drones_more (Drone m ∷ ns) n = let e = drones_more ns n in omega arith
drones_more (Station m ∷ ns) n = drones_more ns n

stations_more : (nodes : List Node) (n : Node) → stations_in (nodes ++ n ∷ []) ≡ stations_in nodes + stations_in (n ∷ [])
stations_more [] n = sym (from_none (stations_in (n ∷ [])))
  where
    from_none : (k : ℕ) → 0 + k ≡ k
    from_none k = omega arith
stations_more (Drone m ∷ ns) n = stations_more ns n
stations_more (Station m ∷ ns) n = let e = stations_more ns n in omega arith

-- ---- the state with one node more

abbrev pub joined : WorldState → Node → WorldState
joined s n = record s { nodes = s.nodes ++ n ∷ [] }

pub kept_joined : (s : WorldState) (n : Node) → Kept s (joined s n)
kept_joined s n = record {
  key = refl;
  nodes = λ i a e. record { node = a; found = more_there s.nodes (n ∷ []) a i e; named_is = refl; me = refl; previous = omega arith };
  many = (let e = length-append s.nodes (n ∷ []) in omega arith);
  sent = λ i p e. e;
  frames = omega arith;
  clock = omega arith;
  restarts = omega arith;
}

pub sound_joined : (s : WorldState) (n : Node) → Sound s → Unnamed s.nodes (node_name n) → SoundLink s (link_of n) → SoundCore n → drones_in s.nodes + drones_in (n ∷ []) ≤ most_drones → stations_in s.nodes + stations_in (n ∷ []) ≤ most_stations → Sound (joined s n)
sound_joined s n g none link core drones stations =
    let k = kept_joined s n in
    record {
      apart = λ i j a b ea eb e. elim (at_end s.nodes n a i ea) [
        | inl x ↦ elim (at_end s.nodes n b j eb) [
          | inl y ↦ g.apart i j a b x y e
          | inr y ↦ absurd (none i a x (e ∙ sym (ap node_name y.1)))
        ]
        | inr x ↦ elim (at_end s.nodes n b j eb) [
          | inl y ↦ absurd (none j b y (sym e ∙ sym (ap node_name x.1)))
          | inr y ↦ x.0 ∙ sym y.0
        ]
      ];
      links = λ i a e. elim (at_end s.nodes n a i e) [
        | inl x ↦ link_kept s (joined s n) k (link_of a) (g.links i a x)
        | inr x ↦ subst (λ (m : Node). SoundLink (joined s n) (link_of m)) x.1 (link_kept s (joined s n) k (link_of n) link)
      ];
      cores = λ i a e. elim (at_end s.nodes n a i e) [
        | inl x ↦ g.cores i a x
        | inr x ↦ subst SoundCore x.1 core
      ];
      sent = λ i p e. (sent_kept s (joined s n) k p (g.sent i p e)).sent;
      frames = g.frames;
      given = g.given;
      drones = subst (λ m. m ≤ most_drones) (sym (drones_more s.nodes n)) drones;
      stations = subst (λ m. m ≤ most_stations) (sym (stations_more s.nodes n)) stations;
      draft = g.draft;
      clock = g.clock;
      restarts = g.restarts;
    }

pub names_joined_are : (s : WorldState) (n : Node) → names_of (s.nodes ++ n ∷ []) ≡ names_of s.nodes ++ named n ∷ []
names_joined_are s n = map-append named s.nodes (n ∷ [])

-- a link that has heard and sent nothing
no_stamp : (stamp : ℕ) → ◌≡◌ {A = Option ℕ} None (Some stamp) → ⊥
no_stamp stamp e = cc

pub fresh_link : (s : WorldState) (me : Stream) → (1 ≤ me.sys) × (me.sys < 256) × (1 ≤ me.comp) × (me.comp < 256) × (me.link ≡ 0) → SoundLink s (new_link s.key me (extras_of profile_definitions))
fresh_link s me h = record {
  key = refl;
  extras = refl;
  me = h;
  seq = omega arith;
  local = omega arith;
  previous = omega arith;
  lasts = λ stream stamp e. absurd (no_stamp stamp e);
  streams = omega arith;
  within = omega arith;
  near = omega arith;
}

pub drone_joins : (s : WorldState) (sys : ℕ) (home : Point) → Sound s → 1 ≤ sys → sys < 256 → PointInRange home → has_name (names_of s.nodes) (record { sys = sys; comp = 1 }) ≡ false → drones_in s.nodes < most_drones → Sound (joined s (Drone (new_drone s.key sys home)))
drone_joins s sys home g some small range none few =
    sound_joined s (Drone (new_drone s.key sys home)) g (unnamed s.nodes (record { sys = sys; comp = 1 }) none) (fresh_link s (record { sys = sys; comp = 1; link = 0 }) (some, small, omega arith, omega arith, refl)) (record {
      range = drones.fresh sys small;
      sys = refl;
      comp = refl;
      roomy = roomy_fresh (has_heard (new_link s.key (record { sys = sys; comp = 1; link = 0 }) (extras_of profile_definitions))) sys no_plans;
      unstored = λ none. refl;
      services = drone_services_fresh (has_heard (new_link s.key (record { sys = sys; comp = 1; link = 0 }) (extras_of profile_definitions))) sys home range;
    }) (omega (arith, few)) (let h = g.stations in omega (arith, h))

pub station_joins : (s : WorldState) (name : Name) → Sound s → 1 ≤ name.sys → name.sys < 256 → 1 ≤ name.comp → name.comp < 256 → has_name (names_of s.nodes) name ≡ false → stations_in s.nodes < most_stations → Sound (joined s (Station (new_station s.key (stream_of name) 0)))
station_joins s name g some small part short none few =
    sound_joined s (Station (new_station s.key (stream_of name) 0)) g (unnamed s.nodes name none) (fresh_link s (stream_of name) (some, small, part, short, refl)) (record { range = stations.fresh name.sys name.comp 0 0 small short (omega arith) (omega arith); me = refl; told = refl; low = refl; services = station_services_fresh name }) (let h = g.drones in omega (arith, h)) (omega (arith, few))
