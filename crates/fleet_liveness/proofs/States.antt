-- What a sound state gives: who is at an index, which timestamps are fresh, and that they are admitted.
use Rattle.std.proofs.Common.{◌≡◌, ◌≢◌, ◌∙◌, ℕ, ◌+◌, ◌<◌, ◌≤◌, max, Bool, true, List, [], ◌∷◌, length, slice_get, map, filter, fold, Option, Some, None, refl, sym, ap, subst, arith}
use Rattle.mav_nodes.specs.Nodes.{DroneSide, StationSide}
use Rattle.mav_names.specs.declared.names.Name.{Name}
use Rattle.mav_names.specs.declared.names.Stream.{Stream}
use Rattle.mav_frame.specs.Packet.{Packet}
use Rattle.plan_items.specs.declared.messages.PlanMsg.{PlanMsg}
use Rattle.plan_items.specs.declared.messages.PlanMsg.TheVariants.{Ping}
use Rattle.mav_names.specs.Addresses.{node_of, same_name, everyone, is_for_drone, drone_name}
use Rattle.plan_upload.specs.Drone.{rests, drone_step}
use Rattle.plan_upload.specs.Station.{stays, addressee, station_step}
use Rattle.mav_sign.specs.declared.admission.Admit.TheVariants.{Admitted}
use Rattle.mav_sign.specs.History.{Entry, tried, sent, Stamped, same_stream, answer_to, admitted_in, stamps_of, low_of, last_of, previous_in, accepted_in, streams_of, next_in}
use Rattle.mav_sign.proofs.Histories.{low_same, greatest_some}
use Rattle.mav_nodes.specs.Links.{Link, tries, sent_at}
use Rattle.node_reports.specs.Nodes.{Node, Drone, Station, node_name}
use Rattle.fleet_world.specs.WorldState.{WorldState, stream_of, drones_in, stations_in}
use Rattle.fleet_invariants.specs.Sound.{link_of, Holds, Sound}
use Rattle.fleet_invariants.proofs.Lists.{some_is}
use Rattle.fleet_invariants.proofs.Histories.{next_later, trying_previous}
use Rattle.fleet_invariants.proofs.Tests.{by_test, name_is}
use Rattle.fleet_liveness.proofs.Names.{names_apart, not_everyone, not_for_drone, drone_rests, station_rests}
use Rattle.fleet_liveness.proofs.Hearing.{Carries, admitted}

pub both_roles : (nodes : List Node) → length nodes ≡ drones_in nodes + stations_in nodes
both_roles [] = refl
both_roles (Drone n ∷ ns) = let e = both_roles ns in omega arith
both_roles (Station n ∷ ns) = let e = both_roles ns in omega arith

-- two nodes at one index are one
pub same_place : (nodes : List Node) (i j : ℕ) (a b : Node) → slice_get nodes i ≡ Some a → slice_get nodes j ≡ Some b → i ≡ j → a ≡ b
same_place nodes i j a b ea eb e = some_is (sym ea ∙ ap (slice_get nodes) e ∙ eb)

-- a timestamp is above the low bound that a history began with, if there is one
abbrev pub IsAbove : List Entry → ℕ → Type 0
IsAbove history stamp = (low : ℕ) → low_of history ≡ Some low → low < stamp

-- a frame that is tried, and one that is sent, leave that bound unchanged
pub low_tried : (link : Link) (p : Packet) → low_of (tries p link).history ≡ low_of link.history
low_tried link p = low_same link.history (tried p (answer_to link.key link.history p)) refl

pub low_sent : (link : Link) (stamp : ℕ) → low_of (sent_at stamp link).history ≡ low_of link.history
low_sent link stamp = low_same link.history (sent stamp) refl

module _ (s : WorldState) (g : Sound s) where
  -- no station was started with a low bound
  pub station_above : (i : ℕ) (y : StationSide) → slice_get s.nodes i ≡ Some (Station y) → (stamp : ℕ) → IsAbove y.link.history stamp
  station_above i y there stamp low e = absurd (let bound : ◌≡◌ {A = Option ℕ} None (Some low) = sym (g.cores i (Station y) there).low ∙ e in cc)

  pub few_streams : (i : ℕ) (a : Node) → slice_get s.nodes i ≡ Some a → length (streams_of (link_of a).history) ≤ 32
  few_streams i a e =
      let l = (g.links i a e).streams in
      let n = both_roles s.nodes in
      let d = g.drones in
      let t = g.stations in
      omega arith

  -- what a node last admitted of another is not above what that one last sent
  pub last_before : (i j : ℕ) (a b : Node) → slice_get s.nodes i ≡ Some a → slice_get s.nodes j ≡ Some b → (name : Name) → node_name b ≡ name
      → (l : ℕ) → last_of (stream_of name) (link_of a).history ≡ Some l → l ≤ previous_in (link_of b).history
  last_before i j a b ea eb name named l e =
      let w = (g.links i a ea).lasts (stream_of name) l e in
      let from = w.sent.from in
      let is : w.packet.from ≡ name = ap node_of w.stream_is in
      let index : from.index ≡ j = g.apart from.index j from.node b from.found eb (from.name_is ∙ is ∙ sym named) in
      let node : from.node ≡ b = same_place s.nodes from.index j from.node b from.found eb index in
      let below : w.sent.stamp ≤ previous_in (link_of b).history = subst (λ (n : Node). w.sent.stamp ≤ previous_in (link_of n).history) node w.sent.by_latest in
      subst (λ t. t ≤ previous_in (link_of b).history) w.stamp_is below

  -- the name of a node is a name
  pub some_name : (name : Name) → Holds s.nodes name → (1 ≤ name.sys) × (1 ≤ name.comp)
  some_name name h = subst (λ (n : Name). (1 ≤ n.sys) × (1 ≤ n.comp)) h.name_is (own h.node (g.links h.index h.node h.found).me)
    where
      own : (a : Node) → (1 ≤ (link_of a).me.sys) × ((link_of a).me.sys < 256) × (1 ≤ (link_of a).me.comp) × ((link_of a).me.comp < 256) × ((link_of a).me.link ≡ 0) → (1 ≤ (node_name a).sys) × (1 ≤ (node_name a).comp)
      own (Drone n) h = (h.0, h.2)
      own (Station n) h = (h.0, h.2)

  -- a message for a node is left alone at every other index
  pub drone_leaves : (to : Name) (h : Holds s.nodes to) (j : ℕ) (y : DroneSide) → slice_get s.nodes j ≡ Some (Drone y) → j ≢ h.index → (from : Stream) (m : PlanMsg) → addressee m ≡ to → drone_step true y.core from m ≡ rests y.core
  drone_leaves to h j y there ne from m is =
      let some = some_name to h in
      let core = g.cores j (Drone y) there in
      let own : drone_name y.core.sys ≡ node_name (Drone y) = name_is (drone_name y.core.sys) (node_name (Drone y)) core.sys (sym core.comp) in
      let other : to ≢ drone_name y.core.sys = λ e. ne (g.apart j h.index (Drone y) h.node there h.found (sym (h.name_is ∙ e ∙ own))) in
      drone_rests y.core from m
      (ap (is_for_drone y.core.sys) is ∙ not_for_drone y.core.sys to some.1 other)
      (ap (λ n. same_name n everyone) is ∙ not_everyone to some.0)

  pub station_leaves : (to : Name) (h : Holds s.nodes to) (j : ℕ) (y : StationSide) → slice_get s.nodes j ≡ Some (Station y) → j ≢ h.index → (from : Stream) (m : PlanMsg) → addressee m ≡ to → station_step y.core from m ≡ stays y.core
  station_leaves to h j y there ne from m is =
      let core = g.cores j (Station y) there in
      station_rests y.core from m (ap (λ n. same_name n y.core.me) is ∙ names_apart to y.core.me (λ e. ne (g.apart j h.index (Station y) h.node there h.found (sym (h.name_is ∙ e ∙ core.me)))))

  -- so is what is for all, by stations
  pub station_leaves_ping : (j : ℕ) (y : StationSide) → slice_get s.nodes j ≡ Some (Station y) → (from : Stream) (boot number : ℕ) → station_step y.core from (Ping everyone boot number) ≡ stays y.core
  station_leaves_ping j y there from boot number =
      let core = g.cores j (Station y) there in
      let some = (g.links j (Station y) there).me.0 in
      let sys : y.core.me.sys ≡ y.link.me.sys = ap (λ (n : Name). n.sys) core.me in
      station_rests y.core from (Ping everyone boot number) (names_apart everyone y.core.me (λ e. let z : 0 ≡ y.core.me.sys = ap (λ (n : Name). n.sys) e in absurd (omega arith)))

  -- a frame that carries a message is admitted if its timestamp is fresh and above the low bound
  pub is_admitted : (i : ℕ) (a : Node) → slice_get s.nodes i ≡ Some a → (p : Packet) (stamp : ℕ) (m : PlanMsg) → Carries s.key p stamp m → s.clock ≤ stamp
      → ((l : ℕ) → last_of (stream_of p.from) (link_of a).history ≡ Some l → l < stamp) → IsAbove (link_of a).history stamp → answer_to (link_of a).key (link_of a).history p ≡ Admitted
  is_admitted i a e p stamp m c clock fresh above =
      let link = g.links i a e in
      let few = few_streams i a e in
      let local = link.local in
      let frames = g.frames in
      let restarts = g.restarts in
      ap (λ k. answer_to k (link_of a).history p) link.key
      ∙ admitted s.key p stamp m c (link_of a).history above fresh (omega arith) (omega arith)

-- the timestamp of the next frame is above what was sent, and not below the clock
pub next_fresh : (key : List ℕ) (link : Link) (p : Packet) (clock : ℕ) → previous_in link.history < next_in (tries p link).history clock
next_fresh key link p clock =
    let later = next_later (tries p link).history clock in
    let same = trying_previous link.history p (answer_to link.key link.history p) in
    omega arith

pub next_recent : (history : List Entry) (clock : ℕ) → clock ≤ next_in history clock
next_recent history clock = above (previous_in history + 1) clock (accepted_in history)
  where
    above : (a b c : ℕ) → b ≤ max a (max b c)
    above a b c = grind arith

-- what was admitted of a stream is not above the greatest that was admitted
few_of_all : (test : Stamped → Bool) (xs : List Stamped) (a b : ℕ) → a ≤ b → fold max a (map (λ (s : Stamped). s.stamp) (filter test xs)) ≤ fold max b (map (λ (s : Stamped). s.stamp) xs)
few_of_all test [] a b h = h
few_of_all test (x ∷ xs) a b h =
    by_test (λ (ys : List Stamped). fold max a (map (λ (s : Stamped). s.stamp) ys) ≤ fold max (max b x.stamp) (map (λ (s : Stamped). s.stamp) xs)) (test x) (x ∷ filter test xs) (filter test xs)
    (λ _. few_of_all test xs (max a x.stamp) (max b x.stamp) (both a b x.stamp h))
    (λ _. few_of_all test xs a (max b x.stamp) (more a b x.stamp h))
  where
    both : (a b c : ℕ) → a ≤ b → max a c ≤ max b c
    both a b c h = grind arith

    more : (a b c : ℕ) → a ≤ b → a ≤ max b c
    more a b c h = grind arith

-- nor above the next timestamp
pub last_next : (stream : Stream) (history : List Entry) (clock l : ℕ) → last_of stream history ≡ Some l → l ≤ next_in history clock
last_next stream history clock l e =
    let is = greatest_some (stamps_of stream (admitted_in history)) l e in
    let few = few_of_all (λ s. same_stream stream s.stream) (admitted_in history) 0 0 (omega arith) in
    above (previous_in history + 1) clock (accepted_in history) l (subst (λ n. n ≤ accepted_in history) is few)
  where
    above : (a b c l : ℕ) → l ≤ c → l ≤ max a (max b c)
    above a b c l h = grind arith
