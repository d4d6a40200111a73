-- One node moves, and sends frames: the state stays steady.
use Rattle.std.proofs.Common.{◌≡◌, ℕ, ◌+◌, ◌*◌, ◌<◌, ◌≤◌, ◌^◌, inl, inr, true, List, [], ◌∷◌, ◌++◌, length, map, slice_get, slice_set, Some, None, refl, sym, ap, subst, arith, ◌∙◌}
use Rattle.std.specs.Prelude.{All, option_map, unwrap_or}
use Rattle.std.proofs.lemmas.Option.{slice_get-map}
use Rattle.std.proofs.lemmas.List.{length-append, length-map}
use Rattle.mav_names.specs.declared.names.Name.{Name}
use Rattle.mav_names.specs.declared.names.Stream.{Stream}
use Rattle.mav_profile.specs.Messages.{extras_of}
use Rattle.mav_profile.specs.Profile.{profile_definitions}
use Rattle.field_layout.specs.Payload.{FitsLayout}
use Rattle.mav_frame.specs.Packet.{Packet}
use Rattle.mav_messages.specs.declared.messages.Message.{Message}
use Rattle.mav_messages.specs.Messages.{definition_of, values_of}
use Rattle.mav_messages.specs.Plans.{plan_of}
use Rattle.mav_sign.specs.History.{Entry, last_of, low_of, local_of, previous_in, streams_of}
use Rattle.mav_nodes.specs.LowBounds.{headroom, stored_low}
use Rattle.mav_nodes.specs.Links.{Link}
use Rattle.mav_nodes.specs.Payloads.{ItemFits, ServiceFits}
use Rattle.mav_nodes.specs.Signed.{signed_packet}
use Rattle.plan_ranges.specs.Ranges.{ItemInRange}
use Rattle.scenario_lines.specs.declared.naming.Named.{Named}
use Rattle.scenario_lines.specs.declared.naming.Role.{Role}
use Rattle.scenario_lines.specs.declared.naming.Role.TheVariants.{Drone as DroneRole, Station as StationRole}
use Rattle.node_reports.specs.Nodes.{Node, Drone, Station, node_name}
use Rattle.fleet_world.specs.WorldState.{WorldState, named, names_of, stream_of, drones_in, stations_in}
use Rattle.fleet_world.specs.Steps.{most_frames, most_drones, most_stations, most_restarts}
use Rattle.fleet_invariants.specs.Sound.{ahead, link_of, has_heard, IsSent, WasStamped, SoundLink, SoundCore, Sound}
use Rattle.fleet_invariants.specs.Kept.{Follows, Kept}
use Rattle.fleet_invariants.proofs.Lists.{set_there, which, stays_where, set_length, map_set, more_there, IsAt, in_either}
use Rattle.fleet_invariants.proofs.Histories.{previous_local}
use Rattle.fleet_invariants.proofs.Streams.{streams_among, found_there}
use Rattle.fleet_invariants.proofs.Growth.{at_most_on, same_named, sent_kept, stamped_kept, link_kept}

-- a state that is sound but for the limit of frames
pub record Steady (s : WorldState) : Type 0 where
  pub apart : (i j : ℕ) (a b : Node) → slice_get s.nodes i ≡ Some a → slice_get s.nodes j ≡ Some b → node_name a ≡ node_name b → i ≡ j
  pub links : (i : ℕ) (a : Node) → slice_get s.nodes i ≡ Some a → SoundLink s (link_of a)
  pub cores : (i : ℕ) (a : Node) → slice_get s.nodes i ≡ Some a → SoundCore a
  pub sent : (i : ℕ) (p : Packet) → slice_get s.sent i ≡ Some p → IsSent s p
  pub given : s.given ≤ length s.sent
  pub drones : drones_in s.nodes ≤ most_drones
  pub stations : stations_in s.nodes ≤ most_stations
  pub draft : All ItemInRange s.draft
  pub clock : s.clock ≤ 140737488355328
  pub restarts : s.restarts ≤ most_restarts

pub steady_of : (s : WorldState) → Sound s → Steady s
steady_of s g = record { apart = g.apart; links = g.links; cores = g.cores; sent = g.sent; given = g.given; drones = g.drones; stations = g.stations; draft = g.draft; clock = g.clock; restarts = g.restarts }

pub sound_of : (s : WorldState) → Steady s → length s.sent ≤ most_frames → Sound s
sound_of s g frames = record { apart = g.apart; links = g.links; cores = g.cores; sent = g.sent; frames = frames; given = g.given; drones = g.drones; stations = g.stations; draft = g.draft; clock = g.clock; restarts = g.restarts }

-- a frame that a node sends
pub record Sending (s : WorldState) (b : Link) (p : Packet) : Type 0 where
  pub seq : ℕ
  pub stamp : ℕ
  pub message : Message
  pub is : p ≡ signed_packet s.key (extras_of profile_definitions) b.me seq stamp message
  pub seq_fits : seq < 256
  pub some : 1 ≤ stamp
  pub by_latest : stamp ≤ previous_in b.history
  pub stamp_fits : stamp < 2 ^ 48
  pub fits : FitsLayout (definition_of message) (values_of message)
  pub item_fits : ItemFits (plan_of message)
  pub service_fits : ServiceFits message

-- a node's end of the links goes on
pub record LinkMoves (s : WorldState) (a b : Link) (packets : List Packet) : Type 0 where
  pub me : b.me ≡ a.me
  pub key : b.key ≡ s.key
  pub extras : b.extras ≡ extras_of profile_definitions
  pub seq : b.seq < 256
  pub local : local_of b.history ≤ s.clock + (ahead s + length packets)
  pub rises : previous_in a.history ≤ previous_in b.history
  pub lasts : (stream : Stream) (stamp : ℕ) → last_of stream b.history ≡ Some stamp → WasStamped s stream stamp
  pub within : local_of b.history ≤ unwrap_or (stored_low b.history) 0
  pub near : unwrap_or (stored_low b.history) 0 ≤ local_of b.history + headroom
  pub sends : (p : Packet) → IsAt packets p → Sending s b p

-- it goes on with what it has heard and stored
pub record LinkGrows (s : WorldState) (a b : Link) (packets : List Packet) : Type 0 where
  pub moves : LinkMoves s a b packets
  pub unstored : stored_low b.history ≡ None → stored_low a.history ≡ None
  pub low : low_of b.history ≡ low_of a.history
  pub heard : (stream : Stream) → has_heard a stream ≡ true → has_heard b stream ≡ true

pub record Moves (s : WorldState) (a b : Node) (packets : List Packet) : Type 0 where
  pub named_is : named b ≡ named a
  pub link : LinkMoves s (link_of a) (link_of b) packets
  pub core : SoundCore b

abbrev pub moved : WorldState → ℕ → Node → List Packet → WorldState
moved s k b packets = record s { nodes = slice_set s.nodes k b; sent = s.sent ++ packets }

-- ---- how many there are of a role

abbrev one_if : Role → Role → ℕ
one_if DroneRole DroneRole = 1
one_if DroneRole StationRole = 0
one_if StationRole DroneRole = 0
one_if StationRole StationRole = 1

abbrev among : Role → List Named → ℕ
among role [] = 0
among role (n ∷ ns) = one_if role n.role + among role ns

drones_named : (nodes : List Node) → drones_in nodes ≡ among DroneRole (names_of nodes)
drones_named [] = refl
drones_named (Drone n ∷ ns) = ap (λ k. 1 + k) (drones_named ns)
drones_named (Station n ∷ ns) = drones_named ns ∙ sym (plus_none (among DroneRole (names_of ns)))
  where
    plus_none : (k : ℕ) → 0 + k ≡ k
    plus_none k = omega arith

stations_named : (nodes : List Node) → stations_in nodes ≡ among StationRole (names_of nodes)
stations_named [] = refl
stations_named (Drone n ∷ ns) = stations_named ns ∙ sym (plus_none (among StationRole (names_of ns)))
  where
    plus_none : (k : ℕ) → 0 + k ≡ k
    plus_none k = omega arith
stations_named (Station n ∷ ns) = ap (λ k. 1 + k) (stations_named ns)

pub same_drones : (xs ys : List Node) → names_of xs ≡ names_of ys → drones_in xs ≡ drones_in ys
same_drones xs ys e = drones_named xs ∙ ap (among DroneRole) e ∙ sym (drones_named ys)

pub same_stations : (xs ys : List Node) → names_of xs ≡ names_of ys → stations_in xs ≡ stations_in ys
same_stations xs ys e = stations_named xs ∙ ap (among StationRole) e ∙ sym (stations_named ys)

-- ---- no more streams than nodes

pub streams_few : (s : WorldState) (history : List Entry) → ((stream : Stream) (stamp : ℕ) → last_of stream history ≡ Some stamp → WasStamped s stream stamp) → length (streams_of history) ≤ length s.nodes
streams_few s history lasts =
    let streams = map (λ (n : Node). stream_of (node_name n)) s.nodes in
    subst (λ n. length (streams_of history) ≤ n) (length-map s.nodes (λ (n : Node). stream_of (node_name n)))
    (streams_among history streams (λ stream stamp e.
    let w = lasts stream stamp e in
    let from = w.sent.from in
    found_there streams from.index stream (slice_get-map (λ (n : Node). stream_of (node_name n)) s.nodes from.index ∙ ap (option_map (λ (n : Node). stream_of (node_name n))) from.found ∙ ap Some (ap stream_of from.name_is ∙ w.stream_is))))

-- ---- one node moves

abbrev stream : ℕ → ℕ → ℕ → Stream
stream a b c = record { sys = a; comp = b; link = c }

node_streams : (b : Link) (name : Name) → b.me.link ≡ 0 → (record { sys = b.me.sys; comp = b.me.comp }) ≡ name → b.me ≡ stream_of name
node_streams b name zero is = ap (λ l. stream b.me.sys b.me.comp l) zero ∙ ap stream_of is

module _ (s : WorldState) (k : ℕ) (a b : Node) (packets : List Packet) (found : slice_get s.nodes k ≡ Some a) (m : Moves s a b packets) where
  abbrev after : WorldState
  after = moved s k b packets

  follows : (i : ℕ) (c : Node) → slice_get s.nodes i ≡ Some c → Follows after.nodes i c
  follows i c e = elim (stays_where s.nodes k a b found i c e) [
    | inl h ↦ record {
      node = b;
      found = h.1.1;
      named_is = m.named_is ∙ sym (ap named h.1.0);
      me = m.link.me ∙ sym (ap (λ (n : Node). (link_of n).me) h.1.0);
      previous = subst (λ (n : Node). previous_in (link_of n).history ≤ previous_in (link_of b).history) (sym h.1.0) m.link.rises;
    }
    | inr h ↦ record { node = c; found = h; named_is = refl; me = refl; previous = omega arith }
  ]

  longer : length s.sent ≤ length (s.sent ++ packets)
  longer = let e = length-append s.sent packets in omega arith

  pub kept_moved : Kept s after
  kept_moved = record {
    key = refl;
    nodes = follows;
    many = (let e = set_length s.nodes k b in omega arith);
    sent = λ i p e. more_there s.sent packets p i e;
    frames = longer;
    clock = omega arith;
    restarts = omega arith;
  }

  pub names_moved : names_of after.nodes ≡ names_of s.nodes
  names_moved = map_set named s.nodes k a b found m.named_is

  -- the index that a node had
  record Was (i : ℕ) (c : Node) : Type 0 where
    node : Node
    there : slice_get s.nodes i ≡ Some node
    name_is : node_name node ≡ node_name c

  was : (i : ℕ) (c : Node) → slice_get after.nodes i ≡ Some c → Was i c
  was i c e = elim (which s.nodes k a b found i c e) [
    | inl h ↦ record { node = a; there = ap (slice_get s.nodes) h.0 ∙ found; name_is = same_named a b (sym m.named_is) ∙ ap node_name (sym h.1) }
    | inr h ↦ record { node = c; there = h.1; name_is = refl }
  ]

  lasts : (stream : Stream) (stamp : ℕ) → last_of stream (link_of b).history ≡ Some stamp → WasStamped after stream stamp
  lasts stream stamp e = stamped_kept s after kept_moved stream stamp (m.link.lasts stream stamp e)

  further : (clock sent more all again local : ℕ) → all ≡ sent + more → local ≤ clock + ((sent + again) + more) → local ≤ clock + (all + again)
  further clock sent more all again local e h = omega arith

  own_link : SoundLink s (link_of a) → SoundLink after (link_of b)
  own_link h = record {
    key = m.link.key;
    extras = m.link.extras;
    me = subst (λ (me : Stream). (1 ≤ me.sys) × (me.sys < 256) × (1 ≤ me.comp) × (me.comp < 256) × (me.link ≡ 0)) (sym m.link.me) h.me;
    seq = m.link.seq;
    local = further (s.clock) (length s.sent) (length packets) (length (s.sent ++ packets)) (5001 * s.restarts) (local_of (link_of b).history) (length-append s.sent packets) m.link.local;
    previous = previous_local (link_of b).history;
    lasts = lasts;
    streams = streams_few after (link_of b).history lasts;
    within = m.link.within;
    near = m.link.near;
  }

  new_sent : Steady s → (p : Packet) → Sending s (link_of b) p → slice_get after.nodes k ≡ Some b → IsSent after p
  new_sent g p q there =
      let old = g.links k a found in
      let from : (record { sys = (link_of b).me.sys; comp = (link_of b).me.comp }) ≡ p.from = sym (ap (λ (x : Packet). x.from) q.is) in
      let me : (link_of b).me ≡ stream_of p.from = node_streams (link_of b) p.from (ap (λ (x : Stream). x.link) m.link.me ∙ old.me.4) from in
      record {
        from = record { index = k; node = b; found = there; name_is = own_name b ∙ from };
        seq = q.seq;
        stamp = q.stamp;
        message = q.message;
        is = q.is ∙ ap (λ (x : Stream). signed_packet s.key (extras_of profile_definitions) x q.seq q.stamp q.message) me;
        seq_fits = q.seq_fits;
        some = q.some;
        by_latest = q.by_latest;
        stamp_fits = q.stamp_fits;
        fits = q.fits;
        item_fits = q.item_fits;
        service_fits = q.service_fits;
      }
    where
      own_name : (n : Node) → node_name n ≡ (record { sys = (link_of n).me.sys; comp = (link_of n).me.comp })
      own_name (Drone n) = refl
      own_name (Station n) = refl

  pub steady_moved : Steady s → Steady after
  steady_moved g = record {
    apart = λ i j c d ec ed e.
        let x = was i c ec in
        let y = was j d ed in
        g.apart i j x.node y.node x.there y.there (x.name_is ∙ e ∙ sym y.name_is);
    links = λ i c e. elim (which s.nodes k a b found i c e) [
      | inl h ↦ subst (λ (n : Node). SoundLink after (link_of n)) (sym h.1) (own_link (g.links k a found))
      | inr h ↦ link_kept s after kept_moved (link_of c) (g.links i c h.1)
    ];
    cores = λ i c e. elim (which s.nodes k a b found i c e) [
      | inl h ↦ subst SoundCore (sym h.1) m.core
      | inr h ↦ g.cores i c h.1
    ];
    sent = λ i p e. elim (in_either s.sent packets p i e) [
      | inl h ↦ (sent_kept s after kept_moved p (g.sent i p h)).sent
      | inr h ↦ new_sent g p (m.link.sends p h) (set_there s.nodes k a b found)
    ];
    given = at_most_on _ _ _ g.given longer;
    drones = subst (λ n. n ≤ most_drones) (sym (same_drones after.nodes s.nodes names_moved)) g.drones;
    stations = subst (λ n. n ≤ most_stations) (sym (same_stations after.nodes s.nodes names_moved)) g.stations;
    draft = g.draft;
    clock = g.clock;
    restarts = g.restarts;
  }
