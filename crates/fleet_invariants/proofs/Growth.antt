-- What holds of a state goes on to hold if what was named and sent stays.
use Rattle.std.proofs.Common.{◌≡◌, ℕ, ◌+◌, ◌*◌, ◌≤◌, List, length, slice_get, Some, refl, sym, ap, subst, arith, ◌∙◌}
use Rattle.mav_names.specs.declared.names.Name.{Name}
use Rattle.mav_names.specs.declared.names.Stream.{Stream}
use Rattle.mav_profile.specs.Messages.{extras_of}
use Rattle.mav_profile.specs.Profile.{profile_definitions}
use Rattle.mav_frame.specs.Packet.{Packet}
use Rattle.mav_nodes.specs.Links.{Link}
use Rattle.mav_nodes.specs.Signed.{signed_packet}
use Rattle.scenario_lines.specs.declared.naming.Named.{Named}
use Rattle.node_reports.specs.Nodes.{Node, Drone, Station, node_name}
use Rattle.fleet_world.specs.WorldState.{WorldState, named, stream_of}
use Rattle.fleet_invariants.specs.Sound.{Holds, IsSent, WasStamped, SoundLink}
use Rattle.fleet_invariants.specs.Kept.{Follows, Kept}

pub at_most_on : (a b c : ℕ) → a ≤ b → b ≤ c → a ≤ c
at_most_on a b c h k = omega arith

pub named_name : (n : Node) → (named n).name ≡ node_name n
named_name (Drone n) = refl
named_name (Station n) = refl

pub same_named : (a b : Node) → named a ≡ named b → node_name a ≡ node_name b
same_named a b e = sym (named_name a) ∙ ap (λ (n : Named). n.name) e ∙ named_name b

-- ---- a state is kept

pub kept_follows : (s t : WorldState) (i : ℕ) (a : Node) → t.nodes ≡ s.nodes → slice_get s.nodes i ≡ Some a → Follows t.nodes i a
kept_follows s t i a same e = record { node = a; found = ap (λ (ns : List Node). slice_get ns i) same ∙ e; named_is = refl; me = refl; previous = omega arith }

-- if nothing but the rest changed
pub kept_still : (s t : WorldState) → t.key ≡ s.key → t.nodes ≡ s.nodes → t.sent ≡ s.sent → s.clock ≤ t.clock → s.restarts ≤ t.restarts → Kept s t
kept_still s t key nodes sent clock restarts = record {
  key = key;
  nodes = λ i a e. kept_follows s t i a nodes e;
  many = subst (λ (ns : List Node). length s.nodes ≤ length ns) (sym nodes) (omega arith);
  sent = λ i p e. ap (λ (ps : List Packet). slice_get ps i) sent ∙ e;
  frames = subst (λ (ps : List Packet). length s.sent ≤ length ps) (sym sent) (omega arith);
  clock = clock;
  restarts = restarts;
}

pub follows_on : (nodes : List Node) (i : ℕ) (a : Node) (before : List Node) (f : Follows before i a) → Follows nodes i f.node → Follows nodes i a
follows_on nodes i a before f g = record {
  node = g.node;
  found = g.found;
  named_is = g.named_is ∙ f.named_is;
  me = g.me ∙ f.me;
  previous = at_most_on _ _ _ f.previous g.previous;
}

pub kept_on : (s t u : WorldState) → Kept s t → Kept t u → Kept s u
kept_on s t u h k = record {
  key = k.key ∙ h.key;
  nodes = λ i a e. let f = h.nodes i a e in follows_on u.nodes i a t.nodes f (k.nodes i f.node f.found);
  many = at_most_on _ _ _ h.many k.many;
  sent = λ i p e. k.sent i p (h.sent i p e);
  frames = at_most_on _ _ _ h.frames k.frames;
  clock = at_most_on _ _ _ h.clock k.clock;
  restarts = at_most_on _ _ _ h.restarts k.restarts;
}

-- ---- what was sent

pub holds_kept : (s t : WorldState) → Kept s t → (name : Name) → Holds s.nodes name → Holds t.nodes name
holds_kept s t k name h =
    let f = k.nodes h.index h.node h.found in
    record { index = h.index; node = f.node; found = f.found; name_is = same_named f.node h.node f.named_is ∙ h.name_is }

-- a sent frame, with its timestamp
pub record SentAt (s : WorldState) (p : Packet) (stamp : ℕ) : Type 0 where
  pub sent : IsSent s p
  pub stamp_is : sent.stamp ≡ stamp

pub sent_kept : (s t : WorldState) → Kept s t → (p : Packet) (q : IsSent s p) → SentAt t p q.stamp
sent_kept s t k p q =
    let f = k.nodes q.from.index q.from.node q.from.found in
    record {
      sent = record {
        from = record { index = q.from.index; node = f.node; found = f.found; name_is = same_named f.node q.from.node f.named_is ∙ q.from.name_is };
        seq = q.seq;
        stamp = q.stamp;
        message = q.message;
        is = q.is ∙ ap (λ key. signed_packet key (extras_of profile_definitions) (stream_of p.from) q.seq q.stamp q.message) (sym k.key);
        seq_fits = q.seq_fits;
        some = q.some;
        by_latest = at_most_on _ _ _ q.by_latest f.previous;
        stamp_fits = q.stamp_fits;
        fits = q.fits;
        item_fits = q.item_fits;
        service_fits = q.service_fits;
      };
      stamp_is = refl;
    }

pub stamped_kept : (s t : WorldState) → Kept s t → (stream : Stream) (stamp : ℕ) → WasStamped s stream stamp → WasStamped t stream stamp
stamped_kept s t k stream stamp w =
    let r = sent_kept s t k w.packet w.sent in
    record {
      index = w.index;
      packet = w.packet;
      found = k.sent w.index w.packet w.found;
      sent = r.sent;
      stream_is = w.stream_is;
      stamp_is = r.stamp_is ∙ w.stamp_is;
    }

more_room : (a b r c d q local : ℕ) → local ≤ a + (b + 5001 * r) → a ≤ c → b ≤ d → r ≤ q → local ≤ c + (d + 5001 * q)
more_room a b r c d q local h i j k = omega arith

pub link_kept : (s t : WorldState) → Kept s t → (link : Link) → SoundLink s link → SoundLink t link
link_kept s t k link h = record {
  key = h.key ∙ sym k.key;
  extras = h.extras;
  me = h.me;
  seq = h.seq;
  local = more_room _ _ _ _ _ _ _ h.local k.clock k.frames k.restarts;
  previous = h.previous;
  lasts = λ stream stamp e. stamped_kept s t k stream stamp (h.lasts stream stamp e);
  streams = at_most_on _ _ _ h.streams k.many;
  within = h.within;
  near = h.near;
}
