-- What a node sends, as a packet and as a frame of the world, and what is seen of it.
use Rattle.std.proofs.Common.{◌≡◌, ℕ, ◌+◌, ◌≤◌, List, [], ◌∷◌, ◌++◌, length, Option, Some, None, refl, sym, ap, arith, ◌∙◌}
use Rattle.std.specs.Prelude.{IfSome}
use Rattle.std.proofs.lemmas.List.{append_assoc, append-nil}
use Rattle.mav_names.specs.declared.names.Stream.{Stream}
use Rattle.plan_items.specs.declared.messages.PlanMsg.{PlanMsg}
use Rattle.plan_upload.specs.Addresses.{node_of}
use Rattle.plan_safety.specs.Frames.{Frame}
use Rattle.plan_safety.specs.Store.{StoreEvent}
use Rattle.plan_safety.specs.World.{World, frame_of}
use Rattle.plan_safety.proofs.FleetMoves.{plus}
use Rattle.mav_frame.specs.Packet.{Packet, SignatureBlock}
use Rattle.mav_messages.specs.declared.messages.Message.{Message}
use Rattle.mav_messages.specs.Plans.{plan_of}
use Rattle.mav_sign.specs.History.{next_in}
use Rattle.mav_nodes.specs.News.{NodeEvent, Sends}
use Rattle.mav_nodes.specs.Links.{Link}
use Rattle.plan_ranges.specs.Ranges.{StreamInRange, InRange}
use Rattle.mav_nodes.specs.Signed.{signed_packet}
use Rattle.fleet_world.specs.Steps.{packets_in}
use Rattle.fleet_invariants.specs.Kept.{Reads, AllRead}
use Rattle.fleet_safety.specs.Reporting.{ProtocolEvent, sent_seen, changes_reported, ends_reported, frames_reported, frame_reported, step_reported}
use Rattle.fleet_safety.proofs.Lists.{some_is}
use Rattle.fleet_safety.proofs.Frames.{SameFrame}
use Rattle.fleet_safety.proofs.Names.{stream_named}
use Rattle.fleet_safety.proofs.Reports.{seen_by, seen_by_on, frames_new, new_reported}

-- the packet of a message that a link sends now
abbrev pub packet_of : Link → ℕ → Message → Packet
packet_of link clock message = signed_packet link.key link.extras link.me link.seq (next_in link.history clock) message

-- it is the world's frame
pub sent_frame : (link : Link) (clock next : ℕ) (message : Message) (said : Option PlanMsg) → link.me.link ≡ 0 → StreamInRange link.me → IfSome said InRange → next ≡ next_in link.history clock → 1 ≤ next → plan_of message ≡ said → Reads (Sends (packet_of link clock message) message) → SameFrame (packet_of link clock message) (frame_of link.me next said)
sent_frame link clock next message said zero stream range now some is reads = record {
  from = stream_named link.me zero;
  message = sym is ∙ sym reads;
  some = some;
  stream = stream;
  range = range;
  block = λ b e.
      let z = some_is e in
      (sym (ap (λ (c : SignatureBlock). c.link) z) ∙ zero, sym (ap (λ (c : SignatureBlock). c.stamp) z) ∙ sym now);
}

-- a part of what reads back
pub read_second : (xs ys : List NodeEvent) → AllRead (xs ++ ys) → AllRead ys
read_second [] ys h = h
read_second (x ∷ xs) ys h = read_second xs ys h.1

pub read_first : (xs ys : List NodeEvent) → AllRead (xs ++ ys) → AllRead xs
read_first [] ys h = tt
read_first (x ∷ xs) ys h = (h.0, read_first xs ys h.1)

-- what is seen of a step of the world
abbrev pub step_seen : List StoreEvent → ℕ → Option Frame → List ProtocolEvent
step_seen news number f = changes_reported news ++ new_reported number f ++ ends_reported news

pub step_is : (u v : World) (f : Option Frame) → v.sent ≡ plus f u.sent → step_reported u v ≡ step_seen v.news (length u.sent + 1) f
step_is u v f sent =
    ap (λ fs. changes_reported v.news ++ frames_reported (length u.sent) fs ++ ends_reported v.news) sent
    ∙ ap (λ r. changes_reported v.news ++ r ++ ends_reported v.news) (frames_new u.sent f)

said_seen : (number : ℕ) (s : Stream) (o : Option PlanMsg) → sent_seen number (node_of s) o ≡ frame_reported number s o
said_seen number s None = refl
said_seen number s (Some m) = refl

-- what a node's step reports is seen of the world's: changes before the frame, and an end after it
module _ (x : Stream) (before frames : ℕ) (first last : List NodeEvent) (news : List StoreEvent) (none : packets_in first ≡ []) (changes : (k : ℕ) → seen_by (node_of x) k first ≡ changes_reported news) (ends : (k : ℕ) → seen_by (node_of x) k last ≡ ends_reported news) (many : before ≡ frames) where
  count : before + length (packets_in first) ≡ frames
  count = ap (λ (ps : List Packet). before + length ps) none ∙ zero before ∙ many
    where
      zero : (k : ℕ) → k + 0 ≡ k
      zero k = omega arith

  pub quiet_seen : seen_by (node_of x) before (first ++ last) ≡ step_seen news (frames + 1) None
  quiet_seen =
      seen_by_on (node_of x) before first last
      ∙ ap (λ r. r ++ seen_by (node_of x) (before + length (packets_in first)) last) (changes before)
      ∙ ap (λ r. changes_reported news ++ r) (ends (before + length (packets_in first)))
      ∙ ap (λ r. r ++ ends_reported news) (sym (append-nil (changes_reported news)))

  pub sends_seen : (q : Packet) (message : Message) (said : Option PlanMsg) (next : ℕ) → q.from ≡ node_of x → plan_of message ≡ said → seen_by (node_of x) before (first ++ Sends q message ∷ last) ≡ step_seen news (frames + 1) (Some (frame_of x next said))
  sends_seen q message said next from is =
      seen_by_on (node_of x) before first (Sends q message ∷ last)
      ∙ ap (λ r. r ++ seen_by (node_of x) (before + length (packets_in first)) (Sends q message ∷ last)) (changes before)
      ∙ ap (λ k. changes_reported news ++ seen_by (node_of x) k (Sends q message ∷ last)) count
      ∙ ap (λ r. changes_reported news ++ (sent_seen (frames + 1) q.from (plan_of message) ++ r)) (ends (frames + 1))
      ∙ ap (λ o. changes_reported news ++ (sent_seen (frames + 1) q.from o ++ ends_reported news)) is
      ∙ ap (λ m. changes_reported news ++ (sent_seen (frames + 1) m said ++ ends_reported news)) from
      ∙ ap (λ r. changes_reported news ++ (r ++ ends_reported news)) (said_seen (frames + 1) x said)
      ∙ sym (append_assoc (changes_reported news) (frame_reported (frames + 1) x said) (ends_reported news))
