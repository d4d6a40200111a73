-- What is known of a frame that a node has just sent.
use Rattle.std.proofs.Common.{◌≡◌, ◌∙◌, ℕ, List, [], ◌∷◌, ◌++◌, length, slice_get, Option, Some, sym, ap}
use Rattle.plan_items.specs.declared.messages.PlanMsg.{PlanMsg}
use Rattle.mav_profile.specs.Messages.{extras_of}
use Rattle.mav_profile.specs.Profile.{profile_definitions}
use Rattle.mav_names.specs.declared.names.Stream.{Stream}
use Rattle.mav_frame.specs.Packet.{Packet, SignatureBlock}
use Rattle.mav_messages.specs.declared.messages.Message.{Message}
use Rattle.mav_messages.specs.Plans.{plan_of}
use Rattle.mav_sign.specs.Signing.{signature_of}
use Rattle.mav_nodes.specs.News.{NodeEvent, Sends}
use Rattle.mav_nodes.specs.Payloads.{plan_in}
use Rattle.mav_nodes.specs.Signed.{signed_packet}
use Rattle.fleet_world.specs.WorldState.{WorldState}
use Rattle.fleet_invariants.specs.Sound.{Sound}
use Rattle.fleet_invariants.specs.Kept.{AllRead}
use Rattle.fleet_invariants.proofs.Lists.{some_is, last_there}
use Rattle.fleet_invariants.proofs.Heard.{heard_is}
use Rattle.fleet_liveness.proofs.Hearing.{Carries}

-- what is reported of a frame among other events
pub reads_at : (first last : List NodeEvent) (packet : Packet) (message : Message) → AllRead (first ++ Sends packet message ∷ last) → plan_in packet.id packet.payload ≡ plan_of message
reads_at [] last packet message h = h.0
reads_at (e ∷ first) last packet message h = reads_at first last packet message h.1

-- the frame carries its message in the state that has it as its last one
pub carries_last : (s : WorldState) (sent : List Packet) (key : List ℕ) (me : Stream) (seq stamp : ℕ) (message : Message) (m : PlanMsg) (packet : Packet) → Sound s → s.sent ≡ sent ++ packet ∷ []
    → packet ≡ signed_packet key (extras_of profile_definitions) me seq stamp message → plan_in packet.id packet.payload ≡ plan_of message → plan_of message ≡ Some m → Carries s.key packet stamp m
carries_last s sent key me seq stamp message m packet g is made reads carries =
    let there : slice_get s.sent (length sent) ≡ Some packet = ap (λ ps. slice_get ps (length sent)) is ∙ last_there sent packet in
    let heard = heard_is s g packet (g.sent (length sent) packet there) in
    let t = (g.sent (length sent) packet there).stamp in
    let own : Option SignatureBlock = (signed_packet key (extras_of profile_definitions) me seq stamp message).block in
    let same : Some (block t) ≡ own = sym heard.block ∙ ap (λ (p : Packet). p.block) made in
    let stamps : t ≡ stamp = ap (λ (b : SignatureBlock). b.stamp) (some_is same) in
    record {
      frames = heard.frames;
      block = heard.block ∙ ap (λ n. Some (block n)) stamps;
      plan = reads ∙ carries;
    }
  where
    block : ℕ → SignatureBlock
    block n = record { link = 0; stamp = n; sig = signature_of s.key packet 0 n }
