-- What a node sends, read again.
use Rattle.std.specs.Prelude.{false, Bool, ℕ, ◌≡◌, ◌<◌, ◌^◌, List, [], ◌∷◌, All, None}
use Rattle.mav_names.specs.declared.names.Stream.{Stream}
use Rattle.mav_frame.specs.Packet.{Packet, FitsFrame}
use Rattle.mav_frame.specs.Encoding.{encoding, IsSealed}
use Rattle.mav_frame.specs.FinalParse.{final_parse}
use Rattle.mav_frame.specs.declared.events.Event.TheVariants.{Frame}
use Rattle.field_layout.specs.Payload.{serialised, truncated, FitsLayout}
use Rattle.mav_profile.specs.Messages.{extras_of}
use Rattle.mav_profile.specs.Profile.{profile_definitions}
use Rattle.mav_messages.specs.declared.messages.Message.{Message}
use Rattle.mav_messages.specs.Messages.{definition_of, values_of}
use Rattle.mav_messages.specs.Plans.{plan_of}
use Rattle.mav_nodes.specs.Payloads.{ItemFits, ServiceFits, plan_in, service_in, service_of}
use Rattle.mav_sign.specs.Signing.{Verifies}
use Rattle.mav_sign.specs.Kept.{IsStream}
use Rattle.mav_sign.specs.Endpoints.{frames_of}
use Rattle.drone_sim.specs.declared.points.Point.{Point}
use Rattle.drone_sim.specs.Laws.{PointInRange}
use Rattle.mav_nodes.specs.Services.{position_message, reached_message}
use Rattle.mav_nodes.specs.Nodes.{drone_heartbeat, station_heartbeat}
use Rattle.mav_nodes.specs.Signed.{signed_packet}

-- the bytes of a frame parse to exactly that frame
abbrev pub ParsesAlone : Type 0
ParsesAlone =
    (extras : List (ℕ × ℕ)) (packet : Packet) → FitsFrame packet → IsSealed extras false packet
    → final_parse extras false (encoding packet) ≡ Frame packet ∷ []

-- a frame that carries a message verifies under its key
abbrev pub SignedVerifies : Type 0
SignedVerifies =
    (key : List ℕ) (extras : List (ℕ × ℕ)) (me : Stream) (seq stamp : ℕ) (message : Message)
    → Verifies key (signed_packet key extras me seq stamp message)
    (signed_packet key extras me seq stamp message).block

-- the truncated payload of a message carries its plan message, or none if it is no message of the mission protocol
abbrev pub PlanReadsBack : Type 0
PlanReadsBack =
    (message : Message) → FitsLayout (definition_of message) (values_of message) → ItemFits (plan_of message)
    → All (λ byte. byte < 256) (truncated (serialised (definition_of message) (values_of message)))
    → plan_in (definition_of message).id (truncated (serialised (definition_of message) (values_of message)))
    ≡ plan_of message

-- and it carries its message of another service, or none
abbrev pub ServiceReadsBack : Type 0
ServiceReadsBack =
    (message : Message) → FitsLayout (definition_of message) (values_of message) → ServiceFits message
    → All (λ byte. byte < 256) (truncated (serialised (definition_of message) (values_of message)))
    → service_in (definition_of message).id (truncated (serialised (definition_of message) (values_of message)))
    ≡ service_of message

-- a frame fits, its checksum is right, and its bytes parse to exactly it
pub record ReadsAlone (extras : List (ℕ × ℕ)) (packet : Packet) : Type 0 where
  pub fits : FitsFrame packet
  pub sealed : IsSealed extras false packet
  pub parses : final_parse extras false (encoding packet) ≡ Frame packet ∷ []

-- the frame in which a node sends a message
abbrev pub sent_packet : List ℕ → Stream → ℕ → ℕ → Message → Packet
sent_packet key me seq stamp message = signed_packet key (extras_of profile_definitions) me seq stamp message

-- it reads back as it was sent, verifies under the key, and carries the plan message of the message, or none, and that
-- of another service, or none
pub record ReadsBack (key : List ℕ) (me : Stream) (seq stamp : ℕ) (message : Message) : Type 0 where
  pub frame : ReadsAlone (extras_of profile_definitions) (sent_packet key me seq stamp message)
  pub verifies : Verifies key (sent_packet key me seq stamp message) (sent_packet key me seq stamp message).block
  pub plan : plan_in (sent_packet key me seq stamp message).id (sent_packet key me seq stamp message).payload
      ≡ plan_of message
  pub service : service_in (sent_packet key me seq stamp message).id (sent_packet key me seq stamp message).payload
      ≡ service_of message

-- a message whose values fit its layout
pub record FitsMessage (message : Message) : Type 0 where
  pub values : FitsLayout (definition_of message) (values_of message)
  pub item : ItemFits (plan_of message)
  pub service : ServiceFits message

-- what every node sends reads back
abbrev pub EverySendingReadsBack : Type 0
EverySendingReadsBack =
    (key : List ℕ) (me : Stream) (seq stamp : ℕ) (message : Message)
    → IsStream me → seq < 256 → stamp < 2 ^ 48 → FitsMessage message → ReadsBack key me seq stamp message

-- each frame that a parse of bytes finds
abbrev pub EveryFrameReadsAlone : Type 0
EveryFrameReadsAlone =
    (extras : List (ℕ × ℕ)) (bytes : List ℕ) → All (λ byte. byte < 256) bytes
    → All (ReadsAlone extras) (frames_of (final_parse extras false bytes))

-- frames with the same bytes are the same
abbrev pub SameBytesSameFrame : Type 0
SameBytesSameFrame =
    (extras : List (ℕ × ℕ)) (one other : Packet) → ReadsAlone extras one → ReadsAlone extras other
    → encoding one ≡ encoding other → one ≡ other

-- the HEARTBEATs of nodes fit, and are no plan messages
pub record HeartbeatsFit : Type 0 where
  pub drone : (armed : Bool) → FitsMessage (drone_heartbeat armed)
  pub drone_plan : (armed : Bool) → plan_of (drone_heartbeat armed) ≡ None
  pub station : FitsMessage station_heartbeat
  pub station_plan : plan_of station_heartbeat ≡ None

-- what a drone sends at a tick of its simulator fits, and is no plan message, and no message for a service
pub record FlightsFit : Type 0 where
  pub position : (time : ℕ) (position : Point) → time < 2 ^ 32 → PointInRange position
      → FitsMessage (position_message time position)
  pub position_plan : (time : ℕ) (position : Point) → plan_of (position_message time position) ≡ None
  pub position_service : (time : ℕ) (position : Point) → service_of (position_message time position) ≡ None
  pub reached : (number : ℕ) → number < 65536 → FitsMessage (reached_message number)
  pub reached_plan : (number : ℕ) → plan_of (reached_message number) ≡ None
  pub reached_service : (number : ℕ) → service_of (reached_message number) ≡ None
