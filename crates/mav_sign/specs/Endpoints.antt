-- One end of signed links: what it receives and sends.
use Rattle.std.specs.Prelude.{ℕ, ◌≡◌, ◌+◌, ◌%◌, ◌<◌, ◌≤◌, false, List, [], ◌∷◌, ◌++◌, fold, drop, All, Option, Some}
use Rattle.std.specs.Prelude.{None, Ok, Err, IsSome, IfSome, IfOk, OnOk, OnErr}
use Rattle.std.specs.declared.result.Result.{Result}
use Rattle.std.specs.List.{filter_map}
use Rattle.x25_check.specs.Extras.{extra_of}
use Rattle.field_layout.specs.Definition.{Definition}
use Rattle.field_layout.specs.CrcExtra.{crc_extra_of}
use Rattle.field_layout.specs.Payload.{serialised, truncated, Represents as PayloadRepresents}
use Rattle.mav_profile.specs.Profile.{profile_definitions}
use Rattle.mav_names.specs.declared.names.Stream.{Stream}
use Rattle.mav_messages.specs.declared.messages.Message.{Message}
use Rattle.mav_messages.specs.Messages.{definition_of, values_of, profile_definition}
use Rattle.mav_frame.specs.Packet.{Packet, SignatureBlock}
use Rattle.mav_frame.specs.Encoding.{IsSealed}
use Rattle.mav_frame.specs.Parse.{EventAt, Final, BeginsFinal}
use Rattle.mav_frame.specs.declared.events.Event.{Event}
use Rattle.mav_frame.specs.declared.events.Event.TheVariants.{Frame as FrameEvent, Skipped as SkippedEvent}
use Rattle.mav_sign.specs.declared.admission.Admit.{Admit}
use Rattle.mav_sign.specs.declared.admission.Admit.TheVariants.{Admitted}
use Rattle.mav_sign.specs.declared.heard.Heard.{Heard}
use Rattle.mav_sign.specs.declared.heard.Heard.TheVariants.{Message as HeardMessage, Other, Dropped}
use Rattle.mav_sign.specs.Signing.{Verifies}
use Rattle.mav_sign.specs.declared.admission.StampsSpent.{StampsSpent}
use Rattle.mav_sign.specs.History.{Entry, tried, sent, stream_of, answer_to, next_in, greatest_stamp}
use Rattle.mav_sign.specs.Kept.{Kept, Represents, kept_answer_to, kept_next}

-- the table has the CRC_EXTRA of each message of the profile
abbrev pub HasProfile : List (ℕ × ℕ) → Type 0
HasProfile extras = All (λ (def : Definition). extra_of def.id extras ≡ Some (crc_extra_of def)) profile_definitions

-- its key, its own stream, the CRC_EXTRA table, what its verifier keeps, the next sequence number, and the bytes of an
-- incoming stream that are in no frame yet
pub record EndpointState : Type 0 where
  pub key : List ℕ
  pub me : Stream
  pub extras : List (ℕ × ℕ)
  pub stamps : Kept
  pub seq : ℕ
  pub held : List ℕ

abbrev pub new_endpoint : List ℕ → Stream → List (ℕ × ℕ) → Kept → EndpointState
new_endpoint key me extras stamps = record { key = key; me = me; extras = extras; stamps = stamps; seq = 0; held = [] }

-- what is reported of an admitted frame of a stream: the message that its payload represents, or its id if the profile
-- has no such message
abbrev pub AdmittedIs : Stream → Packet → Heard → Type 0
AdmittedIs stream packet (HeardMessage from message) =
    (from ≡ stream) × (profile_definition packet.id ≡ Some (definition_of message))
    × PayloadRepresents (definition_of message) packet.payload (values_of message)
AdmittedIs stream packet (Other from id) = (from ≡ stream) × (id ≡ packet.id) × (profile_definition packet.id ≡ None)
AdmittedIs stream packet (Dropped answer) = ⊥

-- what is reported by the verdict
abbrev pub AnswerIs : Admit → Packet → Option SignatureBlock → Heard → Type 0
AnswerIs Admitted packet None heard = ⊥
AnswerIs Admitted packet (Some block) heard = AdmittedIs (stream_of packet block) packet heard
AnswerIs answer packet block heard = heard ≡ Dropped answer

-- what is reported of a frame after a history
abbrev pub HeardIs : List ℕ → List Entry → Packet → Heard → Type 0
HeardIs key history packet heard = AnswerIs (answer_to key history packet) packet packet.block heard

-- the history with a frame tried
abbrev pub after_frame : List ℕ → List Entry → Packet → List Entry
after_frame key history packet = history ++ tried packet (answer_to key history packet) ∷ []

-- an endpoint tries a frame: by what its verifier keeps, and by each history that this represents
pub record Admits (old new : EndpointState) (packet : Packet) (answer : Admit) : Type 0 where
  pub kept : answer ≡ kept_answer_to old.key old.stamps packet
  pub answer_is : (history : List Entry) → Represents old.stamps history → answer ≡ answer_to old.key history packet
  pub history : (history : List Entry) → Represents old.stamps history
      → Represents new.stamps (after_frame old.key history packet)
  pub same : new ≡ record old { stamps = new.stamps }

-- the same, with what is reported of it
pub record Takes (old new : EndpointState) (packet : Packet) (reported : Heard) : Type 0 where
  pub kept : AnswerIs (kept_answer_to old.key old.stamps packet) packet packet.block reported
  pub heard : (history : List Entry) → Represents old.stamps history → HeardIs old.key history packet reported
  pub history : (history : List Entry) → Represents old.stamps history
      → Represents new.stamps (after_frame old.key history packet)
  pub same : new ≡ record old { stamps = new.stamps }

-- what is reported of frames, one after another
abbrev pub HeardAll : List ℕ → List Entry → List Packet → List Heard → Type 0
HeardAll key history [] [] = Unit {0}
HeardAll key history [] (heard ∷ rest) = ⊥
HeardAll key history (packet ∷ packets) [] = ⊥
HeardAll key history (packet ∷ packets) (heard ∷ rest) =
    HeardIs key history packet heard × HeardAll key (after_frame key history packet) packets rest

-- the history with frames tried
abbrev pub after_frames : List ℕ → List Entry → List Packet → List Entry
after_frames key history packets = fold (after_frame key) history packets

-- the frames among the events of a parse
abbrev pub frame_in : Event → Option Packet
frame_in (FrameEvent packet) = Some packet
frame_in (SkippedEvent byte why) = None

abbrev pub frames_of : List Event → List Packet
frames_of events = filter_map frame_in events

-- frames were tried after a history: what is reported of them is appended, and what is kept represents the history
-- with them
pub record Told (key : List ℕ) (history : List Entry) (packets : List Packet) (before after : List Heard)
    (stamps : Kept) : Type 0 where
  pub heard : List Heard
  pub each : HeardAll key history packets heard
  pub appended : after ≡ before ++ heard
  pub represents : Represents stamps (after_frames key history packets)

-- what is at the start of some bytes was received
pub record FrontHeard (extras : List (ℕ × ℕ)) (key : List ℕ) (history : List Entry) (bytes : List ℕ) (size : ℕ)
    (before after : List Heard) (stamps : Kept) : Type 0 where
  pub event : Event
  pub stands : EventAt extras false event bytes (drop size bytes)
  pub told : Told key history (frames_of (event ∷ [])) before after stamps

-- the bytes from an index on are left
pub record HeardTo (extras : List (ℕ × ℕ)) (key : List ℕ) (history : List Entry) (bytes : List ℕ) (place : ℕ)
    (before after : List Heard) (stamps : Kept) : Type 0 where
  pub events : List Event
  pub begun : BeginsFinal extras false events (drop place bytes) bytes
  pub told : Told key history (frames_of events) before after stamps

-- a whole datagram was received: the frames of its final parse, in order
pub record Received (extras : List (ℕ × ℕ)) (key : List ℕ) (history : List Entry) (datagram : List ℕ)
    (before after : List Heard) (stamps : Kept) : Type 0 where
  pub events : List Event
  pub parse : Final extras false events datagram
  pub told : Told key history (frames_of events) before after stamps

-- the frame at the start of some bytes, if there is one, was appended
pub record FrontFrames (extras : List (ℕ × ℕ)) (bytes : List ℕ) (size : ℕ) (before after : List Packet) : Type 0 where
  pub event : Event
  pub stands : EventAt extras false event bytes (drop size bytes)
  pub appended : after ≡ before ++ frames_of (event ∷ [])

-- the bytes from an index on are left
pub record FramesTo (extras : List (ℕ × ℕ)) (bytes : List ℕ) (index : ℕ) (before after : List Packet) : Type 0 where
  pub events : List Event
  pub begun : BeginsFinal extras false events (drop index bytes) bytes
  pub appended : after ≡ before ++ frames_of events

-- the frames of the final parse of a datagram were appended, in order
pub record FramesOf (extras : List (ℕ × ℕ)) (datagram : List ℕ) (before after : List Packet) : Type 0 where
  pub events : List Event
  pub parse : Final extras false events datagram
  pub appended : after ≡ before ++ frames_of events

-- a frame that carries a message from a stream, at a timestamp
pub record FrameOf (me : Stream) (extras : List (ℕ × ℕ)) (seq stamp : ℕ) (message : Message)
    (packet : Packet) : Type 0 where
  pub version : packet.old ≡ false
  pub compat : packet.compat ≡ 0
  pub seq_is : packet.seq ≡ seq
  pub from : packet.from ≡ (record { sys = me.sys; comp = me.comp })
  pub id : packet.id ≡ (definition_of message).id
  pub payload : packet.payload ≡ truncated (serialised (definition_of message) (values_of message))
  pub represents : PayloadRepresents (definition_of message) packet.payload (values_of message)
  pub sealed : IsSealed extras false packet
  pub signed : IsSome packet.block

-- the same, signed
pub record SentFrame (key : List ℕ) (me : Stream) (extras : List (ℕ × ℕ)) (seq stamp : ℕ) (message : Message)
    (packet : Packet) : Type 0 where
  pub carries : FrameOf me extras seq stamp message packet
  pub block : IfSome packet.block (λ block. (block.link ≡ me.link) × (block.stamp ≡ stamp))
  pub verifies : Verifies key packet packet.block

-- the result of a call that writes a frame, with the frame
abbrev pub with_frame : {A Fault : Type 0} → Packet → Result A Fault → Result Packet Fault
with_frame packet (Ok done) = Ok packet
with_frame packet (Err fault) = Err fault

-- an endpoint makes the frame that carries a message, by what its verifier keeps and by each history that this
-- represents; or no timestamp is left, and nothing has changed
pub record Sends (old new : EndpointState) (clock : ℕ) (message : Message)
    (result : Result Packet StampsSpent) : Type 0 where
  pub frame : IfOk result (SentFrame old.key old.me old.extras old.seq (kept_next old.stamps clock) message)
  pub left : OnOk result (kept_next old.stamps clock ≤ greatest_stamp)
  pub spent : OnErr result (greatest_stamp < kept_next old.stamps clock)
  pub unchanged : OnErr result (new ≡ old)
  pub stamp : (history : List Entry) → Represents old.stamps history
      → kept_next old.stamps clock ≡ next_in history clock
  pub history : OnOk result ((history : List Entry) → Represents old.stamps history
      → Represents new.stamps (history ++ sent (next_in history clock) ∷ []))
  pub same : OnOk result (new ≡ record old { stamps = new.stamps; seq = (old.seq + 1) % 256 })
