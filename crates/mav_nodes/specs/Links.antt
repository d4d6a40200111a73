-- A node's end of its links: what it has received and sent, and what it sends next.
use Rattle.std.specs.Prelude.{ℕ, ◌≡◌, ◌+◌, ◌%◌, nat_lt, if◌then◌else◌, List, [], ◌∷◌, ◌++◌, Option, Some, None}
use Rattle.mav_names.specs.declared.names.Stream.{Stream}
use Rattle.mav_frame.specs.Packet.{Packet}
use Rattle.mav_messages.specs.declared.messages.Message.{Message}
use Rattle.mav_sign.specs.History.{Entry, sent, started, next_in, greatest_stamp}
use Rattle.mav_sign.specs.Kept.{Represents}
use Rattle.mav_sign.specs.Endpoints.{EndpointState, after_frame}
use Rattle.mav_nodes.specs.News.{NodeEvent, Sends}
use Rattle.mav_nodes.specs.LowBounds.{stored_low}
use Rattle.mav_nodes.specs.Signed.{signed_packet}

-- its key, its stream, the CRC_EXTRA bytes of the messages that it knows, the history of the frames that it tried and
-- the timestamps that it sent, and its next sequence number
pub record Link : Type 0 where
  pub key : List ℕ
  pub me : Stream
  pub extras : List (ℕ × ℕ)
  pub history : List Entry
  pub seq : ℕ

-- it has received and sent nothing
abbrev pub new_link : List ℕ → Stream → List (ℕ × ℕ) → Link
new_link key me extras = record { key = key; me = me; extras = extras; history = []; seq = 0 }

-- the history of a verifier that starts with a low bound, or without one
abbrev pub started_with : Option ℕ → List Entry
started_with None = []
started_with (Some low) = started low ∷ []

-- it starts, with a stored low bound or without one
abbrev pub started_link : List ℕ → Stream → List (ℕ × ℕ) → Option ℕ → Link
started_link key me extras low = record (new_link key me extras) { history = started_with low }

-- what contracts see of it: an endpoint, and the low bound that a store has
pub record LinkView : Type 0 where
  pub endpoint : EndpointState
  pub low : Option ℕ

-- an endpoint in this state
pub record IsEnd (link : Link) (endpoint : EndpointState) : Type 0 where
  pub key : endpoint.key ≡ link.key
  pub me : endpoint.me ≡ link.me
  pub extras : endpoint.extras ≡ link.extras
  pub seq : endpoint.seq ≡ link.seq
  pub history : Represents endpoint.stamps link.history

-- a link in this state
pub record IsLink (link : Link) (view : LinkView) : Type 0 where
  pub end : IsEnd link view.endpoint
  pub low : view.low ≡ stored_low link.history

-- the node after a call, and what happened in it
pub record Done (A : Type 0) : Type 0 where
  pub node : A
  pub events : List NodeEvent

-- it is done, or no timestamp was left for a frame to send
abbrev pub Outcome : Type 0 → Type 0
Outcome A = Option (Done A)

abbrev pub done : {A : Type 0} → A → List NodeEvent → Outcome A
done node events = Some (record { node = node; events = events })

-- the same after earlier events
abbrev pub after_events : {A : Type 0} → List NodeEvent → Outcome A → Outcome A
after_events events None = None
after_events events (Some d) = done d.node (events ++ d.events)

-- one thing and then another
abbrev pub and_then : {A B : Type 0} → Outcome A → (A → Outcome B) → Outcome B
and_then None next = None
and_then (Some d) next = after_events d.events (next d.node)

-- a frame was tried
abbrev pub tries : Packet → Link → Link
tries packet link = record link { history = after_frame link.key link.history packet }

-- the link after a frame at that timestamp
abbrev pub sent_at : ℕ → Link → Link
sent_at stamp link = record link { history = link.history ++ sent stamp ∷ []; seq = (link.seq + 1) % 256 }

-- a message is sent: signed, with the next sequence number, at the next timestamp by the clock
abbrev pub sends : ℕ → Message → Link → Outcome Link
sends clock message link =
    let stamp = next_in link.history clock in
    if nat_lt greatest_stamp stamp then None
    else done (sent_at stamp link) (Sends (signed_packet link.key link.extras link.me link.seq stamp message) message
    ∷ [])

-- messages, one after another
abbrev pub sends_all : ℕ → List Message → Link → Outcome Link
sends_all clock [] link = done link []
sends_all clock (message ∷ messages) link = and_then (sends clock message link) (sends_all clock messages)
