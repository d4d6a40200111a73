-- What a verifier has tried and sent, and what follows from it (MAVLink guide, Message Signing: Timestamp Handling,
-- Accepting Signed Packets).
use Rattle.std.specs.Prelude.{ℕ, ◌+◌, ◌==◌, ◌&&◌, nat_lt, max, Bool, true, false, if◌then◌else◌, List, [], ◌∷◌, ◌++◌}
use Rattle.std.specs.Prelude.{length, map, filter, fold, Option, Some, None, option_map, Result, Ok, Err}
use Rattle.std.specs.List.{filter_map, list_any}
use Rattle.std.specs.Str.{bytes_eq}
use Rattle.mav_names.specs.declared.names.Stream.{Stream}
use Rattle.mav_frame.specs.Packet.{Packet, SignatureBlock}
use Rattle.mav_sign.specs.Signing.{signature_of}
use Rattle.mav_sign.specs.declared.admission.StampsSpent.{StampsSpent}
use Rattle.mav_sign.specs.declared.admission.Admit.{Admit}
use Rattle.mav_sign.specs.declared.admission.Admit.TheVariants.{Admitted, Unsigned, BadSignature, BelowFloor, NotLater}
use Rattle.mav_sign.specs.declared.admission.Admit.TheVariants.{TooOld, TooManyStreams}

-- a frame that was tried, with its verdict; a timestamp that was given to a frame sent; or the persisted timestamp low
-- bound that the verifier was started with. A history is the list of its entries, the earliest first, and begins with
-- its low bound if there is one
pub data Entry : Type 0 where
  tried : Packet → Admit → Entry
  sent : ℕ → Entry
  started : ℕ → Entry

-- a timestamp of a stream
pub record Stamped : Type 0 where
  pub stream : Stream
  pub stamp : ℕ

abbrev pub stream_of : Packet → SignatureBlock → Stream
stream_of packet block = record { sys = packet.from.sys; comp = packet.from.comp; link = block.link }

abbrev pub stamped : Packet → SignatureBlock → Stamped
stamped packet block = record { stream = stream_of packet block; stamp = block.stamp }

-- what an entry admitted, and what it sent
abbrev pub admitted_by : Entry → Option Stamped
admitted_by (tried packet Admitted) = option_map (stamped packet) packet.block
admitted_by (tried packet _) = None
admitted_by (sent stamp) = None
admitted_by (started low) = None

-- what was sent before a start counts as at most the low bound
abbrev pub sent_by : Entry → Option ℕ
sent_by (tried packet answer) = None
sent_by (sent stamp) = Some stamp
sent_by (started low) = Some low

abbrev pub started_by : Entry → Option ℕ
started_by (tried packet answer) = None
started_by (sent stamp) = None
started_by (started low) = Some low

abbrev pub admitted_in : List Entry → List Stamped
admitted_in history = filter_map admitted_by history

abbrev pub sent_in : List Entry → List ℕ
sent_in history = filter_map sent_by history

abbrev pub same_stream : Stream → Stream → Bool
same_stream a b = (a.sys == b.sys) && (a.comp == b.comp) && (a.link == b.link)

-- the greatest of some numbers, 0 if there is none
abbrev pub greatest : List ℕ → ℕ
greatest numbers = fold max 0 numbers

-- the same, None if there is none
abbrev pub greatest_of : List ℕ → Option ℕ
greatest_of [] = None
greatest_of (number ∷ numbers) = Some (greatest (number ∷ numbers))

-- the persisted timestamp low bound, if the verifier was started with one
abbrev pub low_of : List Entry → Option ℕ
low_of history = greatest_of (filter_map started_by history)

-- the last of some numbers, 0 if there is none
abbrev pub latest : List ℕ → ℕ
latest numbers = fold (λ _ number. number) 0 numbers

-- the timestamps of a stream
abbrev pub stamps_of : Stream → List Stamped → List ℕ
stamps_of stream admitted =
    map (λ (s : Stamped). s.stamp) (filter (λ (s : Stamped). same_stream stream s.stream) admitted)

-- the greatest timestamp admitted of a stream
abbrev pub last_of : Stream → List Entry → Option ℕ
last_of stream history = greatest_of (stamps_of stream (admitted_in history))

-- the greatest timestamp admitted
abbrev pub accepted_in : List Entry → ℕ
accepted_in history = greatest (map (λ (s : Stamped). s.stamp) (admitted_in history))

-- the greatest timestamp admitted or sent, and the low bound
abbrev pub local_of : List Entry → ℕ
local_of history = max (accepted_in history) (greatest (sent_in history))

-- one more stream, once
abbrev pub with_stream : List Stream → Stream → List Stream
with_stream streams stream = if list_any (same_stream stream) streams then streams else streams ++ stream ∷ []

-- the streams with an admitted frame, each once
abbrev pub streams_of : List Entry → List Stream
streams_of history = fold with_stream [] (map (λ (s : Stamped). s.stream) (admitted_in history))

-- a minute in units of 10 microseconds: a frame may be older by so much
abbrev pub one_minute : ℕ
one_minute = 6000000

-- the most streams that a verifier keeps
abbrev pub stream_limit : ℕ
stream_limit = 256

-- TooOld: more than a minute older than the greatest timestamp admitted or sent
abbrev pub unless_old : ℕ → ℕ → Admit → Admit
unless_old local stamp answer = if nat_lt (stamp + one_minute) local then TooOld local else answer

-- BelowFloor: not greater than the low bound
abbrev pub unless_below : Option ℕ → ℕ → Admit → Admit
unless_below None stamp answer = answer
unless_below (Some low) stamp answer = if nat_lt low stamp then answer else BelowFloor low

-- the verdict on a right signature, by the last timestamp of its stream, the number of streams and the local timestamp
abbrev pub answer_after : Option ℕ → ℕ → ℕ → ℕ → Admit
answer_after (Some last) streams local stamp = if nat_lt last stamp then unless_old local stamp Admitted
    else NotLater last
answer_after None streams local stamp =
    unless_old local stamp (if nat_lt streams stream_limit then Admitted else TooManyStreams)

abbrev pub stamp_answer : Stream → ℕ → List Entry → Admit
stamp_answer stream stamp history =
    unless_below (low_of history) stamp (answer_after (last_of stream history) (length (streams_of history))
    (local_of history) stamp)

-- the verdict by the frame's signature block, in which a right signature is judged by its stream and timestamp
abbrev pub block_answer : List ℕ → (Stream → ℕ → Admit) → Packet → Option SignatureBlock → Admit
block_answer key answer packet None = Unsigned
block_answer key answer packet (Some block) =
    if bytes_eq block.sig (signature_of key packet block.link block.stamp)
    then answer (stream_of packet block) block.stamp
    else BadSignature

-- the verdict on a frame after a history: the first that applies
abbrev pub answer_to : List ℕ → List Entry → Packet → Admit
answer_to key history packet =
    block_answer key (λ stream stamp. stamp_answer stream stamp history) packet packet.block

abbrev pub is_admitted : Admit → Bool
is_admitted Admitted = true
is_admitted _ = false

-- the previous timestamp sent, at the start the low bound
abbrev pub previous_in : List Entry → ℕ
previous_in history = latest (sent_in history)

-- the next timestamp: above the previous one, and not below the clock and each one admitted
abbrev pub next_in : List Entry → ℕ → ℕ
next_in history clock = max (previous_in history + 1) (max clock (accepted_in history))

-- the greatest number of 6 bytes
abbrev pub greatest_stamp : ℕ
greatest_stamp = 281474976710655

-- the result for a next timestamp
abbrev pub stamp_given : ℕ → Result ℕ StampsSpent
stamp_given next = if nat_lt greatest_stamp next then Err (record {}) else Ok next
