-- What a verifier keeps of its history.
use Rattle.std.specs.Prelude.{ℕ, ◌≡◌, ◌+◌, ◌-◌, ◌*◌, ◌<◌, ◌==◌, nat_eq, nat_lt, not, max, is_some, if◌then◌else◌, Bool}
use Rattle.std.specs.Prelude.{false, List, [], ◌∷◌, ◌++◌, length, Option, Some, None}
use Rattle.std.specs.List.{count_by}
use Rattle.std.specs.Map.{lookup}
use Rattle.mav_names.specs.declared.names.Stream.{Stream}
use Rattle.mav_frame.specs.Packet.{Packet, SignatureBlock}
use Rattle.mav_sign.specs.declared.admission.Admit.{Admit}
use Rattle.mav_sign.specs.declared.admission.Admit.TheVariants.{Admitted}
use Rattle.mav_sign.specs.History.{Entry, tried, stream_of, one_minute, stream_limit, answer_to, is_admitted}
use Rattle.mav_sign.specs.History.{block_answer, answer_after, unless_below, low_of, last_of, streams_of, accepted_in}
use Rattle.mav_sign.specs.History.{previous_in, sent_in, greatest}

-- the persisted timestamp low bound that it was started with, the pairs of a stream's number and its last admitted
-- timestamp, the greatest timestamp admitted, and the previous one sent
pub record Kept : Type 0 where
  pub low : Option ℕ
  pub last : List (ℕ × ℕ)
  pub accepted : ℕ
  pub previous : ℕ

-- the timestamp that is paired with a number
abbrev pub stamp_at : ℕ → List (ℕ × ℕ) → Option ℕ
stamp_at number pairs = lookup (nat_eq number) pairs

-- the number of a stream: its three bytes
abbrev pub stream_number : Stream → ℕ
stream_number stream = stream.sys * 65536 + stream.comp * 256 + stream.link

-- a stream of three bytes
pub record IsStream (stream : Stream) : Type 0 where
  pub sys : stream.sys < 256
  pub comp : stream.comp < 256
  pub link : stream.link < 256

-- this is kept of that history
pub record Represents (kept : Kept) (history : List Entry) : Type 0 where
  pub last : (stream : Stream) → IsStream stream → stamp_at (stream_number stream) kept.last ≡ last_of stream history
  pub streams : length kept.last ≡ length (streams_of history)
  pub accepted : kept.accepted ≡ accepted_in history
  pub previous : kept.previous ≡ previous_in history
  pub sent : kept.previous ≡ greatest (sent_in history)
  pub low : kept.low ≡ low_of history

-- the greatest timestamp admitted or sent
abbrev pub local_kept : Kept → ℕ
local_kept kept = max kept.accepted kept.previous

-- the verdict by what is kept
abbrev pub kept_answer : Kept → Stream → ℕ → Admit
kept_answer kept stream stamp =
    unless_below kept.low stamp (answer_after (stamp_at (stream_number stream) kept.last) (length kept.last)
    (local_kept kept) stamp)

-- the verdict on a frame by what is kept
abbrev pub kept_answer_to : List ℕ → Kept → Packet → Admit
kept_answer_to key kept packet = block_answer key (kept_answer kept) packet packet.block

-- the verdict on a frame by what is kept, and so by each history that it represents
pub record IsVerdict (key : List ℕ) (kept : Kept) (packet : Packet) (answer : Admit) : Type 0 where
  pub by_kept : answer ≡ kept_answer_to key kept packet
  pub by_history : (history : List Entry) → Represents kept history → answer ≡ answer_to key history packet

-- an admitted timestamp is the last of its stream
pub record Admits (stream : Stream) (stamp : ℕ) (old new : Kept) : Type 0 where
  pub last : (number : ℕ) → stamp_at number new.last
      ≡ (if stream_number stream == number then Some stamp else stamp_at number old.last)
  pub streams : length new.last ≡ (if is_some (stamp_at (stream_number stream) old.last) then length old.last
      else length old.last + 1)
  pub accepted : new.accepted ≡ max old.accepted stamp
  pub previous : new.previous ≡ old.previous
  pub low : new.low ≡ old.low

-- and nothing else changes anything
abbrev pub KeptAfter : Admit → Stream → ℕ → Kept → Kept → Type 0
KeptAfter Admitted stream stamp old new = Admits stream stamp old new
KeptAfter _ stream stamp old new = new ≡ old

-- what is kept after the verdict on a frame, by its signature block
abbrev pub KeptByBlock : Option SignatureBlock → Packet → Admit → (old new : Kept) → Type 0
KeptByBlock None packet answer old new = new ≡ old
KeptByBlock (Some block) packet answer old new = KeptAfter answer (stream_of packet block) block.stamp old new

-- a frame was tried with that verdict
pub record HasTried (key : List ℕ) (old new : Kept) (packet : Packet) (answer : Admit) : Type 0 where
  pub verdict : IsVerdict key old packet answer
  pub unchanged : is_admitted answer ≡ false → new ≡ old
  pub kept : KeptByBlock packet.block packet answer old new
  pub history : (history : List Entry) → Represents old history → Represents new (history ++ tried packet answer ∷ [])

-- the next timestamp by what is kept
abbrev pub kept_next : Kept → ℕ → ℕ
kept_next kept clock = max (kept.previous + 1) (max clock kept.accepted)

-- a timestamp is more than a minute before the greatest one admitted
abbrev pub is_past : ℕ → ℕ → Bool
is_past accepted stamp = nat_lt stamp (accepted - one_minute)

-- a last timestamp of which this isn't so, and how many there are
abbrev pub present : ℕ → Option ℕ → Option ℕ
present accepted None = None
present accepted (Some stamp) = if is_past accepted stamp then None else Some stamp

abbrev pub count_present : ℕ → List (ℕ × ℕ) → ℕ
count_present accepted pairs = count_by (λ (pair : ℕ × ℕ). not (is_past accepted pair.1)) pairs

-- the streams are forgotten whose last timestamp is past
pub record Forgets (accepted : ℕ) (old new : List (ℕ × ℕ)) : Type 0 where
  pub last : (number : ℕ) → stamp_at number new ≡ present accepted (stamp_at number old)
  pub streams : length new ≡ count_present accepted old

-- they are once as many streams are kept as may be
pub record HasRoom (old new : Kept) : Type 0 where
  pub last : (number : ℕ) → stamp_at number new.last
      ≡ (if nat_lt (length old.last) stream_limit then stamp_at number old.last
      else present old.accepted (stamp_at number old.last))
  pub streams : length new.last ≡ (if nat_lt (length old.last) stream_limit then length old.last
      else count_present old.accepted old.last)
  pub accepted : new.accepted ≡ old.accepted
  pub previous : new.previous ≡ old.previous
  pub low : new.low ≡ old.low
