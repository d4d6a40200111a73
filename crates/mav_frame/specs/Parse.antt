-- The parse of a whole stream into frames and skipped bytes. The Bool says that frames of MAVLink 1 are read too.
use Rattle.std.specs.Prelude.{ℕ, ◌≡◌, ◌≢◌, ◌<◌, ◌≤◌, Bool, false, List, [], ◌∷◌, ◌++◌, length, slice_index, Option}
use Rattle.std.specs.Prelude.{Some, None, IsSome}
use Rattle.x25_check.specs.Extras.{extra_of}
use Rattle.mav_frame.specs.Numbers.{number_at}
use Rattle.mav_frame.specs.Packet.{Packet, FitsFrame}
use Rattle.mav_frame.specs.Encoding.{stx_of, encoding, IsSealed, Encodes}
use Rattle.mav_frame.specs.Looks.{is_old_at, header_size, id_at, check_offset, frame_size_at, checksum_at}
use Rattle.mav_frame.specs.declared.looks.Why.{Why}
use Rattle.mav_frame.specs.declared.looks.Why.TheVariants.{NotStx, UnknownFlag, UnknownId, BadCheck, Short}
use Rattle.mav_frame.specs.declared.events.Event.{Event}
use Rattle.mav_frame.specs.declared.events.Event.TheVariants.{Frame, Skipped}

-- no prefix of the bytes encodes a frame
abbrev pub NoFrame : List (ℕ × ℕ) → Bool → List ℕ → Type 0
NoFrame extras old b = (packet : Packet) (front rest : List ℕ) → FitsFrame packet → Encodes extras old packet front
    → b ≡ front ++ rest → ⊥

-- an incomplete frame of one version: its STX, no unknown flag and a known id as far as the bytes go, and fewer of
-- them than the header fixes
pub record IsIncompleteAs (extras : List (ℕ × ℕ)) (is_old : Bool) (b : List ℕ) : Type 0 where
  pub stx : 0 < length b → slice_index b 0 ≡ stx_of is_old
  pub flag : is_old ≡ false → 3 ≤ length b → slice_index b 2 ≤ 1
  pub known : header_size is_old ≤ length b → IsSome (extra_of (id_at is_old b) extras)
  pub short : header_size is_old ≤ length b → length b < frame_size_at is_old b

-- an incomplete frame of the version whose STX comes first
abbrev pub IsIncomplete : List (ℕ × ℕ) → Bool → List ℕ → Type 0
IsIncomplete extras old b = IsIncompleteAs extras (is_old_at old b) b

-- STX and no unknown flag
pub record StartsFrame (is_old : Bool) (b : List ℕ) : Type 0 where
  pub stx : slice_index b 0 ≡ stx_of is_old
  pub flag : is_old ≡ false → slice_index b 2 ≤ 1

-- a whole frame of a known id, whose checksum differs
pub record IsCorrupt (extras : List (ℕ × ℕ)) (is_old : Bool) (b : List ℕ) : Type 0 where
  pub starts : StartsFrame is_old b
  pub extra : ℕ
  pub long : header_size is_old ≤ length b
  pub known : extra_of (id_at is_old b) extras ≡ Some extra
  pub whole : frame_size_at is_old b ≤ length b
  pub wrong : number_at 2 (check_offset is_old b) b ≢ checksum_at is_old extra b

-- why no frame of one version begins here
abbrev pub SkipReasonAs : List (ℕ × ℕ) → Bool → List ℕ → Why → Type 0
SkipReasonAs extras is_old b NotStx = (0 < length b) × (slice_index b 0 ≢ stx_of is_old)
SkipReasonAs extras is_old b UnknownFlag = (is_old ≡ false) × (slice_index b 0 ≡ 0xFD) × (3 ≤ length b)
    × (1 < slice_index b 2)
SkipReasonAs extras is_old b UnknownId = StartsFrame is_old b × (header_size is_old ≤ length b)
    × (extra_of (id_at is_old b) extras ≡ None)
SkipReasonAs extras is_old b BadCheck = IsCorrupt extras is_old b
SkipReasonAs extras is_old b Short = IsIncompleteAs extras is_old b

-- why no frame begins here
abbrev pub SkipReason : List (ℕ × ℕ) → Bool → List ℕ → Why → Type 0
SkipReason extras old b why = SkipReasonAs extras (is_old_at old b) b why

-- the event at the start of the bytes, and what follows it
abbrev pub EventAt : List (ℕ × ℕ) → Bool → Event → List ℕ → List ℕ → Type 0
EventAt extras old (Frame packet) b rest = FitsFrame packet × IsSealed extras old packet
    × (b ≡ encoding packet ++ rest)
EventAt extras old (Skipped byte why) b rest = (b ≡ byte ∷ rest) × NoFrame extras old b × SkipReason extras old b why

-- the same, with the frame alone: what a skipped byte is, and why, isn't told
abbrev pub FrontAt : List (ℕ × ℕ) → Bool → Option Packet → List ℕ → List ℕ → Type 0
FrontAt extras old None b rest = (byte : ℕ) × (why : Why) × EventAt extras old (Skipped byte why) b rest
FrontAt extras old (Some packet) b rest = EventAt extras old (Frame packet) b rest

-- the final parse: every byte is in an event
abbrev pub Final : List (ℕ × ℕ) → Bool → List Event → List ℕ → Type 0
Final extras old [] b = b ≡ []
Final extras old (event ∷ events) b = (rest : List ℕ) × EventAt extras old event b rest × Final extras old events rest

-- the incremental parse: the events continue until all that is left is an incomplete frame, or nothing
abbrev pub Incremental : List (ℕ × ℕ) → Bool → List Event → List ℕ → List ℕ → Type 0
Incremental extras old [] left b = (left ≡ b) × IsIncomplete extras old b
Incremental extras old (event ∷ events) left b =
    (IsIncomplete extras old b → ⊥) × ((rest : List ℕ) × EventAt extras old event b rest
    × Incremental extras old events left rest)

-- the events are a prefix of the incremental parse of the bytes, and this is left
abbrev pub BeginsIncremental : List (ℕ × ℕ) → Bool → List Event → List ℕ → List ℕ → Type 0
BeginsIncremental extras old [] left b = b ≡ left
BeginsIncremental extras old (event ∷ events) left b =
    (IsIncomplete extras old b → ⊥) × ((rest : List ℕ) × EventAt extras old event b rest
    × BeginsIncremental extras old events left rest)

-- the events are a prefix of the final parse of the bytes, and this is left
abbrev pub BeginsFinal : List (ℕ × ℕ) → Bool → List Event → List ℕ → List ℕ → Type 0
BeginsFinal extras old [] left b = b ≡ left
BeginsFinal extras old (event ∷ events) left b = (rest : List ℕ) × EventAt extras old event b rest
    × BeginsFinal extras old events left rest

-- the bytes of an event
abbrev pub event_bytes : Event → List ℕ
event_bytes (Frame packet) = encoding packet
event_bytes (Skipped byte why) = byte ∷ []
