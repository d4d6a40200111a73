-- Frames signed by an outside program, and verdicts on timestamps, computed from the definitions alone.
use Rattle.std.proofs.Common.{◌≡◌, ℕ, List, [], ◌∷◌, ◌++◌, map, take, false, refl}
use Rattle.std.specs.Prelude.{Some, None, Ok, Err}
use Rattle.std.specs.List.{range_with_len}
use Rattle.sha2.specs.Sha256.{first_words, schedule, rounds, compress, hash_after, digest_bytes, sha256}
use Rattle.mav_names.specs.declared.names.Stream.{Stream}
use Rattle.mav_frame.specs.Looks.{packet_at}
use Rattle.mav_sign.specs.History.{Entry, started, tried, sent, stamp_answer, last_of, local_of, next_in, stamp_given, block_answer}
use Rattle.std.specs.declared.result.Result.{Result}
use Rattle.mav_sign.specs.declared.admission.StampsSpent.{StampsSpent}
use Rattle.mav_sign.specs.declared.admission.Admit.{Admit}
use Rattle.mav_sign.specs.declared.admission.Admit.TheVariants.{Admitted, Unsigned, BadSignature, BelowFloor, NotLater, TooOld, TooManyStreams}
use Rattle.test_wire.proofs.Frames.{node, signed_heartbeat_bytes}

-- the key of the bytes 0 to 31
abbrev key : List ℕ
key = range_with_len 0 32

-- ---- frames signed by Python's hashlib under that key: HEARTBEAT of 1.1 with link 0 and timestamp 1, and
-- MISSION_CURRENT of 1.1 with link 7 and timestamp 0x010203040506

abbrev signed_current_bytes : List ℕ
signed_current_bytes =
    0xFD ∷ 0x01 ∷ 0x01 ∷ 0x00 ∷ 0x01 ∷ 0x01 ∷ 0x01 ∷ 0x2A ∷ 0x00 ∷ 0x00 ∷ 0x03 ∷ 0x60 ∷ 0x4F ∷ 0x07 ∷ 0x06 ∷
    0x05 ∷ 0x04 ∷ 0x03 ∷ 0x02 ∷ 0x01 ∷ 0x6A ∷ 0xD0 ∷ 0x49 ∷ 0xC9 ∷ 0x1B ∷ 0x44 ∷ []

-- the same HEARTBEAT with another last bit, and an unsigned MISSION_CURRENT
abbrev wrong_bytes : List ℕ
wrong_bytes = take 33 signed_heartbeat_bytes ++ 0xBA ∷ []

abbrev unsigned_bytes : List ℕ
unsigned_bytes = 0xFD ∷ 0x01 ∷ 0x00 ∷ 0x00 ∷ 0x03 ∷ 0x01 ∷ 0x01 ∷ 0x2A ∷ 0x00 ∷ 0x00 ∷ 0x04 ∷ 0x20 ∷ 0x25 ∷ []

-- the verdict on a frame, if a right signature is admitted
abbrev answer_by_signature : List ℕ → Admit
answer_by_signature bytes = block_answer key (λ stream stamp. Admitted) (packet_at false bytes) (packet_at false bytes).block

pub signatures :
    map answer_by_signature (signed_heartbeat_bytes ∷ signed_current_bytes ∷ wrong_bytes ∷ unsigned_bytes ∷ []) ≡
    Admitted ∷ Admitted ∷ BadSignature ∷ Unsigned ∷ []
unfolding first_words schedule rounds compress hash_after digest_bytes sha256
signatures = refl

-- ---- histories of timestamps

abbrev stream : ℕ → Stream
stream sys = record { sys = sys; comp = 1; link = 0 }

-- a frame of a stream that was admitted
abbrev admitted : ℕ → ℕ → Entry
admitted sys stamp =
    tried (record { old = false; compat = 0; seq = 0; from = node sys 1; id = 42; payload = 7 ∷ []; check = 0; block = Some record { link = 0; stamp = stamp; sig = [] } }) Admitted

-- timestamps rise in each stream
abbrev one_admitted : List Entry
one_admitted = admitted 1 10000000 ∷ []

pub first_answer : stamp_answer (stream 1) 10000000 [] ≡ Admitted
first_answer = refl

pub rising : map (λ stamp. stamp_answer (stream 1) stamp one_admitted) (10000000 ∷ 9999999 ∷ 10000001 ∷ []) ≡
    NotLater 10000000 ∷ NotLater 10000000 ∷ Admitted ∷ []
rising = refl

pub last_stamps : map (λ sys. last_of (stream sys) one_admitted) (1 ∷ 2 ∷ []) ≡ Some 10000000 ∷ None ∷ []
last_stamps = refl

-- a new stream may be a minute late
pub a_minute_behind : map (λ stamp. stamp_answer (stream 2) stamp one_admitted) (4000000 ∷ 3999999 ∷ []) ≡ Admitted ∷ TooOld 10000000 ∷ []
a_minute_behind = refl

-- so may a later frame of a known stream, and no more than a minute
abbrev long_ago : List Entry
long_ago = admitted 2 5 ∷ one_admitted

pub a_known_stream_behind : map (λ stamp. stamp_answer (stream 2) stamp long_ago) (5 ∷ 3999999 ∷ 4000000 ∷ []) ≡ NotLater 5 ∷ TooOld 10000000 ∷ Admitted ∷ []
a_known_stream_behind = refl

abbrev next_after : List Entry → Result ℕ StampsSpent
next_after history = stamp_given (next_in history 0)

pub next_stamps : map next_after (one_admitted ∷ (one_admitted ++ sent 10000000 ∷ []) ∷ []) ≡ Ok 10000000 ∷ Ok 10000001 ∷ []
next_stamps = refl

-- the last timestamp is given once
abbrev last_admitted : List Entry
last_admitted = admitted 1 0xFFFFFFFFFFFF ∷ []

abbrev last_sent : List Entry
last_sent = last_admitted ++ sent 0xFFFFFFFFFFFF ∷ []

pub last_given : map next_after (last_admitted ∷ last_sent ∷ []) ≡ Ok 0xFFFFFFFFFFFF ∷ Err (record {}) ∷ []
last_given = refl

pub local_stays : local_of last_sent ≡ 0xFFFFFFFFFFFF
local_stays = refl

-- at most 256 streams are kept
abbrev many_streams : ℕ → List Entry
many_streams count = map (λ sys. admitted sys 1000) (range_with_len 0 count)

abbrev one_more : Stream
one_more = record { sys = 0; comp = 1; link = 1 }

pub streams_kept : map (λ count. stamp_answer one_more 1000 (many_streams count)) (255 ∷ 256 ∷ []) ≡ Admitted ∷ TooManyStreams ∷ []
streams_kept = refl

-- ---- a verifier that was started with a persisted timestamp low bound

abbrev restarted : List Entry
restarted = started 10000000 ∷ []

-- nothing at or below the bound is admitted, and a minute below it is BelowFloor, too
pub above_the_bound : map (λ stamp. stamp_answer (stream 1) stamp restarted) (3999999 ∷ 10000000 ∷ 10000001 ∷ []) ≡
    BelowFloor 10000000 ∷ BelowFloor 10000000 ∷ Admitted ∷ []
above_the_bound = refl

-- the bound counts as sent
pub after_the_bound : next_after restarted ≡ Ok 10000001
after_the_bound = refl

pub local_is_the_bound : local_of restarted ≡ 10000000
local_is_the_bound = refl

-- the bound is tested before the last timestamp of the stream and before the local one
abbrev restarted_and_admitted : List Entry
restarted_and_admitted = started 1000 ∷ admitted 1 10000000 ∷ []

pub bound_before_last : map (λ stamp. stamp_answer (stream 1) stamp restarted_and_admitted) (1000 ∷ 1001 ∷ 10000001 ∷ []) ≡
    BelowFloor 1000 ∷ NotLater 10000000 ∷ Admitted ∷ []
bound_before_last = refl

pub bound_before_local : map (λ stamp. stamp_answer (stream 2) stamp restarted_and_admitted) (1000 ∷ 1001 ∷ 4000000 ∷ []) ≡
    BelowFloor 1000 ∷ TooOld 10000000 ∷ Admitted ∷ []
bound_before_local = refl

-- and after the signature: HEARTBEAT has timestamp 1
abbrev answer_after_start : List ℕ → Admit
answer_after_start bytes = block_answer key (λ stream stamp. stamp_answer stream stamp (started 1 ∷ [])) (packet_at false bytes) (packet_at false bytes).block

pub signature_before_bound :
    map answer_after_start (signed_heartbeat_bytes ∷ signed_current_bytes ∷ wrong_bytes ∷ unsigned_bytes ∷ []) ≡
    BelowFloor 1 ∷ Admitted ∷ BadSignature ∷ Unsigned ∷ []
unfolding first_words schedule rounds compress hash_after digest_bytes sha256
signature_before_bound = refl
