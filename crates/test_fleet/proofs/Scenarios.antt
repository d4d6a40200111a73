-- Whole reports that the world's definition gives for small scenarios, checksums and signatures included: a download and a
-- clear, a cancel, and a fence. The reports come from the protocol's tables.
use Rattle.std.proofs.Common.{◌≡◌, ℕ, true, false, List, [], ◌∷◌, codes, refl}
use Rattle.std.specs.Fmt.{digits}
use Rattle.hex.specs.Hex.{encode_with, decode_pairs}
use Rattle.sha2.specs.Sha256.{first_words, schedule, rounds, compress, hash_after, digest_bytes, sha256}
use Rattle.x25_check.specs.Check as check
use Rattle.plan_items.specs.Validation.{item_fault, whole_fault, plan_fault}
use Rattle.plan_items.specs.Words.{word_number, small_word_of}
use Rattle.fleet_world.specs.Scenario.{played, whole_report}
use Rattle.test_fleet.specs.Scenarios.{the_key, text}

-- the report of a drone and a station at these lines
abbrev report : List (List ℕ) → List ℕ
report lines = whole_report false (played the_key true (text (codes "drone 1" ∷ codes "station 255 190" ∷ lines)))

-- a download of an empty plan, and a clear of all plans by a station that is synchronised then
pub a_get_and_a_clear :
    report (codes "get 255.190 1.1 mission" ∷ codes "flow 10" ∷ codes "clear 255.190 1.1 all" ∷ codes "flow 10" ∷ []) ≡
    text (
    codes "1 255.190 PING 1 to 0.0"
    ∷ codes "2 1.1 PING 1 to 255.190"
    ∷ codes "3 255.190 ACK 15 mission to 1.1"
    ∷ codes "4 1.1 ACK 1 mission to 255.190"
    ∷ codes "5 255.190 LIST mission to 1.1"
    ∷ codes "6 1.1 COUNT mission 0 to 255.190"
    ∷ codes "7 255.190 ACK 0 mission to 1.1"
    ∷ codes "outcome 255.190 got 0"
    ∷ codes "8 255.190 CLEAR all to 1.1"
    ∷ codes "clear 1.1 mission"
    ∷ codes "clear 1.1 fence"
    ∷ codes "clear 1.1 rally"
    ∷ codes "9 1.1 ACK 0 all to 255.190"
    ∷ codes "outcome 255.190 cleared"
    ∷ codes "plan 1.1 mission 0"
    ∷ codes "plan 1.1 fence 0"
    ∷ codes "plan 1.1 rally 0"
    ∷ []
    )
unfolding digits item_fault whole_fault plan_fault encode_with decode_pairs first_words schedule rounds compress hash_after digest_bytes sha256 check.after_byte
a_get_and_a_clear = refl

-- a cancel before anything was sent but a PING
pub an_early_cancel :
    report (codes "items 1 6 16 100 200" ∷ codes "begin 255.190 1.1 mission" ∷ codes "cancel 255.190" ∷ codes "deliver 1 1.1" ∷ codes "flow 10" ∷ []) ≡
    text (
    codes "1 255.190 PING 1 to 0.0"
    ∷ codes "2 1.1 PING 1 to 255.190"
    ∷ codes "3 255.190 ACK 15 mission to 1.1"
    ∷ codes "4 1.1 ACK 1 mission to 255.190"
    ∷ codes "outcome 255.190 not installed 15"
    ∷ codes "plan 1.1 mission 0"
    ∷ codes "plan 1.1 fence 0"
    ∷ codes "plan 1.1 rally 0"
    ∷ []
    )
unfolding digits item_fault whole_fault plan_fault encode_with decode_pairs first_words schedule rounds compress hash_after digest_bytes sha256 check.after_byte
an_early_cancel = refl

-- a fence of one polygon
pub a_fence :
    report (codes "items 3 0 5001 0 0 00000000 40400000" ∷ codes "begin 255.190 1.1 fence" ∷ codes "flow 30" ∷ []) ≡
    text (
    codes "1 255.190 PING 1 to 0.0"
    ∷ codes "2 1.1 PING 1 to 255.190"
    ∷ codes "3 255.190 ACK 15 fence to 1.1"
    ∷ codes "4 1.1 ACK 1 fence to 255.190"
    ∷ codes "5 255.190 COUNT fence 3 to 1.1"
    ∷ codes "6 1.1 REQUEST fence 0 to 255.190"
    ∷ codes "7 255.190 ITEM fence 0 to 1.1"
    ∷ codes "8 1.1 REQUEST fence 1 to 255.190"
    ∷ codes "9 255.190 ITEM fence 1 to 1.1"
    ∷ codes "10 1.1 REQUEST fence 2 to 255.190"
    ∷ codes "11 255.190 ITEM fence 2 to 1.1"
    ∷ codes "install 1.1 fence 3 from 255.190"
    ∷ codes "12 1.1 ACK 0 fence to 255.190"
    ∷ codes "outcome 255.190 installed"
    ∷ codes "plan 1.1 mission 0"
    ∷ codes "plan 1.1 fence 3"
    ∷ codes "0 0 5001 0 1 40400000 00000000 00000000 00000000 0 0 00000000"
    ∷ codes "1 0 5001 0 1 40400000 00000000 00000000 00000000 1 0 00000000"
    ∷ codes "2 0 5001 0 1 40400000 00000000 00000000 00000000 2 0 00000000"
    ∷ codes "plan 1.1 rally 0"
    ∷ []
    )
unfolding digits item_fault whole_fault plan_fault word_number small_word_of encode_with decode_pairs first_words schedule rounds compress hash_after digest_bytes sha256 check.after_byte
a_fence = refl
