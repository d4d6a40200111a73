-- Whole reports of scenarios in which a drone starts again, computed as those of Scenarios.
use Rattle.std.proofs.Common.{◌≡◌, ℕ, true, false, List, [], ◌∷◌, codes, refl}
use Rattle.std.specs.Fmt.{digits}
use Rattle.hex.specs.Hex.{encode_with, decode_pairs}
use Rattle.sha2.specs.Sha256.{first_words, schedule, rounds, compress, hash_after, digest_bytes, sha256}
use Rattle.x25_check.specs.Check as check
use Rattle.plan_items.specs.Validation.{item_fault, whole_fault, plan_fault}
use Rattle.fleet_world.specs.Scenario.{played, whole_report}
use Rattle.test_fleet.specs.Scenarios.{the_key, text}

abbrev report : List (List ℕ) → List ℕ
report lines = whole_report false (played the_key true (text (codes "drone 1" ∷ codes "station 255 190" ∷ codes "item 6 16 473977420 85455940" ∷ codes "begin 255.190 1.1 mission" ∷ lines)))

-- after the acknowledgement: the plan survives, and the item isn't taken again
pub after_the_acknowledgement :
    report (codes "flow 8" ∷ codes "restart 1.1" ∷ codes "deliver 7 1.1" ∷ []) ≡
    text (
    codes "1 255.190 PING 1 to 0.0"
    ∷ codes "2 1.1 PING 1 to 255.190"
    ∷ codes "3 255.190 ACK 15 mission to 1.1"
    ∷ codes "4 1.1 ACK 1 mission to 255.190"
    ∷ codes "5 255.190 COUNT mission 1 to 1.1"
    ∷ codes "6 1.1 REQUEST mission 0 to 255.190"
    ∷ codes "7 255.190 ITEM mission 0 to 1.1"
    ∷ codes "install 1.1 mission 1 from 255.190"
    ∷ codes "8 1.1 ACK 0 mission to 255.190"
    ∷ codes "outcome 255.190 installed"
    ∷ codes "restart 1.1"
    ∷ codes "9 1.1 HEARTBEAT"
    ∷ codes "drop 1.1 6"
    ∷ codes "plan 1.1 mission 1"
    ∷ codes "0 6 16 0 1 00000000 00000000 00000000 00000000 473977420 85455940 00000000"
    ∷ codes "plan 1.1 fence 0"
    ∷ codes "plan 1.1 rally 0"
    ∷ []
    )
unfolding digits item_fault whole_fault plan_fault encode_with decode_pairs first_words schedule rounds compress hash_after digest_bytes sha256 check.after_byte
after_the_acknowledgement = refl
