-- How long a flow over two drones must be, by computation.
use Rattle.std.proofs.Common.{◌≡◌, true, false, codes, refl}
use Rattle.hex.specs.Hex.{decode_pairs}
use Rattle.sha2.specs.Sha256.{first_words, schedule, rounds, compress, hash_after, digest_bytes, sha256}
use Rattle.x25_check.specs.Check as check
use Rattle.plan_items.specs.Validation.{item_fault, whole_fault, plan_fault}
use Rattle.test_fleet.specs.Scenarios.{is_installed_by}

pub ten_do : is_installed_by (codes "flow 10") ≡ true
unfolding item_fault whole_fault plan_fault decode_pairs first_words schedule rounds compress hash_after digest_bytes sha256 check.after_byte
ten_do = refl

pub nine_do : is_installed_by (codes "flow 9") ≡ true
unfolding item_fault whole_fault plan_fault decode_pairs first_words schedule rounds compress hash_after digest_bytes sha256 check.after_byte
nine_do = refl

pub eight_do_not : is_installed_by (codes "flow 8") ≡ false
unfolding item_fault whole_fault plan_fault decode_pairs first_words schedule rounds compress hash_after digest_bytes sha256 check.after_byte
eight_do_not = refl
