-- The upload of one item can be played, computed from the definitions alone.
use Rattle.std.proofs.Common.{◌≡◌, true, None, refl}
use Rattle.std.specs.Fmt.{digits}
use Rattle.hex.specs.Hex.{encode_with, decode_pairs}
use Rattle.sha2.specs.Sha256.{first_words, schedule, rounds, compress, hash_after, digest_bytes, sha256}
use Rattle.x25_check.specs.Check as check
use Rattle.plan_items.specs.Validation.{item_fault, whole_fault, plan_fault}
use Rattle.fleet_world.specs.Scenario.{played}
use Rattle.fleet_theorem.specs.Completeness.{IsPlayable}
use Rattle.test_fleet.specs.OneItem.{one_item, the_key}
use Rattle.fleet_theorem.proofs.Completeness.{playable}

one_item_goes : (played the_key true one_item).stop ≡ None
unfolding digits item_fault whole_fault plan_fault encode_with decode_pairs first_words schedule rounds compress hash_after digest_bytes sha256 check.after_byte
one_item_goes = refl

pub one_item_playable : IsPlayable the_key one_item
one_item_playable = playable the_key one_item one_item_goes
