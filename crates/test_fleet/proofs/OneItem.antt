-- The upload of one item, computed from the definitions alone: checksums, signatures and all.
use Rattle.std.proofs.Common.{◌≡◌, true, false, [], ◌∷◌, refl}
use Rattle.std.specs.Fmt.{digits}
use Rattle.hex.specs.Hex.{encode_with, decode_pairs}
use Rattle.sha2.specs.Sha256.{first_words, schedule, rounds, compress, hash_after, digest_bytes, sha256}
use Rattle.x25_check.specs.Check as check
use Rattle.plan_items.specs.Validation.{item_fault, whole_fault, plan_fault}
use Rattle.run_status.specs.Endings.{code_of}
use Rattle.run_status.specs.Runs.{CommandSpec, output_of, end_of}
use Rattle.fleet_world.specs.WorldState.{stream_of}
use Rattle.fleet_world.specs.Authentic.{Authentic}
use Rattle.fleet_safety.specs.Actions.{Accepts_upload, actions_of}
use Rattle.fleet_safety.specs.Safe.{orders_of}
use Rattle.fleet_command.specs.Spec.{fleet_spec}
use Rattle.fleet_theorem.specs.Theorem.{MainTheorem}
use Rattle.test_fleet.specs.OneItem.{one_item, one_item_installed, the_key, the_drone, the_station, the_plan, IsInstalledOnce}

abbrev pub spec : CommandSpec
spec = fleet_spec the_key false

pub one_item_output : output_of spec (end_of (spec.stop true one_item)) true one_item ≡ one_item_installed
unfolding digits item_fault whole_fault plan_fault encode_with decode_pairs first_words schedule rounds compress hash_after digest_bytes sha256 check.after_byte
one_item_output = refl

pub one_item_code : code_of (end_of (spec.stop true one_item)) ≡ 0
unfolding digits item_fault whole_fault plan_fault encode_with decode_pairs first_words schedule rounds compress hash_after digest_bytes sha256 check.after_byte
one_item_code = refl

-- no line is noise
pub one_item_authentic : Authentic the_key true one_item
unfolding item_fault whole_fault plan_fault decode_pairs
one_item_authentic = record { lines = (tt, (tt, (tt, (tt, (tt, tt))))); last = tt }

-- the one order that a station accepts in it: the upload of the item that was drafted
pub one_item_orders : orders_of (actions_of the_key true one_item) ≡ Accepts_upload (stream_of the_station) (stream_of the_drone) 0 the_plan ∷ []
unfolding item_fault whole_fault plan_fault decode_pairs first_words schedule rounds compress hash_after digest_bytes sha256 check.after_byte
one_item_orders = refl

-- what the theorem says of it: the eighth event of the report is the installation, the tenth its outcome
pub installed_once : MainTheorem the_key true one_item → IsInstalledOnce
unfolding item_fault whole_fault plan_fault decode_pairs first_words schedule rounds compress hash_after digest_bytes sha256 check.after_byte
installed_once theorem = record {
  safe = theorem.safe;
  installed = theorem.lines.installs 7 the_drone 0 the_plan the_station refl;
  reported = theorem.lines.outcomes 9 the_station _ refl;
}
