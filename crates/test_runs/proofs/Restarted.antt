-- The report of a drone that starts again, computed from the definitions: checksums, signatures and all.
use Rattle.std.proofs.Common.{◌≡◌, true, refl}
use Rattle.std.specs.Fmt.{digits}
use Rattle.hex.specs.Hex.{encode_with, decode_pairs}
use Rattle.sha2.specs.Sha256.{first_words, schedule, rounds, compress, hash_after, digest_bytes, sha256}
use Rattle.x25_check.specs.Check as check
use Rattle.plan_items.specs.Validation.{item_fault, whole_fault, plan_fault}
use Rattle.run_status.specs.Endings.{code_of}
use Rattle.run_status.specs.Runs.{output_of, end_of}
use Rattle.test_fleet.proofs.OneItem.{spec}
use Rattle.test_runs.specs.Restarts.{restart_between, restart_between_report}

pub restart_output : output_of spec (end_of (spec.stop true restart_between)) true restart_between ≡ restart_between_report
unfolding digits item_fault whole_fault plan_fault encode_with decode_pairs first_words schedule rounds compress hash_after digest_bytes sha256 check.after_byte
restart_output = refl

pub restart_code : code_of (end_of (spec.stop true restart_between)) ≡ 0
unfolding digits item_fault whole_fault plan_fault encode_with decode_pairs first_words schedule rounds compress hash_after digest_bytes sha256 check.after_byte
restart_code = refl
