-- The texts of small streams, computed from the definitions alone.
use Rattle.std.proofs.Common.{◌≡◌, ℕ, List, [], ◌∷◌, ◌++◌, true, None, codes, refl}
use Rattle.std.specs.Fmt.{digits}
use Rattle.x25_check.specs.Check as check
use Rattle.mav_profile.specs.Profile.{profile_definitions}
use Rattle.run_status.specs.Endings.{code_of}
use Rattle.run_status.specs.Runs.{CommandSpec, output_of, end_of}
use Rattle.decode_command.specs.Spec.{decode_spec}
use Rattle.decode_command.specs.Examples.{one_heartbeat, one_heartbeat_text}

abbrev pub script : CommandSpec
script = decode_spec (record { dialect = profile_definitions; key = None })

pub one_heartbeat_output : output_of script (end_of (script.stop true one_heartbeat)) true one_heartbeat ≡ one_heartbeat_text
unfolding digits check.after_byte
one_heartbeat_output = refl

pub one_heartbeat_code : code_of (end_of (script.stop true one_heartbeat)) ≡ 0
one_heartbeat_code = refl

-- a HEARTBEAT of node 1.1 as a frame of MAVLink 1, as captures have it, without its last byte

abbrev old_heartbeat : List ℕ
old_heartbeat = 0xFE ∷ 9 ∷ 0 ∷ 1 ∷ 1 ∷ 0 ∷ 0 ∷ 0 ∷ 0 ∷ 0 ∷ 2 ∷ 3 ∷ 81 ∷ 4 ∷ 3 ∷ 0x7D ∷ []

pub old_heartbeat_output : output_of script (end_of (script.stop true (old_heartbeat ++ 0xDD ∷ []))) true (old_heartbeat ++ 0xDD ∷ []) ≡ codes
    "0 HEARTBEAT 1.1 #0 v1 type=2 autopilot=3 base_mode=81 custom_mode=0 system_status=4 mavlink_version=3\nframes 1 skipped 0\n"
unfolding digits check.after_byte
old_heartbeat_output = refl

-- with another last byte
pub corrupt_old_heartbeat_output : output_of script (end_of (script.stop true (old_heartbeat ++ 0 ∷ []))) true (old_heartbeat ++ 0 ∷ []) ≡ codes
    "0 skip fe bad-check\n1 skip 09 not-stx\n2 skip 00 not-stx\n3 skip 01 not-stx\n4 skip 01 not-stx\n5 skip 00 not-stx\n6 skip 00 not-stx\n7 skip 00 not-stx\n8 skip 00 not-stx\n9 skip 00 not-stx\n10 skip 02 not-stx\n11 skip 03 not-stx\n12 skip 51 not-stx\n13 skip 04 not-stx\n14 skip 03 not-stx\n15 skip 7d not-stx\n16 skip 00 not-stx\nframes 0 skipped 17\n"
unfolding digits check.after_byte
corrupt_old_heartbeat_output = refl

-- an STX at the end
pub old_stx_output : output_of script (end_of (script.stop true (0xFE ∷ []))) true (0xFE ∷ []) ≡ codes "0 skip fe short\nframes 0 skipped 1\n"
unfolding digits
old_stx_output = refl
