-- What the commands write of a small capture and of its log, computed from the definitions alone.
use Rattle.std.proofs.Common.{◌≡◌, ℕ, List, [], ◌∷◌, ◌++◌, true, None, codes, take, refl}
use Rattle.std.specs.Fmt.{digits}
use Rattle.x25_check.specs.Check as check
use Rattle.mav_profile.specs.Profile.{profile_definitions}
use Rattle.run_status.specs.Runs.{output_of}
use Rattle.mav_log.specs.Spec.{show_spec, filter_spec, make_spec}

-- a HEARTBEAT and a MISSION_CURRENT of node 1.1
abbrev heartbeat : List ℕ
heartbeat = 0xFD ∷ 9 ∷ 0 ∷ 0 ∷ 0 ∷ 1 ∷ 1 ∷ 0 ∷ 0 ∷ 0 ∷ 0 ∷ 0 ∷ 0 ∷ 0 ∷ 2 ∷ 3 ∷ 81 ∷ 4 ∷ 3 ∷ 0xE7 ∷ 0x1E ∷ []

abbrev current : List ℕ
current = 0xFD ∷ 1 ∷ 0 ∷ 0 ∷ 1 ∷ 1 ∷ 1 ∷ 0x2A ∷ 0 ∷ 0 ∷ 0 ∷ 0x2F ∷ 0x49 ∷ []

-- as rows at 1,000,000 and 1,001,000 microseconds
abbrev log : List ℕ
log = (0 ∷ 0 ∷ 0 ∷ 0 ∷ 0 ∷ 0x0F ∷ 0x42 ∷ 0x40 ∷ heartbeat) ++ (0 ∷ 0 ∷ 0 ∷ 0 ∷ 0 ∷ 0x0F ∷ 0x46 ∷ 0x28 ∷ current)

pub log_made : output_of (make_spec profile_definitions 1000000) None true (0 ∷ heartbeat ++ current) ≡ log
unfolding digits check.after_byte
log_made = refl

pub log_shown : output_of (show_spec profile_definitions) None true log ≡ codes
    "0 1000000 HEARTBEAT 1.1 #0 type=2 autopilot=3 base_mode=81 custom_mode=0 system_status=4 mavlink_version=3\n29 1001000 MISSION_CURRENT 1.1 #1 seq=0\nrows 2 skipped 0\n"
unfolding digits check.after_byte
log_shown = refl

-- no row is of system 2, and all are of system 1
pub log_filtered : output_of (filter_spec profile_definitions 2) None true log ≡ []
unfolding digits check.after_byte
log_filtered = refl

pub log_kept : output_of (filter_spec profile_definitions 1) None true log ≡ log
unfolding digits check.after_byte
log_kept = refl

-- without the last byte: the last 8 bytes are too few for a time and a frame's first byte
pub short_log_shown : output_of (show_spec profile_definitions) None true (take 49 log) ≡ codes
    "0 1000000 HEARTBEAT 1.1 #0 type=2 autopilot=3 base_mode=81 custom_mode=0 system_status=4 mavlink_version=3\n29 skip 00 short\n30 skip 00 not-stx\n31 skip 00 not-stx\n32 skip 00 not-stx\n33 skip 00 not-stx\n34 skip 0f not-stx\n35 skip 46 not-stx\n36 skip 28 not-stx\n37 skip fd not-stx\n38 skip 01 not-stx\n39 skip 00 not-stx\n40 skip 00 not-stx\n41 skip 01 short\n42 skip 01 short\n43 skip 01 short\n44 skip 2a short\n45 skip 00 short\n46 skip 00 short\n47 skip 00 short\n48 skip 2f short\nrows 1 skipped 20\n"
unfolding digits check.after_byte
short_log_shown = refl
