-- A stream of garbage, a HEARTBEAT of node 1.1 and the start of a frame, and its text as a person would write it.
use Rattle.std.specs.Prelude.{ℕ, List, [], ◌∷◌, codes}

abbrev pub one_heartbeat : List ℕ
one_heartbeat = 7 ∷ 0xFD ∷ 9 ∷ 0 ∷ 0 ∷ 0 ∷ 1 ∷ 1 ∷ 0 ∷ 0 ∷ 0 ∷ 0 ∷ 0 ∷ 0 ∷ 0 ∷ 2 ∷ 3 ∷ 81 ∷ 4 ∷ 3 ∷ 0xE7 ∷ 0x1E ∷ 0xFD
    ∷ []

abbrev pub one_heartbeat_text : List ℕ
one_heartbeat_text = codes "0 skip 07 not-stx\n1 HEARTBEAT 1.1 #0 type=2 autopilot=3 base_mode=81 custom_mode=0 system_status=4 mavlink_version=3\n22 skip fd short\nframes 1 skipped 2\n"
