-- A command and a list of parameters: their reports, and what they are in the world of messages, computed as in Scenarios.
use Rattle.std.proofs.Common.{◌≡◌, ℕ, true, false, List, [], ◌∷◌, length, codes, refl}
use Rattle.std.specs.Fmt.{digits}
use Rattle.hex.specs.Hex.{encode_with, decode_pairs}
use Rattle.sha2.specs.Sha256.{first_words, schedule, rounds, compress, hash_after, digest_bytes, sha256}
use Rattle.x25_check.specs.Check as check
use Rattle.mav_names.specs.declared.names.Stream.{Stream}
use Rattle.plan_items.specs.Validation.{item_fault, whole_fault, plan_fault}
use Rattle.plan_safety.specs.World.{Event, Speaks, Drone_waits, Station_waits, Station_ticks, Hands_out}
use Rattle.fleet_world.specs.Scenario.{played, whole_report}
use Rattle.fleet_safety.specs.Actions.{actions_of}
use Rattle.fleet_safety.specs.Safe.{events_of}
use Rattle.test_fleet.specs.Scenarios.{the_key, text}

-- a drone and a station, at these lines
abbrev scenario : List (List ℕ) → List ℕ
scenario lines = text (codes "drone 1" ∷ codes "station 255 190" ∷ lines)

abbrev report : List (List ℕ) → List ℕ
report lines = whole_report false (played the_key true (scenario lines))

abbrev events : List (List ℕ) → List Event
events lines = events_of (actions_of the_key true (scenario lines))

abbrev drone : Stream
drone = record { sys = 1; comp = 1; link = 0 }

abbrev station : Stream
station = record { sys = 255; comp = 190; link = 0 }

-- MAV_CMD_COMPONENT_ARM_DISARM is accepted, and so is MAV_CMD_NAV_RETURN_TO_LAUNCH of an armed drone; no command is given
-- while one is open
pub two_commands :
    report (codes "command 255.190 1.1 400 3f800000" ∷ codes "flow 2" ∷ codes "command 255.190 1.1 20 00000000" ∷ codes "flow 2" ∷ codes "command 255.190 1.1 20 00000000" ∷ codes "command 255.190 1.1 20 00000000" ∷ []) ≡
    text (
    codes "1 255.190 COMMAND_LONG to 1.1"
    ∷ codes "2 1.1 COMMAND_ACK to 255.190"
    ∷ codes "command 255.190 result 0"
    ∷ codes "3 255.190 COMMAND_LONG to 1.1"
    ∷ codes "4 1.1 COMMAND_ACK to 255.190"
    ∷ codes "command 255.190 result 0"
    ∷ codes "5 255.190 COMMAND_LONG to 1.1"
    ∷ codes "refused 255.190 command busy"
    ∷ codes "plan 1.1 mission 0"
    ∷ codes "plan 1.1 fence 0"
    ∷ codes "plan 1.1 rally 0"
    ∷ []
    )
unfolding digits item_fault whole_fault plan_fault encode_with decode_pairs first_words schedule rounds compress hash_after digest_bytes sha256 check.after_byte
two_commands = refl

-- in the world of messages each of their frames is a message of another service, and what the nodes hear is nothing
pub a_command_is :
    events (codes "command 255.190 1.1 400 3f800000" ∷ codes "flow 2" ∷ []) ≡
    Station_waits station 1 ∷ Speaks station ∷ Drone_waits drone 1 ∷ Speaks drone ∷ []
unfolding item_fault whole_fault plan_fault decode_pairs first_words schedule rounds compress hash_after digest_bytes sha256 check.after_byte
a_command_is = refl

-- a tick of a station is one of its core, and then its services give the command again
pub a_tick_is :
    events (codes "command 255.190 1.1 400 3f800000" ∷ codes "tick 255.190" ∷ []) ≡
    Station_waits station 1 ∷ Speaks station
    ∷ Station_waits station 2 ∷ Station_ticks station ∷ Hands_out station ∷ Station_waits station 2 ∷ Speaks station
    ∷ []
unfolding item_fault whole_fault plan_fault decode_pairs first_words schedule rounds compress hash_after digest_bytes sha256 check.after_byte
a_tick_is = refl

-- a list is answered with a value for each of the 40 parameters
pub a_list_is_long : length (played the_key true (scenario (codes "params 255.190 1.1" ∷ codes "flow 1" ∷ []))).state.sent ≡ 41
unfolding item_fault whole_fault plan_fault decode_pairs first_words schedule rounds compress hash_after digest_bytes sha256 check.after_byte
a_list_is_long = refl
