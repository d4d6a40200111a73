-- The values of each message: the raw words of its fields, in definition order with the extensions last.
use Rattle.std.specs.Prelude.{ℕ, ℤ, List, [], ◌∷◌}
use Rattle.std.specs.Int.{w16, w32, cast_unsigned}
use Rattle.mav_messages.specs.declared.nodes.Heartbeat.{Heartbeat}
use Rattle.mav_messages.specs.declared.nodes.Ping.{Ping}
use Rattle.mav_messages.specs.declared.params.ParamRequestRead.{ParamRequestRead}
use Rattle.mav_messages.specs.declared.params.ParamRequestList.{ParamRequestList}
use Rattle.mav_messages.specs.declared.params.ParamValue.{ParamValue}
use Rattle.mav_messages.specs.declared.params.ParamSet.{ParamSet}
use Rattle.mav_messages.specs.declared.nodes.GlobalPositionInt.{GlobalPositionInt}
use Rattle.mav_messages.specs.declared.missions.MissionCurrent.{MissionCurrent}
use Rattle.mav_messages.specs.declared.missions.MissionRequestList.{MissionRequestList}
use Rattle.mav_messages.specs.declared.missions.MissionCount.{MissionCount}
use Rattle.mav_messages.specs.declared.missions.MissionClearAll.{MissionClearAll}
use Rattle.mav_messages.specs.declared.missions.MissionItemReached.{MissionItemReached}
use Rattle.mav_messages.specs.declared.missions.MissionAck.{MissionAck}
use Rattle.mav_messages.specs.declared.missions.MissionRequestInt.{MissionRequestInt}
use Rattle.mav_messages.specs.declared.mission_items.MissionItemInt.{MissionItemInt}
use Rattle.mav_messages.specs.declared.commands.CommandLong.{CommandLong}
use Rattle.mav_messages.specs.declared.commands.CommandAck.{CommandAck}
use Rattle.mav_messages.specs.declared.files.FileTransferProtocol.{FileTransferProtocol}
use Rattle.mav_messages.specs.declared.nodes.Statustext.{Statustext}

-- the words of a single value
abbrev pub one : ℕ → List ℕ
one word = word ∷ []

-- a signed number is the word of its bits
abbrev pub word16 : ℤ → List ℕ
word16 number = one (cast_unsigned w16 number)

abbrev pub word32 : ℤ → List ℕ
word32 number = one (cast_unsigned w32 number)

abbrev pub heartbeat_values : Heartbeat → List (List ℕ)
heartbeat_values m = one m.ty ∷ one m.autopilot ∷ one m.base_mode ∷ one m.custom_mode ∷ one m.system_status
    ∷ one m.mavlink_version ∷ []

abbrev pub ping_values : Ping → List (List ℕ)
ping_values m = one m.time_usec ∷ one m.seq ∷ one m.target_system ∷ one m.target_component ∷ []

abbrev pub param_request_read_values : ParamRequestRead → List (List ℕ)
param_request_read_values m = one m.target_system ∷ one m.target_component ∷ m.param_id ∷ word16 m.param_index ∷ []

abbrev pub param_request_list_values : ParamRequestList → List (List ℕ)
param_request_list_values m = one m.target_system ∷ one m.target_component ∷ []

abbrev pub param_value_values : ParamValue → List (List ℕ)
param_value_values m = m.param_id ∷ one m.param_value ∷ one m.param_type ∷ one m.param_count ∷ one m.param_index ∷ []

abbrev pub param_set_values : ParamSet → List (List ℕ)
param_set_values m = one m.target_system ∷ one m.target_component ∷ m.param_id ∷ one m.param_value ∷ one m.param_type
    ∷ []

abbrev pub global_position_int_values : GlobalPositionInt → List (List ℕ)
global_position_int_values m = one m.time_boot_ms ∷ word32 m.lat ∷ word32 m.lon ∷ word32 m.alt ∷ word32 m.relative_alt
    ∷ word16 m.vx ∷ word16 m.vy ∷ word16 m.vz ∷ one m.hdg ∷ []

abbrev pub mission_current_values : MissionCurrent → List (List ℕ)
mission_current_values m = one m.seq ∷ []

abbrev pub mission_request_list_values : MissionRequestList → List (List ℕ)
mission_request_list_values m = one m.target_system ∷ one m.target_component ∷ one m.mission_type ∷ []

abbrev pub mission_count_values : MissionCount → List (List ℕ)
mission_count_values m = one m.target_system ∷ one m.target_component ∷ one m.count ∷ one m.mission_type ∷ []

abbrev pub mission_clear_all_values : MissionClearAll → List (List ℕ)
mission_clear_all_values m = one m.target_system ∷ one m.target_component ∷ one m.mission_type ∷ []

abbrev pub mission_item_reached_values : MissionItemReached → List (List ℕ)
mission_item_reached_values m = one m.seq ∷ []

abbrev pub mission_ack_values : MissionAck → List (List ℕ)
mission_ack_values m = one m.target_system ∷ one m.target_component ∷ one m.ty ∷ one m.mission_type ∷ []

abbrev pub mission_request_int_values : MissionRequestInt → List (List ℕ)
mission_request_int_values m = one m.target_system ∷ one m.target_component ∷ one m.seq ∷ one m.mission_type ∷ []

abbrev pub mission_item_int_values : MissionItemInt → List (List ℕ)
mission_item_int_values m = one m.target_system ∷ one m.target_component ∷ one m.seq ∷ one m.frame ∷ one m.command
    ∷ one m.current ∷ one m.autocontinue ∷ one m.param1 ∷ one m.param2 ∷ one m.param3 ∷ one m.param4 ∷ word32 m.x
    ∷ word32 m.y ∷ one m.z ∷ one m.mission_type ∷ []

abbrev pub command_long_values : CommandLong → List (List ℕ)
command_long_values m = one m.target_system ∷ one m.target_component ∷ one m.command ∷ one m.confirmation
    ∷ one m.param1 ∷ one m.param2 ∷ one m.param3 ∷ one m.param4 ∷ one m.param5 ∷ one m.param6 ∷ one m.param7 ∷ []

abbrev pub command_ack_values : CommandAck → List (List ℕ)
command_ack_values m = one m.command ∷ one m.result ∷ one m.progress ∷ word32 m.result_param2 ∷ one m.target_system
    ∷ one m.target_component ∷ []

abbrev pub file_transfer_protocol_values : FileTransferProtocol → List (List ℕ)
file_transfer_protocol_values m = one m.target_network ∷ one m.target_system ∷ one m.target_component ∷ m.payload ∷ []

abbrev pub statustext_values : Statustext → List (List ℕ)
statustext_values m = one m.severity ∷ m.text ∷ one m.id ∷ one m.chunk_seq ∷ []
