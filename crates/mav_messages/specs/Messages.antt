-- What a message represents: its definition, and its values.
use Rattle.std.specs.Prelude.{ℕ, ◌==◌, List, find, Option}
use Rattle.field_layout.specs.Definition.{Definition}
use Rattle.mav_profile.specs.Profile.{profile_definitions, heartbeat_definition, ping_definition}
use Rattle.mav_profile.specs.Profile.{param_request_read_definition, param_request_list_definition}
use Rattle.mav_profile.specs.Profile.{param_value_definition, param_set_definition, global_position_int_definition}
use Rattle.mav_profile.specs.Profile.{mission_current_definition, mission_request_list_definition}
use Rattle.mav_profile.specs.Profile.{mission_count_definition, mission_clear_all_definition}
use Rattle.mav_profile.specs.Profile.{mission_item_reached_definition, mission_ack_definition}
use Rattle.mav_profile.specs.Profile.{mission_request_int_definition, mission_item_int_definition}
use Rattle.mav_profile.specs.Profile.{command_long_definition, command_ack_definition}
use Rattle.mav_profile.specs.Profile.{file_transfer_protocol_definition, statustext_definition}
use Rattle.mav_messages.specs.declared.messages.Message.{Message}
use Rattle.mav_messages.specs.declared.messages.Message.TheVariants.{Heartbeat, Ping, ParamRequestRead}
use Rattle.mav_messages.specs.declared.messages.Message.TheVariants.{ParamRequestList, ParamValue, ParamSet}
use Rattle.mav_messages.specs.declared.messages.Message.TheVariants.{GlobalPositionInt, MissionCurrent}
use Rattle.mav_messages.specs.declared.messages.Message.TheVariants.{MissionRequestList, MissionCount, MissionClearAll}
use Rattle.mav_messages.specs.declared.messages.Message.TheVariants.{MissionItemReached, MissionAck, MissionRequestInt}
use Rattle.mav_messages.specs.declared.messages.Message.TheVariants.{MissionItemInt, CommandLong, CommandAck}
use Rattle.mav_messages.specs.declared.messages.Message.TheVariants.{FileTransferProtocol, Statustext}
use Rattle.mav_messages.specs.Values.{heartbeat_values, ping_values, param_request_read_values}
use Rattle.mav_messages.specs.Values.{param_request_list_values, param_value_values, param_set_values}
use Rattle.mav_messages.specs.Values.{global_position_int_values, mission_current_values, mission_request_list_values}
use Rattle.mav_messages.specs.Values.{mission_count_values, mission_clear_all_values, mission_item_reached_values}
use Rattle.mav_messages.specs.Values.{mission_ack_values, mission_request_int_values, mission_item_int_values}
use Rattle.mav_messages.specs.Values.{command_long_values, command_ack_values, file_transfer_protocol_values}
use Rattle.mav_messages.specs.Values.{statustext_values}

-- the definition of that id, if the profile has one
abbrev pub profile_definition : ℕ → Option Definition
profile_definition id = find (λ (def : Definition). def.id == id) profile_definitions

abbrev pub definition_of : Message → Definition
definition_of (Heartbeat m) = heartbeat_definition
definition_of (Ping m) = ping_definition
definition_of (ParamRequestRead m) = param_request_read_definition
definition_of (ParamRequestList m) = param_request_list_definition
definition_of (ParamValue m) = param_value_definition
definition_of (ParamSet m) = param_set_definition
definition_of (GlobalPositionInt m) = global_position_int_definition
definition_of (MissionCurrent m) = mission_current_definition
definition_of (MissionRequestList m) = mission_request_list_definition
definition_of (MissionCount m) = mission_count_definition
definition_of (MissionClearAll m) = mission_clear_all_definition
definition_of (MissionItemReached m) = mission_item_reached_definition
definition_of (MissionAck m) = mission_ack_definition
definition_of (MissionRequestInt m) = mission_request_int_definition
definition_of (MissionItemInt m) = mission_item_int_definition
definition_of (CommandLong m) = command_long_definition
definition_of (CommandAck m) = command_ack_definition
definition_of (FileTransferProtocol m) = file_transfer_protocol_definition
definition_of (Statustext m) = statustext_definition

-- the raw words of each field, in definition order with the extensions last
abbrev pub values_of : Message → List (List ℕ)
values_of (Heartbeat m) = heartbeat_values m
values_of (Ping m) = ping_values m
values_of (ParamRequestRead m) = param_request_read_values m
values_of (ParamRequestList m) = param_request_list_values m
values_of (ParamValue m) = param_value_values m
values_of (ParamSet m) = param_set_values m
values_of (GlobalPositionInt m) = global_position_int_values m
values_of (MissionCurrent m) = mission_current_values m
values_of (MissionRequestList m) = mission_request_list_values m
values_of (MissionCount m) = mission_count_values m
values_of (MissionClearAll m) = mission_clear_all_values m
values_of (MissionItemReached m) = mission_item_reached_values m
values_of (MissionAck m) = mission_ack_values m
values_of (MissionRequestInt m) = mission_request_int_values m
values_of (MissionItemInt m) = mission_item_int_values m
values_of (CommandLong m) = command_long_values m
values_of (CommandAck m) = command_ack_values m
values_of (FileTransferProtocol m) = file_transfer_protocol_values m
values_of (Statustext m) = statustext_values m
