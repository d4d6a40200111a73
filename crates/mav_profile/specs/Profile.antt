-- The messages of the profile (MAVLink common message set): ids, names and fields in definition order.
-- The extension fields are those that this profile reads.
use Rattle.std.specs.Prelude.{ℕ, List, [], ◌∷◌, codes}
use Rattle.field_layout.specs.declared.ty.Ty.{Ty}
use Rattle.field_layout.specs.declared.ty.Ty.TheVariants.{U8, U16, U32, U64, I16, I32, F32, Char, Version}
use Rattle.field_layout.specs.declared.fields.Field.{Field}
use Rattle.field_layout.specs.Definition.{Definition}

-- one value, and an array
abbrev pub single : Ty → List ℕ → Field
single ty name = record { ty = ty; len = 0; name = name }

abbrev pub array : Ty → ℕ → List ℕ → Field
array ty len name = record { ty = ty; len = len; name = name }

abbrev pub target_system_field : Field
target_system_field = single U8 (codes "target_system")

abbrev pub target_component_field : Field
target_component_field = single U8 (codes "target_component")

abbrev pub mission_type_field : Field
mission_type_field = single U8 (codes "mission_type")

abbrev pub heartbeat_definition : Definition
heartbeat_definition = record {
  id = 0;
  name = codes "HEARTBEAT";
  fields = single U8 (codes "type") ∷ single U8 (codes "autopilot") ∷ single U8 (codes "base_mode")
      ∷ single U32 (codes "custom_mode") ∷ single U8 (codes "system_status") ∷ single Version (codes "mavlink_version")
      ∷ [];
  extensions = [];
}

abbrev pub ping_definition : Definition
ping_definition = record {
  id = 4;
  name = codes "PING";
  fields = single U64 (codes "time_usec") ∷ single U32 (codes "seq") ∷ target_system_field ∷ target_component_field
      ∷ [];
  extensions = [];
}

abbrev pub param_request_read_definition : Definition
param_request_read_definition = record {
  id = 20;
  name = codes "PARAM_REQUEST_READ";
  fields = target_system_field ∷ target_component_field ∷ array Char 16 (codes "param_id")
      ∷ single I16 (codes "param_index") ∷ [];
  extensions = [];
}

abbrev pub param_request_list_definition : Definition
param_request_list_definition = record {
  id = 21;
  name = codes "PARAM_REQUEST_LIST";
  fields = target_system_field ∷ target_component_field ∷ [];
  extensions = [];
}

abbrev pub param_value_definition : Definition
param_value_definition = record {
  id = 22;
  name = codes "PARAM_VALUE";
  fields = array Char 16 (codes "param_id") ∷ single F32 (codes "param_value") ∷ single U8 (codes "param_type")
      ∷ single U16 (codes "param_count") ∷ single U16 (codes "param_index") ∷ [];
  extensions = [];
}

abbrev pub param_set_definition : Definition
param_set_definition = record {
  id = 23;
  name = codes "PARAM_SET";
  fields = target_system_field ∷ target_component_field ∷ array Char 16 (codes "param_id")
      ∷ single F32 (codes "param_value") ∷ single U8 (codes "param_type") ∷ [];
  extensions = [];
}

abbrev pub global_position_int_definition : Definition
global_position_int_definition = record {
  id = 33;
  name = codes "GLOBAL_POSITION_INT";
  fields = single U32 (codes "time_boot_ms") ∷ single I32 (codes "lat") ∷ single I32 (codes "lon")
      ∷ single I32 (codes "alt") ∷ single I32 (codes "relative_alt") ∷ single I16 (codes "vx")
      ∷ single I16 (codes "vy") ∷ single I16 (codes "vz") ∷ single U16 (codes "hdg") ∷ [];
  extensions = [];
}

abbrev pub mission_current_definition : Definition
mission_current_definition = record {
  id = 42;
  name = codes "MISSION_CURRENT";
  fields = single U16 (codes "seq") ∷ [];
  extensions = [];
}

abbrev pub mission_request_list_definition : Definition
mission_request_list_definition = record {
  id = 43;
  name = codes "MISSION_REQUEST_LIST";
  fields = target_system_field ∷ target_component_field ∷ [];
  extensions = mission_type_field ∷ [];
}

abbrev pub mission_count_definition : Definition
mission_count_definition = record {
  id = 44;
  name = codes "MISSION_COUNT";
  fields = target_system_field ∷ target_component_field ∷ single U16 (codes "count") ∷ [];
  extensions = mission_type_field ∷ [];
}

abbrev pub mission_clear_all_definition : Definition
mission_clear_all_definition = record {
  id = 45;
  name = codes "MISSION_CLEAR_ALL";
  fields = target_system_field ∷ target_component_field ∷ [];
  extensions = mission_type_field ∷ [];
}

abbrev pub mission_item_reached_definition : Definition
mission_item_reached_definition = record {
  id = 46;
  name = codes "MISSION_ITEM_REACHED";
  fields = single U16 (codes "seq") ∷ [];
  extensions = [];
}

abbrev pub mission_ack_definition : Definition
mission_ack_definition = record {
  id = 47;
  name = codes "MISSION_ACK";
  fields = target_system_field ∷ target_component_field ∷ single U8 (codes "type") ∷ [];
  extensions = mission_type_field ∷ [];
}

abbrev pub mission_request_int_definition : Definition
mission_request_int_definition = record {
  id = 51;
  name = codes "MISSION_REQUEST_INT";
  fields = target_system_field ∷ target_component_field ∷ single U16 (codes "seq") ∷ [];
  extensions = mission_type_field ∷ [];
}

abbrev pub mission_item_int_definition : Definition
mission_item_int_definition = record {
  id = 73;
  name = codes "MISSION_ITEM_INT";
  fields = target_system_field ∷ target_component_field ∷ single U16 (codes "seq") ∷ single U8 (codes "frame")
      ∷ single U16 (codes "command") ∷ single U8 (codes "current") ∷ single U8 (codes "autocontinue")
      ∷ single F32 (codes "param1") ∷ single F32 (codes "param2") ∷ single F32 (codes "param3")
      ∷ single F32 (codes "param4") ∷ single I32 (codes "x") ∷ single I32 (codes "y") ∷ single F32 (codes "z") ∷ [];
  extensions = mission_type_field ∷ [];
}

abbrev pub command_long_definition : Definition
command_long_definition = record {
  id = 76;
  name = codes "COMMAND_LONG";
  fields = target_system_field ∷ target_component_field ∷ single U16 (codes "command")
      ∷ single U8 (codes "confirmation") ∷ single F32 (codes "param1") ∷ single F32 (codes "param2")
      ∷ single F32 (codes "param3") ∷ single F32 (codes "param4") ∷ single F32 (codes "param5")
      ∷ single F32 (codes "param6") ∷ single F32 (codes "param7") ∷ [];
  extensions = [];
}

abbrev pub command_ack_definition : Definition
command_ack_definition = record {
  id = 77;
  name = codes "COMMAND_ACK";
  fields = single U16 (codes "command") ∷ single U8 (codes "result") ∷ [];
  extensions = single U8 (codes "progress") ∷ single I32 (codes "result_param2") ∷ target_system_field
      ∷ target_component_field ∷ [];
}

abbrev pub file_transfer_protocol_definition : Definition
file_transfer_protocol_definition = record {
  id = 110;
  name = codes "FILE_TRANSFER_PROTOCOL";
  fields = single U8 (codes "target_network") ∷ target_system_field ∷ target_component_field
      ∷ array U8 251 (codes "payload") ∷ [];
  extensions = [];
}

abbrev pub statustext_definition : Definition
statustext_definition = record {
  id = 253;
  name = codes "STATUSTEXT";
  fields = single U8 (codes "severity") ∷ array Char 50 (codes "text") ∷ [];
  extensions = single U16 (codes "id") ∷ single U8 (codes "chunk_seq") ∷ [];
}

-- in order of their ids
abbrev pub profile_definitions : List Definition
profile_definitions =
    heartbeat_definition
    ∷ ping_definition
    ∷ param_request_read_definition
    ∷ param_request_list_definition
    ∷ param_value_definition
    ∷ param_set_definition
    ∷ global_position_int_definition
    ∷ mission_current_definition
    ∷ mission_request_list_definition
    ∷ mission_count_definition
    ∷ mission_clear_all_definition
    ∷ mission_item_reached_definition
    ∷ mission_ack_definition
    ∷ mission_request_int_definition
    ∷ mission_item_int_definition
    ∷ command_long_definition
    ∷ command_ack_definition
    ∷ file_transfer_protocol_definition
    ∷ statustext_definition
    ∷ []
