-- What `dialect` writes of the profile: each message with its lengths and CRC_EXTRA, its fields at their offsets.
use Rattle.std.specs.Prelude.{ℕ, List, codes}

abbrev pub profile_layouts : List ℕ
profile_layouts = codes "0 HEARTBEAT len 9 full 9 extra 50\n 0 uint32_t custom_mode\n 4 uint8_t type\n 5 uint8_t autopilot\n 6 uint8_t base_mode\n 7 uint8_t system_status\n 8 uint8_t_mavlink_version mavlink_version\n4 PING len 14 full 14 extra 237\n 0 uint64_t time_usec\n 8 uint32_t seq\n 12 uint8_t target_system\n 13 uint8_t target_component\n20 PARAM_REQUEST_READ len 20 full 20 extra 214\n 0 int16_t param_index\n 2 uint8_t target_system\n 3 uint8_t target_component\n 4 char[16] param_id\n21 PARAM_REQUEST_LIST len 2 full 2 extra 159\n 0 uint8_t target_system\n 1 uint8_t target_component\n22 PARAM_VALUE len 25 full 25 extra 220\n 0 float param_value\n 4 uint16_t param_count\n 6 uint16_t param_index\n 8 char[16] param_id\n 24 uint8_t param_type\n23 PARAM_SET len 23 full 23 extra 168\n 0 float param_value\n 4 uint8_t target_system\n 5 uint8_t target_component\n 6 char[16] param_id\n 22 uint8_t param_type\n33 GLOBAL_POSITION_INT len 28 full 28 extra 104\n 0 uint32_t time_boot_ms\n 4 int32_t lat\n 8 int32_t lon\n 12 int32_t alt\n 16 int32_t relative_alt\n 20 int16_t vx\n 22 int16_t vy\n 24 int16_t vz\n 26 uint16_t hdg\n42 MISSION_CURRENT len 2 full 2 extra 28\n 0 uint16_t seq\n43 MISSION_REQUEST_LIST len 2 full 3 extra 132\n 0 uint8_t target_system\n 1 uint8_t target_component\n 2 uint8_t mission_type\n44 MISSION_COUNT len 4 full 5 extra 221\n 0 uint16_t count\n 2 uint8_t target_system\n 3 uint8_t target_component\n 4 uint8_t mission_type\n45 MISSION_CLEAR_ALL len 2 full 3 extra 232\n 0 uint8_t target_system\n 1 uint8_t target_component\n 2 uint8_t mission_type\n46 MISSION_ITEM_REACHED len 2 full 2 extra 11\n 0 uint16_t seq\n47 MISSION_ACK len 3 full 4 extra 153\n 0 uint8_t target_system\n 1 uint8_t target_component\n 2 uint8_t type\n 3 uint8_t mission_type\n51 MISSION_REQUEST_INT len 4 full 5 extra 196\n 0 uint16_t seq\n 2 uint8_t target_system\n 3 uint8_t target_component\n 4 uint8_t mission_type\n73 MISSION_ITEM_INT len 37 full 38 extra 38\n 0 float param1\n 4 float param2\n 8 float param3\n 12 float param4\n 16 int32_t x\n 20 int32_t y\n 24 float z\n 28 uint16_t seq\n 30 uint16_t command\n 32 uint8_t target_system\n 33 uint8_t target_component\n 34 uint8_t frame\n 35 uint8_t current\n 36 uint8_t autocontinue\n 37 uint8_t mission_type\n76 COMMAND_LONG len 33 full 33 extra 152\n 0 float param1\n 4 float param2\n 8 float param3\n 12 float param4\n 16 float param5\n 20 float param6\n 24 float param7\n 28 uint16_t command\n 30 uint8_t target_system\n 31 uint8_t target_component\n 32 uint8_t confirmation\n77 COMMAND_ACK len 3 full 10 extra 143\n 0 uint16_t command\n 2 uint8_t result\n 3 uint8_t progress\n 4 int32_t result_param2\n 8 uint8_t target_system\n 9 uint8_t target_component\n110 FILE_TRANSFER_PROTOCOL len 254 full 254 extra 84\n 0 uint8_t target_network\n 1 uint8_t target_system\n 2 uint8_t target_component\n 3 uint8_t[251] payload\n253 STATUSTEXT len 51 full 54 extra 83\n 0 uint8_t severity\n 1 char[50] text\n 51 uint16_t id\n 53 uint8_t chunk_seq\nmessages 19\n"
