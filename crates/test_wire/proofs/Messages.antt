-- Payloads of messages, computed from the definitions alone: each field under its name, at its offset in the published
-- layout.
-- What is read of such a payload is the message again, by the law `packed_values_come_back`.
use Rattle.std.proofs.Common.{◌≡◌, ℕ, pos, List, [], ◌∷◌, ◌++◌, length, replicate, codes, refl}
use Rattle.std.specs.Prelude.{◌-◌, neg_ℤ, None}
use Rattle.mav_names.specs.declared.names.Name.{Name}
use Rattle.field_layout.specs.Payload.{serialised, truncated}
use Rattle.field_layout.proofs.Decoding.{decoded_all}
use Rattle.mav_profile.specs.Profile.{mission_ack_definition}
use Rattle.mav_messages.specs.Messages.{definition_of, values_of, profile_definition}
use Rattle.mav_messages.specs.Targets.{target_in}
use Rattle.mav_messages.specs.Plans.{plan_of}
use Rattle.mav_messages.specs.declared.messages.Message.{Message}
use Rattle.mav_messages.specs.declared.messages.Message.TheVariants.{Heartbeat, Ping, ParamRequestRead, ParamRequestList, ParamValue, ParamSet, GlobalPositionInt, MissionCurrent, MissionRequestList, MissionCount, MissionClearAll, MissionItemReached, MissionAck, MissionRequestInt, MissionItemInt, CommandLong, CommandAck, FileTransferProtocol, Statustext}

-- a message's id and payload
abbrev written : Message → ℕ × List ℕ
written message = ((definition_of message).id, truncated (serialised (definition_of message) (values_of message)))

-- a text with zeros after it
abbrev filled : ℕ → List ℕ → List ℕ
filled count bytes = bytes ++ replicate (count - length bytes) 0

pub heartbeat_payload : written (Heartbeat record {
  ty = 2;
  autopilot = 3;
  base_mode = 81;
  custom_mode = 0x01020304;
  system_status = 4;
  mavlink_version = 3;
}) ≡ (
  0,
  0x04 ∷ 0x03 ∷ 0x02 ∷ 0x01 ∷ 0x02 ∷ 0x03 ∷ 0x51 ∷ 0x04 ∷ 0x03 ∷ [],
)
heartbeat_payload = refl

pub ping_payload : written (Ping record {
  time_usec = 0x0102030405060708;
  seq = 0x11121314;
  target_system = 1;
  target_component = 190;
}) ≡ (
  4,
  0x08 ∷ 0x07 ∷ 0x06 ∷ 0x05 ∷ 0x04 ∷ 0x03 ∷ 0x02 ∷ 0x01 ∷ 0x14 ∷ 0x13 ∷ 0x12 ∷ 0x11 ∷ 0x01 ∷ 0xBE ∷ [],
)
ping_payload = refl

pub param_request_read_payload : written (ParamRequestRead record {
  target_system = 1;
  target_component = 2;
  param_id = filled 16 (codes "SIM_STEP");
  param_index = neg_ℤ (pos 1);
}) ≡ (
  20,
  0xFF ∷ 0xFF ∷ 0x01 ∷ 0x02 ∷ 0x53 ∷ 0x49 ∷ 0x4D ∷ 0x5F ∷ 0x53 ∷ 0x54 ∷ 0x45 ∷ 0x50 ∷ [],
)
param_request_read_payload = refl

pub param_request_list_payload : written (ParamRequestList record {
  target_system = 7;
  target_component = 1;
}) ≡ (
  21,
  0x07 ∷ 0x01 ∷ [],
)
param_request_list_payload = refl

pub param_value_payload : written (ParamValue record {
  param_id = codes "SIM_USER_36_LONG";
  param_value = 0x3F800000;
  param_type = 6;
  param_count = 40;
  param_index = 39;
}) ≡ (
  22,
  0x00 ∷ 0x00 ∷ 0x80 ∷ 0x3F ∷ 0x28 ∷ 0x00 ∷ 0x27 ∷ 0x00 ∷ 0x53 ∷ 0x49 ∷ 0x4D ∷ 0x5F ∷ 0x55 ∷ 0x53 ∷ 0x45 ∷
      0x52 ∷ 0x5F ∷ 0x33 ∷ 0x36 ∷ 0x5F ∷ 0x4C ∷ 0x4F ∷ 0x4E ∷ 0x47 ∷ 0x06 ∷ [],
)
param_value_payload = refl

pub param_set_payload : written (ParamSet record {
  target_system = 1;
  target_component = 1;
  param_id = filled 16 (codes "SIM_HOME_X");
  param_value = 0xFFFFFFFE;
  param_type = 4;
}) ≡ (
  23,
  0xFE ∷ 0xFF ∷ 0xFF ∷ 0xFF ∷ 0x01 ∷ 0x01 ∷ 0x53 ∷ 0x49 ∷ 0x4D ∷ 0x5F ∷ 0x48 ∷ 0x4F ∷ 0x4D ∷ 0x45 ∷ 0x5F ∷
      0x58 ∷ 0x00 ∷ 0x00 ∷ 0x00 ∷ 0x00 ∷ 0x00 ∷ 0x00 ∷ 0x04 ∷ [],
)
param_set_payload = refl

pub global_position_int_payload : written (GlobalPositionInt record {
  time_boot_ms = 1000;
  lat = neg_ℤ (pos 473977420);
  lon = pos 85455940;
  alt = neg_ℤ (pos 1);
  relative_alt = pos 50000;
  vx = neg_ℤ (pos 300);
  vy = neg_ℤ (pos 1);
  vz = pos 300;
  hdg = 35999;
}) ≡ (
  33,
  0xE8 ∷ 0x03 ∷ 0x00 ∷ 0x00 ∷ 0xB4 ∷ 0xAD ∷ 0xBF ∷ 0xE3 ∷ 0x44 ∷ 0xF4 ∷ 0x17 ∷ 0x05 ∷ 0xFF ∷ 0xFF ∷ 0xFF ∷
      0xFF ∷ 0x50 ∷ 0xC3 ∷ 0x00 ∷ 0x00 ∷ 0xD4 ∷ 0xFE ∷ 0xFF ∷ 0xFF ∷ 0x2C ∷ 0x01 ∷ 0x9F ∷ 0x8C ∷ [],
)
global_position_int_payload = refl

pub mission_current_payload : written (MissionCurrent record {
  seq = 258;
}) ≡ (
  42,
  0x02 ∷ 0x01 ∷ [],
)
mission_current_payload = refl

pub mission_request_list_payload : written (MissionRequestList record {
  target_system = 1;
  target_component = 1;
  mission_type = 2;
}) ≡ (
  43,
  0x01 ∷ 0x01 ∷ 0x02 ∷ [],
)
mission_request_list_payload = refl

pub mission_count_payload : written (MissionCount record {
  target_system = 1;
  target_component = 2;
  count = 1000;
  mission_type = 1;
}) ≡ (
  44,
  0xE8 ∷ 0x03 ∷ 0x01 ∷ 0x02 ∷ 0x01 ∷ [],
)
mission_count_payload = refl

pub mission_clear_all_payload : written (MissionClearAll record {
  target_system = 1;
  target_component = 2;
  mission_type = 255;
}) ≡ (
  45,
  0x01 ∷ 0x02 ∷ 0xFF ∷ [],
)
mission_clear_all_payload = refl

pub mission_item_reached_payload : written (MissionItemReached record {
  seq = 999;
}) ≡ (
  46,
  0xE7 ∷ 0x03 ∷ [],
)
mission_item_reached_payload = refl

pub mission_ack_payload : written (MissionAck record {
  target_system = 255;
  target_component = 190;
  ty = 15;
  mission_type = 1;
}) ≡ (
  47,
  0xFF ∷ 0xBE ∷ 0x0F ∷ 0x01 ∷ [],
)
mission_ack_payload = refl

pub mission_request_int_payload : written (MissionRequestInt record {
  target_system = 255;
  target_component = 190;
  seq = 513;
  mission_type = 2;
}) ≡ (
  51,
  0x01 ∷ 0x02 ∷ 0xFF ∷ 0xBE ∷ 0x02 ∷ [],
)
mission_request_int_payload = refl

pub mission_item_int_payload : written (MissionItemInt record {
  target_system = 1;
  target_component = 2;
  seq = 3;
  frame = 6;
  command = 5001;
  current = 7;
  autocontinue = 8;
  param1 = 0x40400000;
  param2 = 0x11121314;
  param3 = 0x21222324;
  param4 = 0x7FC00000;
  x = pos 473977420;
  y = neg_ℤ (pos 85455940);
  z = 0x42480000;
  mission_type = 1;
}) ≡ (
  73,
  0x00 ∷ 0x00 ∷ 0x40 ∷ 0x40 ∷ 0x14 ∷ 0x13 ∷ 0x12 ∷ 0x11 ∷ 0x24 ∷ 0x23 ∷ 0x22 ∷ 0x21 ∷ 0x00 ∷ 0x00 ∷ 0xC0 ∷
      0x7F ∷ 0x4C ∷ 0x52 ∷ 0x40 ∷ 0x1C ∷ 0xBC ∷ 0x0B ∷ 0xE8 ∷ 0xFA ∷ 0x00 ∷ 0x00 ∷ 0x48 ∷ 0x42 ∷ 0x03 ∷ 0x00 ∷
      0x89 ∷ 0x13 ∷ 0x01 ∷ 0x02 ∷ 0x06 ∷ 0x07 ∷ 0x08 ∷ 0x01 ∷ [],
)
mission_item_int_payload = refl

pub command_long_payload : written (CommandLong record {
  target_system = 1;
  target_component = 2;
  command = 400;
  confirmation = 5;
  param1 = 0x3F800000;
  param2 = 2;
  param3 = 3;
  param4 = 4;
  param5 = 5;
  param6 = 6;
  param7 = 0x01020304;
}) ≡ (
  76,
  0x00 ∷ 0x00 ∷ 0x80 ∷ 0x3F ∷ 0x02 ∷ 0x00 ∷ 0x00 ∷ 0x00 ∷ 0x03 ∷ 0x00 ∷ 0x00 ∷ 0x00 ∷ 0x04 ∷ 0x00 ∷ 0x00 ∷
      0x00 ∷ 0x05 ∷ 0x00 ∷ 0x00 ∷ 0x00 ∷ 0x06 ∷ 0x00 ∷ 0x00 ∷ 0x00 ∷ 0x04 ∷ 0x03 ∷ 0x02 ∷ 0x01 ∷ 0x90 ∷ 0x01 ∷
      0x01 ∷ 0x02 ∷ 0x05 ∷ [],
)
command_long_payload = refl

pub command_ack_payload : written (CommandAck record {
  command = 300;
  result = 2;
  progress = 9;
  result_param2 = neg_ℤ (pos 2);
  target_system = 255;
  target_component = 190;
}) ≡ (
  77,
  0x2C ∷ 0x01 ∷ 0x02 ∷ 0x09 ∷ 0xFE ∷ 0xFF ∷ 0xFF ∷ 0xFF ∷ 0xFF ∷ 0xBE ∷ [],
)
command_ack_payload = refl

pub file_transfer_protocol_payload : written (FileTransferProtocol record {
  target_network = 0;
  target_system = 1;
  target_component = 190;
  payload = filled 251 (7 ∷ 1 ∷ 2 ∷ 4 ∷ 5 ∷ []);
}) ≡ (
  110,
  0x00 ∷ 0x01 ∷ 0xBE ∷ 0x07 ∷ 0x01 ∷ 0x02 ∷ 0x04 ∷ 0x05 ∷ [],
)
file_transfer_protocol_payload = refl

pub statustext_payload : written (Statustext record {
  severity = 6;
  text = filled 50 (codes "ready");
  id = 515;
  chunk_seq = 1;
}) ≡ (
  253,
  0x06 ∷ 0x72 ∷ 0x65 ∷ 0x61 ∷ 0x64 ∷ 0x79 ∷ 0x00 ∷ 0x00 ∷ 0x00 ∷ 0x00 ∷ 0x00 ∷ 0x00 ∷ 0x00 ∷ 0x00 ∷ 0x00 ∷
      0x00 ∷ 0x00 ∷ 0x00 ∷ 0x00 ∷ 0x00 ∷ 0x00 ∷ 0x00 ∷ 0x00 ∷ 0x00 ∷ 0x00 ∷ 0x00 ∷ 0x00 ∷ 0x00 ∷ 0x00 ∷ 0x00 ∷
      0x00 ∷ 0x00 ∷ 0x00 ∷ 0x00 ∷ 0x00 ∷ 0x00 ∷ 0x00 ∷ 0x00 ∷ 0x00 ∷ 0x00 ∷ 0x00 ∷ 0x00 ∷ 0x00 ∷ 0x00 ∷ 0x00 ∷
      0x00 ∷ 0x00 ∷ 0x00 ∷ 0x00 ∷ 0x00 ∷ 0x00 ∷ 0x03 ∷ 0x02 ∷ 0x01 ∷ [],
)
statustext_payload = refl

-- ---- other payloads

-- the extension at the end is 0, and so is left out
pub absent_extension : written (MissionAck record { target_system = 255; target_component = 190; ty = 15; mission_type = 0 }) ≡
    (47, 255 ∷ 190 ∷ 15 ∷ [])
absent_extension = refl

-- a payload of zeros keeps its first byte
pub zeros_kept : written (MissionCurrent record { seq = 0 }) ≡ (42, 0 ∷ [])
zeros_kept = refl

-- signed fields below zero
pub below_zero : written (GlobalPositionInt record {
  time_boot_ms = 0;
  lat = neg_ℤ (pos 2);
  lon = pos 0;
  alt = pos 0;
  relative_alt = pos 0;
  vx = pos 0;
  vy = pos 0;
  vz = neg_ℤ (pos 32768);
  hdg = 0;
}) ≡ (
  33,
  0 ∷ 0 ∷ 0 ∷ 0 ∷ 0xFE ∷ 0xFF ∷ 0xFF ∷ 0xFF ∷ 0 ∷ 0 ∷ 0 ∷ 0 ∷ 0 ∷ 0 ∷ 0 ∷ 0 ∷ 0 ∷ 0 ∷ 0 ∷ 0 ∷ 0 ∷ 0 ∷ 0 ∷ 0 ∷ 0x00 ∷ 0x80 ∷ [],
)
below_zero = refl

-- what an empty payload represents, by `decoded_represents`
pub empty_payload : decoded_all mission_ack_definition [] ≡ (0 ∷ []) ∷ (0 ∷ []) ∷ (0 ∷ []) ∷ (0 ∷ []) ∷ []
empty_payload = refl

-- bytes past the known length are ignored
pub longer_payload : decoded_all mission_ack_definition (255 ∷ 190 ∷ 15 ∷ 2 ∷ 9 ∷ 9 ∷ 9 ∷ []) ≡ (255 ∷ []) ∷ (190 ∷ []) ∷ (15 ∷ []) ∷ (2 ∷ []) ∷ []
longer_payload = refl

-- ---- ids and targets

pub unknown_ids : profile_definition 1 ≡ None
unknown_ids = refl

pub large_ids : profile_definition 0x01000000 ≡ None
large_ids = refl

abbrev node : ℕ → ℕ → Name
node sys comp = record { sys = sys; comp = comp }

abbrev target_of_message : Message → Name
target_of_message message = target_in (definition_of message) (values_of message)

-- the target may be an extension
pub target_in_extension : target_of_message (CommandAck record {
  command = 400;
  result = 0;
  progress = 0;
  result_param2 = pos 0;
  target_system = 255;
  target_component = 190;
}) ≡ node 255 190
target_in_extension = refl

-- a message without target is for everyone, and here carries no message of the mission protocol
abbrev reached : Message
reached = MissionItemReached record { seq = 5 }

pub target_of_everyone : target_of_message reached ≡ node 0 0
target_of_everyone = refl

pub carries_no_plan : plan_of reached ≡ None
carries_no_plan = refl
