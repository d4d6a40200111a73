-- The message of the mission protocol in a payload, and that of another service of a node (MAVLink guide, Mission
-- Protocol, Command Protocol, Parameter Protocol, MAVLink FTP; MAVLink common messages).
use Rattle.std.specs.Prelude.{ℕ, ◌≡◌, ◌==◌, if◌then◌else◌, List, [], ◌∷◌, map, slice_index, Option, Some, None}
use Rattle.std.specs.List.{enumerate_from}
use Rattle.std.specs.Int.{w16, w32, cast_signed, cast_unsigned}
use Rattle.field_layout.specs.Types.{element_size}
use Rattle.field_layout.specs.Definition.{Definition, all_fields, element_count}
use Rattle.field_layout.specs.WireOrder.{Placed, offset_of}
use Rattle.field_layout.specs.Payload.{words_at}
use Rattle.field_layout.specs.Reading.{words_from}
use Rattle.mav_profile.specs.Profile.{ping_definition, mission_request_list_definition, mission_count_definition}
use Rattle.mav_profile.specs.Profile.{mission_clear_all_definition, mission_ack_definition}
use Rattle.mav_profile.specs.Profile.{mission_request_int_definition, mission_item_int_definition}
use Rattle.mav_profile.specs.Profile.{param_request_read_definition, param_request_list_definition}
use Rattle.mav_profile.specs.Profile.{param_value_definition, param_set_definition, command_long_definition}
use Rattle.mav_profile.specs.Profile.{command_ack_definition, file_transfer_protocol_definition}
use Rattle.mav_names.specs.declared.names.Name.{Name}
use Rattle.mav_messages.specs.declared.messages.Message.{Message}
use Rattle.mav_messages.specs.declared.messages.Message.TheVariants.{ParamRequestRead, ParamRequestList, ParamValue}
use Rattle.mav_messages.specs.declared.messages.Message.TheVariants.{ParamSet, CommandLong, CommandAck}
use Rattle.mav_messages.specs.declared.messages.Message.TheVariants.{FileTransferProtocol}
use Rattle.plan_items.specs.declared.messages.PlanMsg.{PlanMsg}
use Rattle.plan_items.specs.declared.messages.PlanMsg.TheVariants.{Count, Request, Item as Give, Ack, List as Listing}
use Rattle.plan_items.specs.declared.messages.PlanMsg.TheVariants.{Clear, Ping}

-- the words of each field, in definition order with the extensions last; the bytes past the payload's end are zeros
abbrev pub values_in : Definition → List ℕ → List (List ℕ)
values_in def payload =
    map (λ (field : Placed). words_from payload (offset_of def field.0) (element_size field.1.ty)
    (element_count field.1)) (enumerate_from 0 (all_fields def))

-- the word of a field of one value
abbrev pub word_of : List (List ℕ) → ℕ → ℕ
word_of values place = slice_index (words_at values place) 0

-- the node of two of them
abbrev pub node_of : List (List ℕ) → ℕ → ℕ → Name
node_of values sys comp = record { sys = word_of values sys; comp = word_of values comp }

-- the messages, by the indices of their fields
abbrev pub ping_in : List (List ℕ) → PlanMsg
ping_in v = Ping (node_of v 2 3) (word_of v 0) (word_of v 1)

abbrev pub list_in : List (List ℕ) → PlanMsg
list_in v = Listing (node_of v 0 1) (word_of v 2)

abbrev pub count_in : List (List ℕ) → PlanMsg
count_in v = Count (node_of v 0 1) (word_of v 2) (word_of v 3)

abbrev pub clear_in : List (List ℕ) → PlanMsg
clear_in v = Clear (node_of v 0 1) (word_of v 2)

abbrev pub ack_in : List (List ℕ) → PlanMsg
ack_in v = Ack (node_of v 0 1) (word_of v 2) (word_of v 3)

abbrev pub request_in : List (List ℕ) → PlanMsg
request_in v = Request (node_of v 0 1) (word_of v 2) (word_of v 3)

abbrev pub item_in : List (List ℕ) → PlanMsg
item_in v = Give (node_of v 0 1) (word_of v 2) (word_of v 14) (record {
  frame = word_of v 3;
  command = word_of v 4;
  current = word_of v 5;
  autocontinue = word_of v 6;
  p = word_of v 7 ∷ word_of v 8 ∷ word_of v 9 ∷ word_of v 10 ∷ [];
  x = cast_signed w32 (word_of v 11);
  y = cast_signed w32 (word_of v 12);
  z = word_of v 13;
})

-- the message of the mission protocol that a frame of that id carries, if it carries one
abbrev pub plan_in : ℕ → List ℕ → Option PlanMsg
plan_in id payload =
    if id == 4 then Some (ping_in (values_in ping_definition payload))
    else if id == 43 then Some (list_in (values_in mission_request_list_definition payload))
    else if id == 44 then Some (count_in (values_in mission_count_definition payload))
    else if id == 45 then Some (clear_in (values_in mission_clear_all_definition payload))
    else if id == 47 then Some (ack_in (values_in mission_ack_definition payload))
    else if id == 51 then Some (request_in (values_in mission_request_int_definition payload))
    else if id == 73 then Some (item_in (values_in mission_item_int_definition payload))
    else None

-- the signed numbers of an item are those of their words
abbrev pub ItemFits : Option PlanMsg → Type 0
ItemFits (Some (Give to seq kind item)) =
    (cast_signed w32 (cast_unsigned w32 item.x) ≡ item.x) × (cast_signed w32 (cast_unsigned w32 item.y) ≡ item.y)
ItemFits message = Unit {0}

-- ---- other services

abbrev pub param_read_in : List (List ℕ) → Message
param_read_in v = ParamRequestRead (record {
  target_system = word_of v 0;
  target_component = word_of v 1;
  param_id = words_at v 2;
  param_index = cast_signed w16 (word_of v 3);
})

abbrev pub param_list_in : List (List ℕ) → Message
param_list_in v = ParamRequestList (record { target_system = word_of v 0; target_component = word_of v 1 })

abbrev pub param_value_in : List (List ℕ) → Message
param_value_in v = ParamValue (record {
  param_id = words_at v 0;
  param_value = word_of v 1;
  param_type = word_of v 2;
  param_count = word_of v 3;
  param_index = word_of v 4;
})

abbrev pub param_set_in : List (List ℕ) → Message
param_set_in v = ParamSet (record {
  target_system = word_of v 0;
  target_component = word_of v 1;
  param_id = words_at v 2;
  param_value = word_of v 3;
  param_type = word_of v 4;
})

abbrev pub command_in : List (List ℕ) → Message
command_in v = CommandLong (record {
  target_system = word_of v 0;
  target_component = word_of v 1;
  command = word_of v 2;
  confirmation = word_of v 3;
  param1 = word_of v 4;
  param2 = word_of v 5;
  param3 = word_of v 6;
  param4 = word_of v 7;
  param5 = word_of v 8;
  param6 = word_of v 9;
  param7 = word_of v 10;
})

abbrev pub command_ack_in : List (List ℕ) → Message
command_ack_in v = CommandAck (record {
  command = word_of v 0;
  result = word_of v 1;
  progress = word_of v 2;
  result_param2 = cast_signed w32 (word_of v 3);
  target_system = word_of v 4;
  target_component = word_of v 5;
})

abbrev pub file_in : List (List ℕ) → Message
file_in v = FileTransferProtocol (record {
  target_network = word_of v 0;
  target_system = word_of v 1;
  target_component = word_of v 2;
  payload = words_at v 3;
})

-- the message of commands, parameters or file transfer that a frame of that id carries, if it carries one
abbrev pub service_in : ℕ → List ℕ → Option Message
service_in id payload =
    if id == 20 then Some (param_read_in (values_in param_request_read_definition payload))
    else if id == 21 then Some (param_list_in (values_in param_request_list_definition payload))
    else if id == 22 then Some (param_value_in (values_in param_value_definition payload))
    else if id == 23 then Some (param_set_in (values_in param_set_definition payload))
    else if id == 76 then Some (command_in (values_in command_long_definition payload))
    else if id == 77 then Some (command_ack_in (values_in command_ack_definition payload))
    else if id == 110 then Some (file_in (values_in file_transfer_protocol_definition payload))
    else None

-- a message of these protocols
abbrev pub service_of : Message → Option Message
service_of (ParamRequestRead m) = Some (ParamRequestRead m)
service_of (ParamRequestList m) = Some (ParamRequestList m)
service_of (ParamValue m) = Some (ParamValue m)
service_of (ParamSet m) = Some (ParamSet m)
service_of (CommandLong m) = Some (CommandLong m)
service_of (CommandAck m) = Some (CommandAck m)
service_of (FileTransferProtocol m) = Some (FileTransferProtocol m)
service_of _ = None

-- its signed numbers are those of their words
abbrev pub ServiceFits : Message → Type 0
ServiceFits (ParamRequestRead m) = cast_signed w16 (cast_unsigned w16 m.param_index) ≡ m.param_index
ServiceFits (CommandAck m) = cast_signed w32 (cast_unsigned w32 m.result_param2) ≡ m.result_param2
ServiceFits message = Unit {0}
