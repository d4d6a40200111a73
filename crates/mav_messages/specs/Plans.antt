-- Which message carries which message of the mission protocol (MAVLink guide, Mission Protocol).
use Rattle.std.specs.Prelude.{ℕ, [], ◌∷◌, slice_index, Option, Some, None}
use Rattle.mav_names.specs.declared.names.Name.{Name}
use Rattle.plan_items.specs.declared.items.Item.{Item}
use Rattle.plan_items.specs.declared.messages.PlanMsg.{PlanMsg}
use Rattle.plan_items.specs.declared.messages.PlanMsg.TheVariants as plan
use Rattle.mav_messages.specs.declared.mission_items.MissionItemInt.{MissionItemInt}
use Rattle.mav_messages.specs.declared.messages.Message.{Message}
use Rattle.mav_messages.specs.declared.messages.Message.TheVariants.{MissionCount, MissionRequestInt}
use Rattle.mav_messages.specs.declared.messages.Message.TheVariants.{MissionItemInt as CarriesItem, MissionAck}
use Rattle.mav_messages.specs.declared.messages.Message.TheVariants.{MissionRequestList, MissionClearAll, Ping}

-- an item for a node
abbrev pub item_message : Name → ℕ → ℕ → Item → MissionItemInt
item_message to seq kind item = record {
  target_system = to.sys;
  target_component = to.comp;
  seq = seq;
  frame = item.frame;
  command = item.command;
  current = item.current;
  autocontinue = item.autocontinue;
  param1 = slice_index item.p 0;
  param2 = slice_index item.p 1;
  param3 = slice_index item.p 2;
  param4 = slice_index item.p 3;
  x = item.x;
  y = item.y;
  z = item.z;
  mission_type = kind;
}

-- the item that a message carries
abbrev pub item_in : MissionItemInt → Item
item_in m = record {
  frame = m.frame;
  command = m.command;
  current = m.current;
  autocontinue = m.autocontinue;
  p = m.param1 ∷ m.param2 ∷ m.param3 ∷ m.param4 ∷ [];
  x = m.x;
  y = m.y;
  z = m.z;
}

-- the message that carries a message of the protocol
abbrev pub message_of_plan : PlanMsg → Message
message_of_plan (plan.Count to count kind) =
    MissionCount (record { target_system = to.sys; target_component = to.comp; count = count; mission_type = kind })
message_of_plan (plan.Request to seq kind) =
    MissionRequestInt (record { target_system = to.sys; target_component = to.comp; seq = seq; mission_type = kind })
message_of_plan (plan.Item to seq kind item) = CarriesItem (item_message to seq kind item)
message_of_plan (plan.Ack to code kind) =
    MissionAck (record { target_system = to.sys; target_component = to.comp; ty = code; mission_type = kind })
message_of_plan (plan.List to kind) =
    MissionRequestList (record { target_system = to.sys; target_component = to.comp; mission_type = kind })
message_of_plan (plan.Clear to kind) =
    MissionClearAll (record { target_system = to.sys; target_component = to.comp; mission_type = kind })
message_of_plan (plan.Ping to usec seq) =
    Ping (record { time_usec = usec; seq = seq; target_system = to.sys; target_component = to.comp })

abbrev node : ℕ → ℕ → Name
node sys comp = record { sys = sys; comp = comp }

-- the message of the protocol that a message carries, if it carries one
abbrev pub plan_of : Message → Option PlanMsg
plan_of (MissionCount m) = Some (plan.Count (node m.target_system m.target_component) m.count m.mission_type)
plan_of (MissionRequestInt m) = Some (plan.Request (node m.target_system m.target_component) m.seq m.mission_type)
plan_of (CarriesItem m) = Some (plan.Item (node m.target_system m.target_component) m.seq m.mission_type (item_in m))
plan_of (MissionAck m) = Some (plan.Ack (node m.target_system m.target_component) m.ty m.mission_type)
plan_of (MissionRequestList m) = Some (plan.List (node m.target_system m.target_component) m.mission_type)
plan_of (MissionClearAll m) = Some (plan.Clear (node m.target_system m.target_component) m.mission_type)
plan_of (Ping m) = Some (plan.Ping (node m.target_system m.target_component) m.time_usec m.seq)
plan_of _ = None
