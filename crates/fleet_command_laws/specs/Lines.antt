-- Which `command` line a sent frame belongs to. An accepted line sends COMMAND_LONG with confirmation 0, and each tick
-- that gives it again a confirmation above 0 (MAVLink guide, Command Protocol): so the lines of a station are counted
-- by the frames with confirmation 0, and each of these has its line's order.
use Rattle.std.specs.Prelude.{ℕ, zero, suc, ◌+◌, ◌==◌, if◌then◌else◌, List, [], ◌∷◌, ◌++◌, Option, Some, None}
use Rattle.mav_names.specs.declared.names.Name.{Name}
use Rattle.mav_names.specs.Addresses.{same_name}
use Rattle.mav_frame.specs.Packet.{Packet}
use Rattle.mav_messages.specs.declared.commands.CommandLong.{CommandLong}
use Rattle.mav_messages.specs.declared.messages.Message.{Message}
use Rattle.mav_messages.specs.declared.messages.Message.TheVariants.{CommandLong as Commands}
use Rattle.command_proto.specs.declared.commands.Command.{Command}
use Rattle.command_proto.specs.Executor as executor
use Rattle.mav_nodes.specs.Payloads.{service_in}

-- COMMAND_LONG, if a message is one
abbrev pub command_in : Option Message → Option CommandLong
command_in None = None
command_in (Some (Commands m)) = Some m
command_in (Some _) = None

-- the COMMAND_LONG of a frame that the node of this name sent
abbrev pub commanded : Name → Packet → Option CommandLong
commanded name p = if same_name p.from name then command_in (service_in p.id p.payload) else None

-- what a command orders: its number and its seven parameters, of the node that it is for
pub record Order : Type 0 where
  pub target : Name
  pub command : Command

abbrev pub order_in : CommandLong → Order
order_in m = record {
  target = record { sys = m.target_system; comp = m.target_component };
  command = executor.command_in m;
}

-- 1 if it is the first frame of a line
abbrev pub begins : Option CommandLong → ℕ
begins None = 0
begins (Some m) = if m.confirmation == 0 then 1 else 0

-- the order of the line that begins with it
abbrev pub begins_with : Option CommandLong → List Order
begins_with None = []
begins_with (Some m) = if m.confirmation == 0 then order_in m ∷ [] else []

-- the orders of the node's lines that have begun with these frames, the first first
abbrev pub orders_begun : Name → List Packet → List Order
orders_begun name [] = []
orders_begun name (p ∷ ps) = begins_with (commanded name p) ++ orders_begun name ps

-- the number of the line that the frame with this index belongs to: how many have begun up to it, the frame included
abbrev pub line_at : Name → List Packet → ℕ → ℕ
line_at name [] index = 0
line_at name (p ∷ ps) zero = begins (commanded name p)
line_at name (p ∷ ps) (suc index) = begins (commanded name p) + line_at name ps index
