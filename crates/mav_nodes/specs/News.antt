-- What happens to a node, and what its calls report of it.
use Rattle.std.specs.Prelude.{ℕ, List, length, map, Option, Some, None}
use Rattle.mav_names.specs.declared.names.Stream.{Stream}
use Rattle.plan_items.specs.declared.items.Item.{Item}
use Rattle.plan_items.specs.declared.kinds.PlanKind.{PlanKind}
use Rattle.plan_upload.specs.Station.{Told}
use Rattle.plan_upload.specs.Outcomes.{told_of}
use Rattle.mav_frame.specs.Packet.{Packet}
use Rattle.mav_messages.specs.declared.messages.Message.{Message}
use Rattle.mav_sign.specs.declared.admission.Admit.{Admit}
use Rattle.param_proto.specs.declared.params.Param.{Param}
use Rattle.mav_nodes.specs.declared.news.FileEnd.{FileEnd}
use Rattle.mav_nodes.specs.declared.news.News.{News}
use Rattle.mav_nodes.specs.declared.news.News.TheVariants.{Sent, Installed, Emptied, Dropped, Outcome, Command}
use Rattle.mav_nodes.specs.declared.news.News.TheVariants.{Param as Told_param, Params, Reached, Captured, File}

pub data NodeEvent : Type 0 where
  -- a frame was sent, which carries the message
  Sends : (packet : Packet) (message : Message) → NodeEvent
  -- a plan was installed, uploaded by a stream
  Installs : (kind : PlanKind) (items : List Item) (by : Stream) → NodeEvent
  -- the plan of a kind was emptied
  Empties : (kind : PlanKind) → NodeEvent
  -- a frame was not admitted
  Drops : (answer : Admit) → NodeEvent
  -- an operation has ended
  Ends : (told : Told) → NodeEvent
  -- a command has ended: with its result, or without an acknowledgement
  Ends_command : (result : Option ℕ) → NodeEvent
  -- a parameter was read or set: its value
  Gives_param : (param : Param) → NodeEvent
  -- a list of parameters has ended, with its values; or what was asked of parameters has ended without an answer
  Ends_params : (values : Option (List Param)) → NodeEvent
  -- a drone reached the item of this number
  Reaches : (number : ℕ) → NodeEvent
  -- a drone took a picture, and so many with it
  Captures : (total : ℕ) → NodeEvent
  -- what was asked of files has ended
  Ends_file : (end : FileEnd) → NodeEvent

-- what news report of an event: of an installed plan, how many items it has, and of a list of parameters, how many
-- they are
pub data Shown : Type 0 where
  Shows_sent : (packet : Packet) (message : Message) → Shown
  Shows_installed : (kind : PlanKind) (count : ℕ) (by : Stream) → Shown
  Shows_emptied : (kind : PlanKind) → Shown
  Shows_dropped : (answer : Admit) → Shown
  Shows_ended : (told : Told) → Shown
  Shows_command : (result : Option ℕ) → Shown
  Shows_param : (param : Param) → Shown
  Shows_params : (count : Option ℕ) → Shown
  Shows_reached : (number : ℕ) → Shown
  Shows_captured : (total : ℕ) → Shown
  Shows_file : (end : FileEnd) → Shown

-- how many values there are, if there are any
abbrev pub counted : Option (List Param) → Option ℕ
counted None = None
counted (Some values) = Some (length values)

abbrev pub shown : NodeEvent → Shown
shown (Sends packet message) = Shows_sent packet message
shown (Installs kind items by) = Shows_installed kind (length items) by
shown (Empties kind) = Shows_emptied kind
shown (Drops answer) = Shows_dropped answer
shown (Ends told) = Shows_ended told
shown (Ends_command result) = Shows_command result
shown (Gives_param param) = Shows_param param
shown (Ends_params values) = Shows_params (counted values)
shown (Reaches number) = Shows_reached number
shown (Captures total) = Shows_captured total
shown (Ends_file end) = Shows_file end

-- what a piece of news reports
abbrev pub said_by : News → Shown
said_by (Sent frame message) = Shows_sent frame message
said_by (Installed kind count by) = Shows_installed kind count by
said_by (Emptied kind) = Shows_emptied kind
said_by (Dropped answer) = Shows_dropped answer
said_by (Outcome outcome) = Shows_ended (told_of outcome)
said_by (Command result) = Shows_command result
said_by (Told_param param) = Shows_param param
said_by (Params count) = Shows_params count
said_by (Reached number) = Shows_reached number
said_by (Captured total) = Shows_captured total
said_by (File end) = Shows_file end

abbrev pub events_of : List News → List Shown
events_of news = map said_by news
