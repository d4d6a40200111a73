-- What happens in a scenario, and what the report prints of it.
use Rattle.std.specs.Prelude.{ℕ, ℤ, if◌then◌else◌, Bool, List, [], ◌∷◌, ◌++◌, length, codes, Option}
use Rattle.std.specs.Fmt.{decimal}
use Rattle.hex.specs.Hex.{encode_lower}
use Rattle.mav_names.specs.declared.names.Name.{Name}
use Rattle.plan_items.specs.declared.items.Item.{Item}
use Rattle.plan_upload.specs.declared.faults.OpFault.{OpFault}
use Rattle.plan_upload.specs.Station.{Told}
use Rattle.mav_frame.specs.Packet.{Packet}
use Rattle.mav_frame.specs.Encoding.{encoding}
use Rattle.mav_messages.specs.declared.messages.Message.{Message}
use Rattle.param_proto.specs.declared.params.Param.{Param}
use Rattle.mav_sign.specs.declared.admission.Admit.{Admit}
use Rattle.fleet_report.specs.Texts.{space, newline, name_text, kind_text, location_text, message_text, items_text}
use Rattle.fleet_report.specs.Texts.{code_of, refusal_text, outcome_text, param_text, result_text, values_text}

pub data Event : Type 0 where
  Sent : (number : ℕ) (packet : Packet) (message : Message) → Event  -- the number-th frame of the scenario
  Installed : (drone : Name) (kind : ℕ) (items : List Item) (by : Name) → Event
  Emptied : (drone : Name) (kind : ℕ) → Event
  Dropped : (node : Name) (answer : Admit) → Event  -- a frame that the node didn't admit
  Missing : (number : ℕ) → Event  -- no frame of that number was sent
  Restarted : (drone : Name) → Event  -- it starts again
  Refused : (station : Name) (why : OpFault) → Event
  Ended : (station : Name) (outcome : Told) → Event
  Command_ended : (station : Name) (result : Option ℕ) → Event  -- by the drone's result, or without an answer
  -- a list of all, or a request without an answer
  Params_ended : (station : Name) (values : Option (List Param)) → Event
  Param_given : (station : Name) (param : Param) → Event  -- a read or a set ended
  Command_refused : (station : Name) → Event  -- a command is open
  Params_refused : (station : Name) → Event  -- a request for parameters is open
  Reached : (drone : Name) (item : ℕ) → Event  -- its flight reached an item of its mission, counted from 0
  Captured : (drone : Name) (total : ℕ) → Event  -- it took a picture, the total-th since its start
  -- where it is, in units of 1e-7 degrees, and how many pictures it took
  Located : (drone : Name) (x y : ℤ) (captures : ℕ) → Event

-- the whole frame in hexadecimal digits, if frames are printed
abbrev pub frame_text : Bool → Packet → List ℕ
frame_text frames packet = if frames then space ++ encode_lower (encoding packet) ++ newline else []

-- an installed plan of so many items
abbrev pub installed_text : Name → ℕ → ℕ → Name → List ℕ
installed_text drone kind count by =
    codes "install " ++ name_text drone ++ space ++ kind_text kind ++ space ++ decimal count ++ codes " from "
    ++ name_text by ++ newline

-- whether frames are printed whole comes first
abbrev pub event_text : Bool → Event → List ℕ
event_text frames (Sent number packet message) =
    decimal number ++ space ++ name_text packet.from ++ space ++ message_text message ++ newline
    ++ frame_text frames packet
event_text frames (Installed drone kind items by) = installed_text drone kind (length items) by
event_text frames (Emptied drone kind) = codes "clear " ++ name_text drone ++ space ++ kind_text kind ++ newline
event_text frames (Dropped node answer) =
    codes "drop " ++ name_text node ++ space ++ decimal (code_of answer) ++ newline
event_text frames (Missing number) = codes "no frame " ++ decimal number ++ newline
event_text frames (Restarted drone) = codes "restart " ++ name_text drone ++ newline
event_text frames (Refused station why) = codes "refused " ++ name_text station ++ space ++ refusal_text why ++ newline
event_text frames (Ended station outcome) = codes "outcome " ++ name_text station ++ space ++ outcome_text outcome
event_text frames (Command_ended station result) =
    codes "command " ++ name_text station ++ space ++ result_text result ++ newline
event_text frames (Params_ended station values) =
    codes "params " ++ name_text station ++ space ++ values_text station values
event_text frames (Param_given station param) = param_text station param
event_text frames (Command_refused station) = codes "refused " ++ name_text station ++ codes " command busy" ++ newline
event_text frames (Params_refused station) = codes "refused " ++ name_text station ++ codes " params busy" ++ newline
event_text frames (Reached drone item) = codes "reached " ++ name_text drone ++ space ++ decimal item ++ newline
event_text frames (Captured drone total) = codes "captured " ++ name_text drone ++ space ++ decimal total ++ newline
event_text frames (Located drone x y captures) =
    codes "at " ++ name_text drone ++ space ++ location_text x y ++ codes " captured " ++ decimal captures ++ newline

abbrev pub events_text : Bool → List Event → List ℕ
events_text frames [] = []
events_text frames (e ∷ es) = event_text frames e ++ events_text frames es

-- a plan at the end: its line, and one for each item
abbrev pub plan_text : Name → ℕ → List Item → List ℕ
plan_text drone kind items =
    codes "plan " ++ name_text drone ++ space ++ kind_text kind ++ space ++ decimal (length items) ++ newline
    ++ items_text 0 items
