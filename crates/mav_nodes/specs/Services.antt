-- The services of a node beside its plan core: a drone's commands, parameters, files and simulator, and a station's
-- commands, parameters and file transfer.
use Rattle.std.specs.Prelude.{ℕ, ℤ, pos, negsuc, ◌+◌, ◌-◌, ◌/◌, ◌%◌, ◌^◌, Bool, true, false, if◌then◌else◌, List, []}
use Rattle.std.specs.Prelude.{◌∷◌, ◌++◌, length, replicate, zero, suc, codes, Option, Some, None, unwrap_or}
use Rattle.std.specs.List.{list_any}
use Rattle.std.specs.Int.{w32, cast_unsigned, cast_signed}
use Rattle.mav_names.specs.declared.names.Name.{Name}
use Rattle.mav_names.specs.declared.names.Stream.{Stream}
use Rattle.mav_names.specs.Addresses.{drone_name}
use Rattle.plan_items.specs.declared.items.Item.{Item}
use Rattle.plan_items.specs.declared.actions.Action.{Action}
use Rattle.plan_items.specs.declared.kinds.PlanKind.TheVariants.{Mission}
use Rattle.plan_upload.specs.Drone.{DroneState}
use Rattle.drone_sim.specs.declared.points.Point.{Point}
use Rattle.drone_sim.specs.Sim.{SimState, SimTick, new_sim, armed, acts, changes, sim_tick}
use Rattle.mav_messages.specs.declared.messages.Message.{Message}
use Rattle.mav_messages.specs.declared.messages.Message.TheVariants.{GlobalPositionInt, MissionItemReached}
use Rattle.command_proto.specs.declared.executor.Ready.{Ready}
use Rattle.command_proto.specs.declared.commands.Command.{Command}
use Rattle.command_proto.specs.Executor.{ExecutorState, ExecutorStep, new_executor, executor_step}
use Rattle.command_proto.specs.Commander.{CommanderState, CommanderStep, CommandEnd, Result}
use Rattle.command_proto.specs.Commander.{No_answer as No_command_answer, new_commander, commander_step}
use Rattle.command_proto.specs.Commander.{commander_tick}
use Rattle.param_proto.specs.declared.params.Param.{Param}
use Rattle.param_proto.specs.Server.{ServerState, new_server, server_step, place_of, word_in}
use Rattle.param_proto.specs.Client.{ClientState, ClientStep, ParamsEnd, One_value, All_values}
use Rattle.param_proto.specs.Client.{No_answer as No_params_answer, new_client, client_step, client_tick}
use Rattle.mav_ftp.specs.Server.{FilesState, no_files}
use Rattle.mav_nodes.specs.declared.news.FileEnd.{FileEnd}
use Rattle.mav_nodes.specs.News.{NodeEvent, Installs, Empties, Ends_command, Gives_param, Ends_params, Reaches}
use Rattle.mav_nodes.specs.News.{Captures, Ends_file}
use Rattle.mav_nodes.specs.FileServices.{FilesStep, StationFiles, TransferStep, files_step, new_station_files}
use Rattle.mav_nodes.specs.FileServices.{transfer_heard, transfer_waits}

-- what the services of a node do at a message, a tick or an order: the services after it, the messages that are sent,
-- and what ends with it
pub record ServiceStep (Services : Type 0) : Type 0 where
  pub services : Services
  pub answers : List Message
  pub last : List NodeEvent

-- a message, if there is one
abbrev pub sent_of : Option Message → List Message
sent_of None = []
sent_of (Some message) = message ∷ []

-- ---- a drone's

-- the drone that is simulated, with the time of its simulator in milliseconds, its commands, its parameters, and its
-- files
pub record DroneServices : Type 0 where
  pub sim : SimState
  pub time : ℕ
  pub executor : ExecutorState
  pub server : ServerState
  pub files : FilesState

-- ---- its parameters

-- an id of 16 bytes
abbrev pub id_of : List ℕ → List ℕ
id_of name = name ++ replicate (16 - length name) 0

-- MAV_PARAM_TYPE_INT32 and UINT32
abbrev pub int_param : List ℕ → ℤ → Param
int_param name number = record { id = id_of name; ty = 6; word = cast_unsigned w32 number }

abbrev pub word_param : List ℕ → Param
word_param name = record { id = id_of name; ty = 5; word = 0 }

-- SIM_USER_01 to SIM_USER_36
abbrev pub user_param : ℕ → Param
user_param n = word_param (codes "SIM_USER_" ++ ((48 + n / 10) ∷ (48 + n % 10) ∷ []))

abbrev pub user_params_from : ℕ → ℕ → List Param
user_params_from zero n = []
user_params_from (suc more) n = user_param n ∷ user_params_from more (n + 1)

-- the step of its simulator, its home, its name, and what users keep
abbrev pub drone_params : Point → List Param
drone_params home =
    record { id = id_of (codes "SIM_STEP"); ty = 6; word = 1000 } ∷ int_param (codes "SIM_HOME_X") home.x
    ∷ int_param (codes "SIM_HOME_Y") home.y
    ∷ word_param (codes "SIM_NAME") ∷ user_params_from 36 1

-- the services of a drone of that system at its start: it is disarmed at its home
abbrev pub new_drone_services : ℕ → Point → DroneServices
new_drone_services sys home = record {
  sim = new_sim home;
  time = 0;
  executor = new_executor (drone_name sys);
  server = new_server (drone_params home);
  files = no_files;
}

-- ---- what they do

abbrev pub has_items : List Item → Bool
has_items [] = false
has_items (item ∷ items) = true

-- a command that starts a mission needs an armed drone with a mission
abbrev pub ready_of : DroneState → DroneServices → Ready
ready_of drone v = record { armed = armed v.sim; planned = has_items drone.plans.mission }

abbrev pub acts_by : SimState → Option Action → SimState
acts_by sim None = sim
acts_by sim (Some action) = acts sim action

-- what its executor and its parameters do; the answers of the parameters are all taken
abbrev pub drone_executes : DroneServices → ExecutorStep → ServerState → ServiceStep DroneServices
drone_executes v e s = record {
  services = record v { sim = acts_by v.sim e.action; executor = e.executor; server = record s { waiting = [] } };
  answers = sent_of e.answer ++ s.waiting;
  last = [];
}

-- then its files
abbrev pub drone_served : DroneServices → ExecutorStep → ServerState → FilesStep → ServiceStep DroneServices
drone_served v e s f = record {
  services = record v {
    sim = acts_by v.sim e.action;
    executor = e.executor;
    server = record s { waiting = [] };
    files = f.files;
  };
  answers = (sent_of e.answer ++ s.waiting) ++ f.answers;
  last = [];
}

-- a message that is none of the mission protocol
abbrev pub drone_serves : DroneState → DroneServices → Stream → Message → ServiceStep DroneServices
drone_serves drone v from message =
    drone_served v (executor_step v.executor from message (ready_of drone v))
    (server_step v.server v.executor.me message) (files_step v.files v.executor.me from message)

-- the mission is installed or emptied
abbrev pub changes_mission : NodeEvent → Bool
changes_mission (Installs Mission items by) = true
changes_mission (Empties Mission) = true
changes_mission event = false

-- what a drone makes of a step of its plan core: its simulator is told of a change of the mission
abbrev pub drone_notes : DroneServices → List NodeEvent → DroneServices
drone_notes v events = if list_any changes_mission events then record v { sim = changes v.sim } else v

-- ---- a tick of its simulator

-- a step as SIM_STEP has it: one below 1 acts as 1
abbrev pub step_of : ℤ → ℕ
step_of (pos zero) = 1
step_of (pos (suc n)) = suc n
step_of (negsuc n) = 1

-- the value of SIM_STEP
abbrev pub sim_step : ServerState → ℕ
sim_step server = step_of (cast_signed w32
    (unwrap_or (word_in server.params (place_of server.params (id_of (codes "SIM_STEP")))) 0))

-- GLOBAL_POSITION_INT, at a time in milliseconds: the latitude and the longitude; the heading is unknown
abbrev pub position_message : ℕ → Point → Message
position_message time position = GlobalPositionInt (record {
  time_boot_ms = time;
  lat = position.x;
  lon = position.y;
  alt = pos 0;
  relative_alt = pos 0;
  vx = pos 0;
  vy = pos 0;
  vz = pos 0;
  hdg = 65535;
})

-- MISSION_ITEM_REACHED
abbrev pub reached_message : ℕ → Message
reached_message number = MissionItemReached (record { seq = number })

abbrev pub reached_messages : Option ℕ → List Message
reached_messages None = []
reached_messages (Some number) = reached_message number ∷ []

abbrev pub reached_events : Option ℕ → List NodeEvent
reached_events None = []
reached_events (Some number) = Reaches number ∷ []

abbrev pub captured_events : Bool → ℕ → List NodeEvent
captured_events captured total = if captured then Captures total ∷ [] else []

-- a second later
abbrev pub next_time : ℕ → ℕ
next_time time = (time + 1000) % 2 ^ 32

-- it says where it is and which item it has reached; and then what it reached, and how many pictures it has taken
abbrev pub drone_flown : DroneServices → SimTick → ServiceStep DroneServices
drone_flown v tick = record {
  services = record v { sim = tick.sim; time = next_time v.time };
  answers = position_message (next_time v.time) tick.sim.position ∷ reached_messages tick.reached;
  last = reached_events tick.reached ++ captured_events tick.captured tick.sim.captures;
}

abbrev pub drone_flies : DroneState → DroneServices → ServiceStep DroneServices
drone_flies drone v = drone_flown v (sim_tick v.sim drone.plans.mission (sim_step v.server))

-- ---- a station's

pub record StationServices : Type 0 where
  pub commander : CommanderState
  pub client : ClientState
  pub files : StationFiles

abbrev pub new_station_services : Name → StationServices
new_station_services me = record { commander = new_commander me; client = new_client me; files = new_station_files me }

abbrev pub result_of : CommandEnd → Option ℕ
result_of (Result result) = Some result
result_of No_command_answer = None

abbrev pub command_events : Option CommandEnd → List NodeEvent
command_events None = []
command_events (Some end) = Ends_command (result_of end) ∷ []

abbrev pub params_event : ParamsEnd → NodeEvent
params_event (One_value param) = Gives_param param
params_event (All_values values) = Ends_params (Some values)
params_event No_params_answer = Ends_params None

abbrev pub params_events : Option ParamsEnd → List NodeEvent
params_events None = []
params_events (Some end) = params_event end ∷ []

abbrev pub file_events : Option FileEnd → List NodeEvent
file_events None = []
file_events (Some end) = Ends_file end ∷ []

-- commands come before parameters
abbrev pub station_asked : StationServices → CommanderStep → ClientStep → ServiceStep StationServices
station_asked v c p = record {
  services = record v { commander = c.commander; client = p.client };
  answers = sent_of c.answer ++ sent_of p.answer;
  last = command_events c.end ++ params_events p.end;
}

-- and these before files
abbrev pub station_served : CommanderStep → ClientStep → TransferStep → ServiceStep StationServices
station_served c p f = record {
  services = record { commander = c.commander; client = p.client; files = f.files };
  answers = (sent_of c.answer ++ sent_of p.answer) ++ f.answers;
  last = (command_events c.end ++ params_events p.end) ++ file_events f.end;
}

-- a message that is none of the mission protocol, and a tick
abbrev pub station_serves : StationServices → Stream → Message → ServiceStep StationServices
station_serves v from message =
    station_served (commander_step v.commander from message) (client_step v.client from message)
    (transfer_heard v.files from message)

abbrev pub station_waits : StationServices → ServiceStep StationServices
station_waits v = station_served (commander_tick v.commander) (client_tick v.client) (transfer_waits v.files)

-- ---- what a station is asked

-- a command, whose first parameter is this word
abbrev pub command_of : ℕ → ℕ → Command
command_of number word = record { number = number; params = word ∷ replicate 6 0 }

abbrev pub asks_command : StationServices → CommanderStep → ServiceStep StationServices
asks_command v c = record { services = record v { commander = c.commander }; answers = sent_of c.answer; last = [] }

abbrev pub asks_params : StationServices → ClientStep → ServiceStep StationServices
asks_params v p = record { services = record v { client = p.client }; answers = sent_of p.answer; last = [] }

abbrev pub asks_file : StationServices → TransferStep → ServiceStep StationServices
asks_file v f = record { services = record v { files = f.files }; answers = f.answers; last = [] }

abbrev pub rests : StationServices → ServiceStep StationServices
rests v = record { services = v; answers = []; last = [] }
