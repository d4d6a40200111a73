-- Drones and stations as nodes.
use Rattle.std.specs.Prelude.{ℕ, ◌≡◌, Bool, List, [], ◌∷◌, true, false, if◌then◌else◌, is_some, Option, Some, None}
use Rattle.mav_names.specs.declared.names.Stream.{Stream}
use Rattle.mav_names.specs.Addresses.{drone_stream}
use Rattle.plan_items.specs.declared.items.Item.{Item}
use Rattle.plan_items.specs.declared.kinds.PlanKind.TheVariants.{Mission, Fence, Rally}
use Rattle.plan_items.specs.declared.messages.PlanMsg.{PlanMsg}
use Rattle.plan_items.specs.Kinds.{number_of}
use Rattle.plan_upload.specs.declared.changes.Change.{Change}
use Rattle.plan_upload.specs.declared.changes.Change.TheVariants.{Same, Install, Empty}
use Rattle.plan_upload.specs.Changes.{change_by}
use Rattle.plan_upload.specs.Plans.{Plans, plan_at, no_plans}
use Rattle.plan_upload.specs.Drone.{DroneState, DroneTick, drone_step, drone_tick, fresh_drone}
use Rattle.plan_upload.specs.Station.{StationState, StationStep, Told, stays, station_step, station_tick}
use Rattle.plan_upload.specs.Station.{station_cancel, fresh_station, begin_upload, begin_clear, begin_get, untold}
use Rattle.mav_profile.specs.Messages.{extras_of}
use Rattle.mav_profile.specs.Profile.{profile_definitions}
use Rattle.mav_messages.specs.declared.messages.Message.{Message}
use Rattle.mav_messages.specs.declared.messages.Message.TheVariants.{Heartbeat}
use Rattle.plan_items.specs.Plans.{items_of}
use Rattle.plan_items.specs.declared.plans.Plan.{Plan}
use Rattle.plan_upload.specs.declared.faults.OpFault.{OpFault}
use Rattle.plan_upload.specs.declared.faults.OpFault.TheVariants.{NoMemory}
use Rattle.plan_upload.specs.Kinds.{clear_number}
use Rattle.plan_upload.specs.Refusals.{upload_refusal, refusal, first_of}
use Rattle.mav_nodes.specs.declared.orders.Order.{Order}
use Rattle.mav_nodes.specs.declared.orders.Order.TheVariants.{Begin, Cancel, Clear, Get, Command, ParamRead, ParamSet}
use Rattle.mav_nodes.specs.declared.orders.Order.TheVariants.{ParamList, File}
use Rattle.mav_nodes.specs.News.{NodeEvent, Installs, Empties, Ends}
use Rattle.command_proto.specs.Commander.{commands, open_command}
use Rattle.param_proto.specs.declared.params.Param.{Param}
use Rattle.param_proto.specs.Client.{reads, sets, lists}
use Rattle.mav_ftp.specs.declared.client.faults.FtpFault.{FtpFault}
use Rattle.mav_ftp.specs.Client.{FileOrder, order_fault as file_fault}
use Rattle.mav_nodes.specs.FileServices.{begins, file_order}
use Rattle.drone_sim.specs.declared.points.Point.{Point}
use Rattle.drone_sim.specs.Sim.{armed}
use Rattle.mav_nodes.specs.Services.{ServiceStep, DroneServices, StationServices, new_drone_services}
use Rattle.mav_nodes.specs.Services.{new_station_services, drone_serves, drone_notes, drone_flies, station_serves}
use Rattle.mav_nodes.specs.Services.{station_waits, command_of, asks_command, asks_params, asks_file, rests}
use Rattle.mav_nodes.specs.Links.{LinkView, Outcome, and_then, new_link, sends}
use Rattle.mav_nodes.specs.Steps.{Side, IsNode, Rules, CoreStep, with_core, steps, serves, receives, receives_keeping}

-- ---- a drone

abbrev pub DroneSide : Type 0
DroneSide = Side DroneState DroneServices

-- a change of a drone's plans by a stream; the plans are those after it
abbrev pub change_events : Stream → Plans → Change → List NodeEvent
change_events by plans Same = []
change_events by plans (Install kind) = Installs kind (plan_at plans (number_of kind)) by ∷ []
change_events by plans (Empty None) = Empties Mission ∷ Empties Fence ∷ Empties Rally ∷ []
change_events by plans (Empty (Some kind)) = Empties kind ∷ []

-- its core receives a plan message; `kept` says whether its store keeps what it changes
abbrev pub drone_core_keeping : Bool → DroneState → Stream → PlanMsg → CoreStep DroneState
drone_core_keeping kept drone from message =
    let step = drone_step kept drone from message in
    record {
      core = step.drone;
      first = change_events from step.drone.plans (change_by step.event);
      answer = step.answer;
      last = [];
    }

-- a store keeps what it changes
abbrev pub drone_core : DroneState → Stream → PlanMsg → CoreStep DroneState
drone_core drone from message = drone_core_keeping true drone from message

-- what it does at messages
abbrev pub drone_rules_keeping : Bool → Rules DroneState DroneServices
drone_rules_keeping kept = record { take = drone_core_keeping kept; note = drone_notes; serve = drone_serves }

abbrev pub drone_rules : Rules DroneState DroneServices
drone_rules = record { take = drone_core; note = drone_notes; serve = drone_serves }

-- a drone of that system, with empty plans, disarmed at its home, on link 0
abbrev pub new_drone : List ℕ → ℕ → Point → DroneSide
new_drone key sys home = record {
  link = new_link key (drone_stream sys) (extras_of profile_definitions);
  core = fresh_drone sys no_plans;
  services = new_drone_services sys home;
}

abbrev pub drone_receives : ℕ → List ℕ → DroneSide → Outcome DroneSide
drone_receives clock datagram node = receives drone_rules clock datagram node

-- the same with a store that may not keep what a step changes
abbrev pub drone_receives_keeping : ℕ → List Bool → List ℕ → DroneSide → Outcome DroneSide
drone_receives_keeping clock keeps datagram node = receives_keeping drone_rules_keeping clock keeps datagram node

-- what a tick sends, without the stream that it is for, which the message names too
abbrev pub tick_answer : Option (Stream × PlanMsg) → Option PlanMsg
tick_answer None = None
tick_answer (Some sent) = Some sent.1

abbrev pub drone_waits : DroneTick → CoreStep DroneState
drone_waits tick = record { core = tick.drone; first = []; answer = tick_answer tick.answer; last = [] }

-- one tick
abbrev pub drone_ticks : ℕ → DroneSide → Outcome DroneSide
drone_ticks clock node = steps clock node.link node.services (drone_waits (drone_tick node.core))

-- MAV_MODE_FLAG_SAFETY_ARMED of an armed drone
abbrev pub base_mode_of : Bool → ℕ
base_mode_of armed = if armed then 128 else 0

-- HEARTBEAT of a drone: a quadrotor with a generic autopilot, active (MAVLink guide, Heartbeat Protocol)
abbrev pub drone_heartbeat : Bool → Message
drone_heartbeat armed =
    Heartbeat (record {
      ty = 2;
      autopilot = 0;
      base_mode = base_mode_of armed;
      custom_mode = 0;
      system_status = 4;
      mavlink_version = 3;
    })

abbrev pub drone_beats : ℕ → DroneSide → Outcome DroneSide
drone_beats clock node = with_core node.core node.services []
    (sends clock (drone_heartbeat (armed node.services.sim)) node.link)

-- one tick of its simulator
abbrev pub drone_sims : ℕ → DroneSide → Outcome DroneSide
drone_sims clock node = serves clock node.link node.core (drone_flies node.core node.services)

-- what contracts see of a drone's node
pub record DroneView : Type 0 where
  pub link : LinkView
  pub drone : DroneState
  pub services : DroneServices

abbrev pub IsDrone : DroneSide → DroneView → Type 0
IsDrone node view = IsNode node view.link view.drone view.services

-- ---- a station

abbrev pub StationSide : Type 0
StationSide = Side StationState StationServices

abbrev pub told_events : Option Told → List NodeEvent
told_events None = []
told_events (Some told) = Ends told ∷ []

-- a step of its core: an outcome is returned at once
abbrev pub station_does : StationStep → CoreStep StationState
station_does step = record {
  core = untold step.station;
  first = [];
  answer = step.answer;
  last = told_events step.station.outcome;
}

abbrev pub station_core : StationState → Stream → PlanMsg → CoreStep StationState
station_core station from message = station_does (station_step station from message)

-- what it does at messages
abbrev pub station_rules : Rules StationState StationServices
station_rules = record { take = station_core; note = λ services events. services; serve = λ station. station_serves }

-- a station of that name, started at that time, with no PING number used
abbrev pub new_station : List ℕ → Stream → ℕ → StationSide
new_station key me boot = record {
  link = new_link key me (extras_of profile_definitions);
  core = fresh_station me.sys me.comp boot 0;
  services = new_station_services (record { sys = me.sys; comp = me.comp });
}

abbrev pub station_receives : ℕ → List ℕ → StationSide → Outcome StationSide
station_receives clock datagram node = receives station_rules clock datagram node

-- one tick: of its plan core, which reaches no outcome at a tick, and then of its services
abbrev pub services_tick : ℕ → StationSide → Outcome StationSide
services_tick clock node = serves clock node.link node.core (station_waits node.services)

abbrev pub station_ticks : ℕ → StationSide → Outcome StationSide
station_ticks clock node =
    and_then (steps clock node.link node.services (station_does (station_tick node.core))) (services_tick clock)

-- HEARTBEAT of a station: a ground station without an autopilot
abbrev pub station_heartbeat : Message
station_heartbeat =
    Heartbeat (record {
      ty = 6;
      autopilot = 8;
      base_mode = 0;
      custom_mode = 0;
      system_status = 4;
      mavlink_version = 3;
    })

abbrev pub station_beats : ℕ → StationSide → Outcome StationSide
station_beats clock node = with_core node.core node.services [] (sends clock station_heartbeat node.link)

-- it begins an upload
abbrev pub station_begins : ℕ → Stream → ℕ → List Item → StationSide → Outcome StationSide
station_begins clock drone kind plan node =
    steps clock node.link node.services (station_does (begin_upload node.core drone kind plan))

-- it gives up its operation
abbrev pub station_cancels : ℕ → StationSide → Outcome StationSide
station_cancels clock node = steps clock node.link node.services (station_does (station_cancel node.core))

-- it begins a clear of the plan of a kind, and with 255 of all three
abbrev pub station_clears : ℕ → Stream → ℕ → StationSide → Outcome StationSide
station_clears clock drone kind node = steps clock node.link node.services
    (station_does (begin_clear node.core drone kind))

-- it begins a download
abbrev pub station_gets : ℕ → Stream → ℕ → StationSide → Outcome StationSide
station_gets clock drone kind node = steps clock node.link node.services
    (station_does (begin_get node.core drone kind))

-- it gives a command, whose first parameter is this word
abbrev pub station_commands : ℕ → Stream → ℕ → ℕ → StationSide → Outcome StationSide
station_commands clock drone number word node =
    serves clock node.link node.core (asks_command node.services
    (commands node.services.commander drone (command_of number word)))

-- it reads a parameter, sets one, and lists all of them
abbrev pub station_reads_param : ℕ → Stream → List ℕ → StationSide → Outcome StationSide
station_reads_param clock drone id node =
    serves clock node.link node.core (asks_params node.services (reads node.services.client drone id))

abbrev pub station_sets_param : ℕ → Stream → Param → StationSide → Outcome StationSide
station_sets_param clock drone param node =
    serves clock node.link node.core (asks_params node.services (sets node.services.client drone param))

abbrev pub station_lists_params : ℕ → Stream → StationSide → Outcome StationSide
station_lists_params clock drone node = serves clock node.link node.core
    (asks_params node.services (lists node.services.client drone))

-- it begins an operation on files
abbrev pub station_transfers : ℕ → Stream → FileOrder → StationSide → Outcome StationSide
station_transfers clock drone order node =
    serves clock node.link node.core (asks_file node.services (begins node.services.files drone order))

pub record StationView : Type 0 where
  pub link : LinkView
  pub station : StationState
  pub services : StationServices

abbrev pub IsStation : StationSide → StationView → Type 0
IsStation node view = IsNode node view.link view.station view.services

-- an order of the mission protocol: what its core does
abbrev pub order_step : StationState → Order → StationStep
order_step station (Begin drone kind plan) = begin_upload station drone (number_of kind) (items_of plan)
order_step station Cancel = station_cancel station
order_step station (Clear drone kind) = begin_clear station drone (clear_number kind)
order_step station (Get drone kind) = begin_get station drone (number_of kind)
order_step station (Command drone number word) = stays station
order_step station (ParamRead drone id) = stays station
order_step station (ParamSet drone param) = stays station
order_step station (ParamList drone) = stays station
order_step station (File drone op) = stays station

-- an order to its services: what these do
abbrev pub service_step : StationServices → Order → ServiceStep StationServices
service_step v (Command drone number word) = asks_command v (commands v.commander drone (command_of number word))
service_step v (ParamRead drone id) = asks_params v (reads v.client drone id)
service_step v (ParamSet drone param) = asks_params v (sets v.client drone param)
service_step v (ParamList drone) = asks_params v (lists v.client drone)
service_step v (File drone op) = asks_file v (begins v.files drone (file_order op))
service_step v (Begin drone kind plan) = rests v
service_step v Cancel = rests v
service_step v (Clear drone kind) = rests v
service_step v (Get drone kind) = rests v

-- it is one to them
abbrev pub is_service : Order → Bool
is_service (Command drone number word) = true
is_service (ParamRead drone id) = true
is_service (ParamSet drone param) = true
is_service (ParamList drone) = true
is_service (File drone op) = true
is_service (Begin drone kind plan) = false
is_service Cancel = false
is_service (Clear drone kind) = false
is_service (Get drone kind) = false

-- an order: what the station does
abbrev pub station_obeys : ℕ → Order → StationSide → Outcome StationSide
station_obeys clock (Begin drone kind plan) node = station_begins clock drone (number_of kind) (items_of plan) node
station_obeys clock Cancel node = station_cancels clock node
station_obeys clock (Clear drone kind) node = station_clears clock drone (clear_number kind) node
station_obeys clock (Get drone kind) node = station_gets clock drone (number_of kind) node
station_obeys clock (Command drone number word) node = station_commands clock drone number word node
station_obeys clock (ParamRead drone id) node = station_reads_param clock drone id node
station_obeys clock (ParamSet drone param) node = station_sets_param clock drone param node
station_obeys clock (ParamList drone) node = station_lists_params clock drone node
station_obeys clock (File drone op) node = station_transfers clock drone (file_order op) node

-- why its core refuses an order
abbrev pub order_refusal : StationState → Order → Option OpFault
order_refusal station (Begin drone kind plan) = upload_refusal station (number_of kind) (items_of plan)
order_refusal station Cancel = None
order_refusal station (Clear drone kind) = refusal station
order_refusal station (Get drone kind) = refusal station
order_refusal station (Command drone number word) = None
order_refusal station (ParamRead drone id) = None
order_refusal station (ParamSet drone param) = None
order_refusal station (ParamList drone) = None
order_refusal station (File drone op) = None

-- why an order without a plan fails in the core: a download also fails if there is no memory for its buffer
abbrev pub order_fault : StationState → Order → Option OpFault
order_fault station (Begin drone kind plan) = None
order_fault station Cancel = None
order_fault station (Clear drone kind) = refusal station
order_fault station (Get drone kind) = first_of (refusal station) (Some NoMemory)
order_fault station (Command drone number word) = None
order_fault station (ParamRead drone id) = None
order_fault station (ParamSet drone param) = None
order_fault station (ParamList drone) = None
order_fault station (File drone op) = None

-- why its services refuse an order: a command is open, by its number
abbrev pub command_refusal : StationServices → Order → Option ℕ
command_refusal v (Command drone number word) = open_command v.commander
command_refusal v (Begin drone kind plan) = None
command_refusal v Cancel = None
command_refusal v (Clear drone kind) = None
command_refusal v (Get drone kind) = None
command_refusal v (ParamRead drone id) = None
command_refusal v (ParamSet drone param) = None
command_refusal v (ParamList drone) = None
command_refusal v (File drone op) = None

-- or something is asked of parameters already
abbrev pub params_refusal : StationServices → Order → Bool
params_refusal v (ParamRead drone id) = is_some v.client.operation
params_refusal v (ParamSet drone param) = is_some v.client.operation
params_refusal v (ParamList drone) = is_some v.client.operation
params_refusal v (File drone op) = false
params_refusal v (Begin drone kind plan) = false
params_refusal v Cancel = false
params_refusal v (Clear drone kind) = false
params_refusal v (Get drone kind) = false
params_refusal v (Command drone number word) = false

-- or what is asked of files
abbrev pub file_refusal : StationServices → Order → Option FtpFault
file_refusal v (File drone op) = file_fault v.files.transfer (file_order op)
file_refusal v (Begin drone kind plan) = None
file_refusal v Cancel = None
file_refusal v (Clear drone kind) = None
file_refusal v (Get drone kind) = None
file_refusal v (Command drone number word) = None
file_refusal v (ParamRead drone id) = None
file_refusal v (ParamSet drone param) = None
file_refusal v (ParamList drone) = None

-- no cause refuses it
pub record IsAccepted (station : StationView) (order : Order) : Type 0 where
  pub plan : order_refusal station.station order ≡ None
  pub command : command_refusal station.services order ≡ None
  pub params : params_refusal station.services order ≡ false
  pub file : file_refusal station.services order ≡ None

-- the plan that an order gives
abbrev pub order_plan : Order → Option Plan
order_plan (Begin drone kind plan) = Some plan
order_plan Cancel = None
order_plan (Clear drone kind) = None
order_plan (Get drone kind) = None
order_plan (Command drone number word) = None
order_plan (ParamRead drone id) = None
order_plan (ParamSet drone param) = None
order_plan (ParamList drone) = None
order_plan (File drone op) = None
