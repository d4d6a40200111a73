-- What a scenario line does to the world: the state after it and its events, or why it isn't done.
use Rattle.std.specs.Prelude.{ℕ, zero, suc, ◌+◌, ◌-◌, nat_lt, nat_le, if◌then◌else◌, List, [], ◌∷◌, ◌++◌, length}
use Rattle.std.specs.Prelude.{slice_get, slice_set, position, Option, Some, None, Ok, Err}
use Rattle.std.specs.declared.result.Result.{Result}
use Rattle.mav_names.specs.declared.names.Name.{Name}
use Rattle.mav_frame.specs.Packet.{Packet}
use Rattle.mav_frame.specs.Encoding.{encoding}
use Rattle.plan_items.specs.Kinds.{number_of}
use Rattle.plan_upload.specs.Kinds.{clear_number}
use Rattle.plan_upload.specs.declared.faults.OpFault.{OpFault}
use Rattle.plan_upload.specs.Addresses.{node_of, same_name}
use Rattle.plan_upload.specs.Refusals.{upload_refusal, refusal}
use Rattle.mav_nodes.specs.News.{NodeEvent, Sends, Installs, Empties, Drops, Ends, Ends_command, Gives_param}
use Rattle.mav_nodes.specs.News.{Ends_params, Reaches, Captures, Ends_file}
use Rattle.mav_nodes.specs.Links.{Outcome}
use Rattle.command_proto.specs.Commander.{open_command}
use Rattle.param_proto.specs.Client.{Operation as ParamOperation}
use Rattle.mav_nodes.specs.Restarts.{drone_restarts}
use Rattle.mav_nodes.specs.Nodes.{DroneSide, StationSide, new_drone, new_station, station_begins, station_cancels}
use Rattle.mav_nodes.specs.Nodes.{station_clears, station_gets, station_commands, station_lists_params}
use Rattle.scenario_lines.specs.declared.lines.Line.{Line}
use Rattle.scenario_lines.specs.declared.lines.Line.TheVariants.{Blank, Drone as DroneLine, Station as StationLine}
use Rattle.scenario_lines.specs.declared.lines.Line.TheVariants.{Item as OneItem, Items, Empty, Begin, Cancel, Clear}
use Rattle.scenario_lines.specs.declared.lines.Line.TheVariants.{Get, Command, Params, Heartbeat, Deliver, Flow, Noise}
use Rattle.scenario_lines.specs.declared.lines.Line.TheVariants.{Tick, Clock, Restart, Sim, WhereIs}
use Rattle.scenario_lines.specs.ItemRows.{items_from}
use Rattle.fleet_report.specs.Events.{Event, Missing, Restarted, Refused, Command_refused, Params_refused, Located}
use Rattle.fleet_report.specs.Events.{plan_text}
use Rattle.node_reports.specs.Nodes.{Node, Drone, Station, node_name}
use Rattle.node_reports.specs.Calls.{as_drone, as_station, node_receives, node_beats, node_ticks, node_flies}
use Rattle.node_reports.specs.Reporting.{reported_by}
use Rattle.fleet_world.specs.declared.locations.Location.{Location}
use Rattle.fleet_world.specs.declared.faults.Bound.{Bound}
use Rattle.fleet_world.specs.declared.faults.Bound.TheVariants.{Frames, Drones, Stations, Restarts}
use Rattle.fleet_world.specs.WorldState.{WorldState, stream_of, is_named, is_drone_named, is_station_named, drones_in}
use Rattle.fleet_world.specs.WorldState.{stations_in}

pub record Step : Type 0 where
  pub state : WorldState
  pub events : List Event

-- why a line isn't done: a limit is met, or a node has no timestamp left
pub data StepError : Type 0 where
  At_limit : (limit : Bound) → StepError
  Stamps_spent : StepError

-- nothing happens
abbrev pub rests : WorldState → Result Step StepError
rests s = Ok (record { state = s; events = [] })

-- one step after events that came before it
abbrev pub after_events : List Event → Result Step StepError → Result Step StepError
after_events events (Ok t) = Ok (record { state = t.state; events = events ++ t.events })
after_events events (Err error) = Err error

-- one step and then another
abbrev pub and_then : Result Step StepError → (WorldState → Result Step StepError) → Result Step StepError
and_then (Ok t) next = after_events t.events (next t.state)
and_then (Err error) next = Err error

abbrev pub most_frames : ℕ
most_frames = 100000

abbrev pub most_drones : ℕ
most_drones = 16

abbrev pub most_stations : ℕ
most_stations = 16

abbrev pub most_restarts : ℕ
most_restarts = 1000

-- ---- what a node does

-- the frames among what happened in a node
abbrev pub packets_in : List NodeEvent → List Packet
packets_in [] = []
packets_in (Sends packet message ∷ es) = packet ∷ packets_in es
packets_in (Installs kind items by ∷ es) = packets_in es
packets_in (Empties kind ∷ es) = packets_in es
packets_in (Drops answer ∷ es) = packets_in es
packets_in (Ends outcome ∷ es) = packets_in es
packets_in (Ends_command result ∷ es) = packets_in es
packets_in (Gives_param param ∷ es) = packets_in es
packets_in (Ends_params values ∷ es) = packets_in es
packets_in (Reaches item ∷ es) = packets_in es
packets_in (Captures total ∷ es) = packets_in es
packets_in (Ends_file end ∷ es) = packets_in es

-- the node at index `k` has done this: its frames are the next of the scenario
abbrev pub node_does : WorldState → ℕ → Name → Outcome Node → Result Step StepError
node_does s k name None = Err Stamps_spent
node_does s k name (Some d) =
    if nat_le (length s.sent + length (packets_in d.events)) most_frames then Ok (record {
      state = record s { nodes = slice_set s.nodes k d.node; sent = s.sent ++ packets_in d.events };
      events = reported_by name (length s.sent) d.events;
    })
    else Err (At_limit Frames)

-- the node at an index, and the one of a name, if there is one
abbrev pub calls_at : WorldState → ℕ → Option Node → (Node → Outcome Node) → Result Step StepError
calls_at s k None call = rests s
calls_at s k (Some node) call = node_does s k (node_name node) (call node)

abbrev pub calls_found : WorldState → Option ℕ → (Node → Outcome Node) → Result Step StepError
calls_found s None call = rests s
calls_found s (Some k) call = calls_at s k (slice_get s.nodes k) call

abbrev pub calls : WorldState → Name → (Node → Outcome Node) → Result Step StepError
calls s name call = calls_found s (position (is_named name) s.nodes) call

-- ---- frames that are given

-- a frame is given to a node as one datagram, unless the node is its sender
abbrev pub given_to : WorldState → ℕ → Packet → Option Node → Result Step StepError
given_to s k p None = rests s
given_to s k p (Some node) =
    if same_name (node_name node) p.from then rests s
    else node_does s k (node_name node) (node_receives s.clock (encoding p) node)

-- it is given to `n` nodes, from index `k` on
abbrev pub given_from : WorldState → ℕ → ℕ → Packet → Result Step StepError
given_from s k zero p = rests s
given_from s k (suc n) p = and_then (given_to s k p (slice_get s.nodes k)) (λ t. given_from t (k + 1) n p)

-- to every node but its sender, in the order in which they were named
abbrev pub given_to_all : WorldState → Packet → Result Step StepError
given_to_all s p = given_from s 0 (length s.nodes) p

-- the next frame of a flow, if there is one
abbrev pub flow_next : WorldState → Option Packet → (WorldState → Result Step StepError) → Result Step StepError
flow_next s None next = rests s
flow_next s (Some p) next = and_then (given_to_all (record s { given = s.given + 1 }) p) next

-- at most `k` frames are given
abbrev pub flows : ℕ → WorldState → Result Step StepError
flows zero s = rests s
flows (suc k) s = flow_next s (slice_get s.sent s.given) (flows k)

-- a sent frame is given to a node once more, also to its sender
abbrev pub delivers : WorldState → ℕ → Name → Option Packet → Result Step StepError
delivers s number name None = Ok (record { state = s; events = Missing number ∷ [] })
delivers s number name (Some p) = calls s name (node_receives s.clock (encoding p))

-- ---- drones that fly

-- n ticks of the simulator of the drone of this name
abbrev pub flies : ℕ → Name → WorldState → Result Step StepError
flies zero drone s = rests s
flies (suc n) drone s = and_then (calls s drone (node_flies s.clock)) (flies n drone)

-- where a drone is, and how many pictures it took since its start
abbrev pub drone_location : DroneSide → Location
drone_location n = record {
  x = n.services.sim.position.x;
  y = n.services.sim.position.y;
  captures = n.services.sim.captures;
}

abbrev pub location_of : Node → Option Location
location_of (Drone n) = Some (drone_location n)
location_of (Station n) = None

abbrev pub location_at : Option Node → Option Location
location_at None = None
location_at (Some node) = location_of node

-- of the drone of a name, if there is one
abbrev pub location_found : List Node → Option ℕ → Option Location
location_found nodes None = None
location_found nodes (Some k) = location_at (slice_get nodes k)

abbrev pub location_in : List Node → Name → Option Location
location_in nodes drone = location_found nodes (position (is_drone_named drone) nodes)

abbrev pub locates_as : WorldState → Name → Option Location → Result Step StepError
locates_as s drone None = rests s
locates_as s drone (Some at) = Ok (record { state = s; events = Located drone at.x at.y at.captures ∷ [] })

abbrev pub locates : WorldState → Name → Result Step StepError
locates s drone = locates_as s drone (location_in s.nodes drone)

-- ---- drones that start again

-- the drone at an index, and the one of a name, if there is one: that it starts again is reported before what it sends
abbrev pub restarts_at : WorldState → ℕ → Option Node → Result Step StepError
restarts_at s k None = rests s
restarts_at s k (Some (Station n)) = rests s
restarts_at s k (Some (Drone n)) =
    after_events (Restarted (node_of n.link.me) ∷ [])
    (node_does s k (node_of n.link.me) (as_drone (drone_restarts s.key s.clock n)))

abbrev pub restarts_found : WorldState → Option ℕ → Result Step StepError
restarts_found s None = rests s
restarts_found s (Some k) = restarts_at s k (slice_get s.nodes k)

abbrev pub starts_again : WorldState → Name → Result Step StepError
starts_again s drone = restarts_found s (position (is_drone_named drone) s.nodes)

-- it is counted
abbrev pub restart_line : WorldState → WorldState
restart_line s = record s { restarts = s.restarts + 1 }

-- ---- orders to stations

-- a station line: from here on frames are given by the flows that follow
abbrev pub station_line : WorldState → WorldState
station_line s = record s { given = length s.sent }

abbrev pub refuses : WorldState → StationSide → OpFault → Result Step StepError
refuses s node why = Ok (record { state = s; events = Refused (node_of node.link.me) why ∷ [] })

-- an order that the station refuses, or does
abbrev pub orders : WorldState → ℕ → StationSide → Option OpFault → Outcome StationSide → Result Step StepError
orders s k node (Some why) outcome = refuses s node why
orders s k node None outcome = node_does s k (node_of node.link.me) (as_station outcome)

-- an upload of the draft, which becomes empty; a refused one leaves it
abbrev pub upload_begins : WorldState → ℕ → StationSide → Name → ℕ → Option OpFault → Result Step StepError
upload_begins s k node drone kind (Some why) = refuses s node why
upload_begins s k node drone kind None =
    node_does (record s { draft = [] }) k (node_of node.link.me)
    (as_station (station_begins s.clock (stream_of drone) kind s.draft node))

-- the station at an index, and the one of a name, if there is one
abbrev pub orders_at : WorldState → ℕ → Option Node → (ℕ → StationSide → Result Step StepError) → Result Step StepError
orders_at s k None order = rests s
orders_at s k (Some (Drone n)) order = rests s
orders_at s k (Some (Station n)) order = order k n

abbrev pub orders_found : WorldState → Option ℕ → (ℕ → StationSide → Result Step StepError) → Result Step StepError
orders_found s None order = rests s
orders_found s (Some k) order = orders_at s k (slice_get s.nodes k) order

abbrev pub orders_to : WorldState → Name → (ℕ → StationSide → Result Step StepError) → Result Step StepError
orders_to s name order = orders_found s (position (is_station_named name) s.nodes) order

abbrev pub begins : WorldState → Name → Name → ℕ → Result Step StepError
begins s station drone kind = orders_to s station
    (λ k node. upload_begins s k node drone kind (upload_refusal node.core kind s.draft))

abbrev pub cancels : WorldState → Name → Result Step StepError
cancels s station = orders_to s station (λ k node. orders s k node None (station_cancels s.clock node))

abbrev pub clears : WorldState → Name → Name → ℕ → Result Step StepError
clears s station drone kind =
    orders_to s station (λ k node. orders s k node (refusal node.core)
    (station_clears s.clock (stream_of drone) kind node))

abbrev pub gets : WorldState → Name → Name → ℕ → Result Step StepError
gets s station drone kind =
    orders_to s station (λ k node. orders s k node (refusal node.core)
    (station_gets s.clock (stream_of drone) kind node))

-- an order to a station's services, which they refuse, as this event reports, or which is followed
abbrev pub asks : WorldState → ℕ → StationSide → Option Event → Outcome StationSide → Result Step StepError
asks s k node (Some refused) outcome = Ok (record { state = s; events = refused ∷ [] })
asks s k node None outcome = node_does s k (node_of node.link.me) (as_station outcome)

-- a command is refused while one is open
abbrev pub command_busy : Name → Option ℕ → Option Event
command_busy station None = None
command_busy station (Some number) = Some (Command_refused station)

-- and a list of parameters while something is asked of them
abbrev pub params_busy : Name → Option ParamOperation → Option Event
params_busy station None = None
params_busy station (Some operation) = Some (Params_refused station)

abbrev pub commands : WorldState → Name → Name → ℕ → ℕ → Result Step StepError
commands s station drone number word =
    orders_to s station (λ k node. asks s k node
    (command_busy (node_of node.link.me) (open_command node.services.commander))
    (station_commands s.clock (stream_of drone) number word node))

abbrev pub lists_params : WorldState → Name → Name → Result Step StepError
lists_params s station drone =
    orders_to s station (λ k node. asks s k node (params_busy (node_of node.link.me) node.services.client.operation)
    (station_lists_params s.clock (stream_of drone) node))

-- ---- lines

-- one node more
abbrev pub joins : WorldState → Node → Result Step StepError
joins s node = rests (record s { nodes = s.nodes ++ node ∷ [] })

-- one line
abbrev pub after_line : WorldState → Line → Result Step StepError
after_line s Blank = rests s
after_line s (DroneLine sys x y) =
    if nat_lt (drones_in s.nodes) most_drones then joins s (Drone (new_drone s.key sys (record { x = x; y = y })))
    else Err (At_limit Drones)
after_line s (StationLine sys comp) =
    if nat_lt (stations_in s.nodes) most_stations
    then joins s (Station (new_station s.key (stream_of (record { sys = sys; comp = comp })) 0))
    else Err (At_limit Stations)
after_line s (OneItem item) = rests (record s { draft = s.draft ++ item ∷ [] })
after_line s (Items n first) = rests (record s { draft = s.draft ++ items_from n first 0 })
after_line s Empty = rests (record s { draft = [] })
after_line s (Begin station drone kind) = begins (station_line s) station drone (number_of kind)
after_line s (Cancel station) = cancels (station_line s) station
after_line s (Clear station drone kind) = clears (station_line s) station drone (clear_number kind)
after_line s (Get station drone kind) = gets (station_line s) station drone (number_of kind)
after_line s (Command station drone number word) = commands (station_line s) station drone number word
after_line s (Params station drone) = lists_params (station_line s) station drone
after_line s (Heartbeat node) = calls s node (node_beats s.clock)
after_line s (Deliver number node) = delivers s number node (slice_get s.sent (number - 1))
after_line s (Flow k) = flows k s
after_line s (Noise node bytes) = calls s node (node_receives s.clock bytes)
after_line s (Tick node) = calls s node (node_ticks s.clock)
after_line s (Clock n) = rests (record s { clock = s.clock + n })
after_line s (Sim drone n) = flies n drone s
after_line s (WhereIs drone) = locates s drone
after_line s (Restart drone) = if nat_lt s.restarts most_restarts then starts_again (restart_line s) drone
    else Err (At_limit Restarts)

-- the closing plans: of each drone in the order named, and each kind
abbrev pub closing_of : Node → List ℕ
closing_of (Drone n) =
    plan_text (node_of n.link.me) 0 n.core.plans.mission ++ plan_text (node_of n.link.me) 1 n.core.plans.fence
    ++ plan_text (node_of n.link.me) 2 n.core.plans.rally
closing_of (Station n) = []

abbrev pub closing_text : List Node → List ℕ
closing_text [] = []
closing_text (n ∷ ns) = closing_of n ++ closing_text ns
