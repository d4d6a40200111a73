-- What a node does at a call or an order, and what the world reports of it.
use Rattle.std.specs.Prelude.{ℕ, ◌+◌, nat_le, if◌then◌else◌, Bool, true, false, List, [], ◌∷◌, ◌++◌, length, slice_get}
use Rattle.std.specs.Prelude.{Option, Some, None, Ok, Err}
use Rattle.std.specs.declared.result.Result.{Result}
use Rattle.mav_names.specs.declared.names.Name.{Name}
use Rattle.mav_nodes.specs.News.{NodeEvent}
use Rattle.mav_nodes.specs.Links.{Outcome, done}
use Rattle.mav_nodes.specs.Restarts.{drone_restarts}
use Rattle.mav_nodes.specs.Nodes.{DroneSide, StationSide, station_obeys, order_refusal, command_refusal}
use Rattle.mav_nodes.specs.Nodes.{params_refusal, file_refusal, order_plan}
use Rattle.mav_nodes.specs.declared.orders.Order.{Order}
use Rattle.mav_ftp.specs.declared.client.faults.FtpFault.{FtpFault}
use Rattle.plan_items.specs.declared.plans.Plan.{Plan}
use Rattle.plan_items.specs.Plans.{items_of}
use Rattle.plan_upload.specs.declared.faults.OpFault.{OpFault}
use Rattle.plan_upload.specs.Addresses.{node_of}
use Rattle.fleet_report.specs.Events.{Refused, Command_refused, Params_refused, Restarted}
use Rattle.node_reports.specs.Nodes.{Node, Drone, Station}
use Rattle.node_reports.specs.Calls.{as_drone, as_station, node_receives, node_beats, node_ticks, node_flies}
use Rattle.node_reports.specs.Reporting.{reported_by}
use Rattle.fleet_world.specs.declared.faults.Bound.TheVariants.{Frames}
use Rattle.fleet_world.specs.declared.calls.Call.{Call}
use Rattle.fleet_world.specs.declared.calls.Call.TheVariants.{Take, Noise, Heartbeat, Tick, Sim, Restart}
use Rattle.fleet_world.specs.WorldState.{WorldState}
use Rattle.fleet_world.specs.WorldView.{Kept, WorldView, bytes_of}
use Rattle.fleet_world.specs.Steps.{Step, StepError, At_limit, after_events, most_frames, packets_in, node_does}

-- a node of this name has done this: its frames are the next of the scenario
abbrev pub reports_news : WorldState → Name → List NodeEvent → Result Step StepError
reports_news s name events =
    if nat_le (length s.sent + length (packets_in events)) most_frames then Ok (record {
      state = record s { sent = s.sent ++ packets_in events };
      events = reported_by name (length s.sent) events;
    })
    else Err (At_limit Frames)

-- a drone ends, and starts again with what it has stored; a station goes on
abbrev pub node_restarts : List ℕ → ℕ → Node → Outcome Node
node_restarts key clock (Drone n) = as_drone (drone_restarts key clock n)
node_restarts key clock (Station n) = done (Station n) []

-- what a node does at a call; `datagram` is what it is to take
abbrev pub node_called : Call → List ℕ → ℕ → Node → Outcome Node
node_called (Take number) datagram clock node = node_receives clock datagram node
node_called (Noise bytes) datagram clock node = node_receives clock datagram node
node_called Heartbeat datagram clock node = node_beats clock node
node_called Tick datagram clock node = node_ticks clock node
node_called Sim datagram clock node = node_flies clock node
node_called (Restart key) datagram clock node = node_restarts key clock node

-- the datagram of a call, after these frames were sent
abbrev pub datagram_of : List Kept → Call → List ℕ
datagram_of sent (Take number) = bytes_of (slice_get sent number)
datagram_of sent (Noise bytes) = bytes
datagram_of sent Heartbeat = []
datagram_of sent Tick = []
datagram_of sent Sim = []
datagram_of sent (Restart key) = []

-- what a node of a world does at a call
abbrev pub called : WorldView → Call → Node → Outcome Node
called w call node = node_called call (datagram_of w.sent call) w.fleet.clock node

-- the draft after the plan of a refused order is handed back
abbrev pub handed_back : WorldState → Option Plan → WorldState
handed_back s None = s
handed_back s (Some plan) = record s { draft = items_of plan }

-- an order that isn't refused for another cause. No line asks for files, and nothing is reported if that is refused
abbrev pub obeys_unless : WorldState → ℕ → Name → StationSide → Order → Option FtpFault → Result Step StepError
obeys_unless s k name node order None = node_does s k name (as_station (station_obeys s.clock order node))
obeys_unless s k name node order (Some fault) = Ok (record { state = s; events = [] })

-- an order that a station's core refuses for that fault, that its services refuse since this command is open or since
-- something is asked of parameters, or that it follows
abbrev pub obeys_or : WorldState → ℕ → Name → StationSide → Order → Option OpFault → Option ℕ → Bool
    → Result Step StepError
obeys_or s k name node order (Some why) command params =
    Ok (record { state = handed_back s (order_plan order); events = Refused name why ∷ [] })
obeys_or s k name node order None (Some number) params = Ok (record { state = s; events = Command_refused name ∷ [] })
obeys_or s k name node order None None true = Ok (record { state = s; events = Params_refused name ∷ [] })
obeys_or s k name node order None None false = obeys_unless s k name node order (file_refusal node.services order)

abbrev pub obeys : WorldState → ℕ → Name → StationSide → Order → Result Step StepError
obeys s k name node order =
    obeys_or s k name node order (order_refusal node.core order) (command_refusal node.services order)
    (params_refusal node.services order)

-- a drone starts again, and is reported by this name
abbrev pub restarts_as : WorldState → ℕ → Name → DroneSide → Result Step StepError
restarts_as s k name node = after_events (Restarted name ∷ [])
    (node_does s k (node_of node.link.me) (as_drone (drone_restarts s.key s.clock node)))
