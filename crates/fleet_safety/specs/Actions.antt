-- The actions of a scenario: the smallest things that happen in it, one call of one node at one frame. The functions
-- follow those of a line's step (`after_line` of fleet_world), line by line and call by call.
use Rattle.std.specs.Prelude.{ℕ, ◌+◌, ◌-◌, zero, suc, Bool, true, false, if◌then◌else◌, List, [], ◌∷◌, ◌++◌, length}
use Rattle.std.specs.Prelude.{slice_get, slice_set, position, Option, Some, None, unwrap_or, Ok, Err}
use Rattle.std.specs.declared.result.Result.{Result}
use Rattle.std.specs.Str.{bytes_eq}
use Rattle.mav_names.specs.declared.names.Name.{Name}
use Rattle.mav_names.specs.declared.names.Stream.{Stream}
use Rattle.mav_frame.specs.Packet.{Packet, SignatureBlock}
use Rattle.mav_frame.specs.Encoding.{encoding}
use Rattle.mav_frame.specs.FinalParse.{final_parse}
use Rattle.mav_sign.specs.declared.admission.Admit.{Admit}
use Rattle.mav_sign.specs.declared.admission.Admit.TheVariants.{Admitted, Unsigned, BadSignature, BelowFloor, NotLater}
use Rattle.mav_sign.specs.declared.admission.Admit.TheVariants.{TooOld, TooManyStreams}
use Rattle.mav_sign.specs.History.{next_in, answer_to}
use Rattle.mav_sign.specs.Endpoints.{frames_of}
use Rattle.plan_items.specs.declared.items.Item.{Item}
use Rattle.plan_items.specs.declared.kinds.PlanKind.{PlanKind}
use Rattle.plan_items.specs.declared.messages.PlanMsg.{PlanMsg}
use Rattle.plan_items.specs.Kinds.{number_of}
use Rattle.mav_messages.specs.Plans.{plan_of}
use Rattle.command_proto.specs.Commander.{open_command}
use Rattle.plan_upload.specs.declared.faults.OpFault.{OpFault}
use Rattle.plan_upload.specs.Addresses.{node_of, same_name}
use Rattle.plan_upload.specs.Kinds.{clear_number}
use Rattle.plan_upload.specs.Refusals.{upload_refusal, refusal}
use Rattle.plan_upload.specs.Station.{Operation}
use Rattle.plan_safety.specs.World as world
use Rattle.plan_safety.specs.World.{Begins, Clears, Gets, Cancels, Hands_out, Drone_ticks, Station_ticks, To_drone}
use Rattle.plan_safety.specs.World.{To_station, Speaks, Drone_waits, Station_waits, Restarts}
use Rattle.mav_nodes.specs.Links.{Done, Outcome}
use Rattle.mav_nodes.specs.LowBounds.{stored_low}
use Rattle.mav_nodes.specs.Restarts.{restarted_drone}
use Rattle.mav_nodes.specs.Payloads.{plan_in}
use Rattle.mav_nodes.specs.Steps.{hears}
use Rattle.mav_nodes.specs.News.{NodeEvent, Sends, Installs, Empties, Drops, Ends, Ends_command, Gives_param}
use Rattle.mav_nodes.specs.News.{Ends_params, Reaches, Captures, Ends_file}
use Rattle.mav_nodes.specs.Nodes.{DroneSide, StationSide, drone_rules, station_rules, station_cancels, station_clears}
use Rattle.mav_nodes.specs.Nodes.{station_gets, station_commands, station_lists_params}
use Rattle.scenario_lines.specs.declared.lines.Line.{Line}
use Rattle.scenario_lines.specs.declared.lines.Line.TheVariants as line
use Rattle.fleet_report.specs.Events.{Event, Restarted}
use Rattle.node_reports.specs.Nodes.{Node, Drone, Station, node_name}
use Rattle.node_reports.specs.Calls.{as_drone, as_station, node_beats, node_ticks, node_flies}
use Rattle.node_reports.specs.Reporting.{reported_by}
use Rattle.fleet_world.specs.WorldState.{WorldState, stream_of, is_named, is_drone_named, is_station_named}
use Rattle.fleet_world.specs.Steps.{Step, StepError, packets_in, node_does, given_to, given_to_all, delivers}
use Rattle.fleet_world.specs.Steps.{station_line, restart_line, orders, upload_begins, asks, command_busy, params_busy}
use Rattle.fleet_world.specs.Steps.{after_line, calls, locates}
use Rattle.fleet_world.specs.Scenario.{ScenarioError, Played, at_start, line_played, lines_played}
use Rattle.scenario_lines.specs.FileLines.{whole_lines, unfinished, without_cr}
use Rattle.fleet_world.specs.Authentic.{line_done}
use Rattle.fleet_invariants.specs.Sound.{link_of}

-- an order that a station accepts
pub data Order : Type 0 where
  Accepts_upload : (station drone : Stream) (kind : ℕ) (plan : List Item) → Order
  Accepts_clear : (station drone : Stream) (kind : ℕ) → Order
  Accepts_get : (station drone : Stream) (kind : ℕ) → Order
  Accepts_cancel : (station : Stream) → Order

-- one call of one node, at one frame; or the end of a line
pub record Action : Type 0 where
  pub number : ℕ  -- of the line that it belongs to
  pub events : List world.Event  -- what happens in the world of messages
  pub orders : List Order  -- the order that it is, if a station accepts it
  pub report : List Event  -- what the report says of it
  pub state : WorldState  -- the state after it

-- ---- what a call is in the world of messages

-- the node waits until the timestamp that it signs next, and this happens to it; a station then hands out its outcome
abbrev pub moves : ℕ → Node → world.Event → List world.Event
moves clock (Drone a) e = Drone_waits a.link.me (next_in a.link.history clock) ∷ e ∷ []
moves clock (Station a) e = Station_waits a.link.me (next_in a.link.history clock) ∷ e ∷ Hands_out a.link.me ∷ []

-- a tick
abbrev pub ticks : Node → world.Event
ticks (Drone a) = Drone_ticks a.link.me
ticks (Station a) = Station_ticks a.link.me

-- the sent frame with this index comes to it (the newest has the index 0); drones keep what they install
abbrev pub comes_to : Node → ℕ → world.Event
comes_to (Drone a) index = To_drone index a.link.me true
comes_to (Station a) index = To_station index a.link.me

-- the index of the sent frame with these bytes: how many were sent after it
abbrev pub index_of : List ℕ → List Packet → Option ℕ
index_of bytes [] = None
index_of bytes (q ∷ qs) = if bytes_eq (encoding q) bytes then Some (length qs) else index_of bytes qs

-- ---- messages of other services

-- the node waits until a timestamp
abbrev pub waits : Node → ℕ → world.Event
waits (Drone a) = Drone_waits a.link.me
waits (Station a) = Station_waits a.link.me

-- the timestamp that a frame is signed at
abbrev pub signed_at : Option SignatureBlock → ℕ
signed_at None = 0
signed_at (Some block) = block.stamp

-- a frame that the node of this stream sends, and the message of the mission protocol that it carries, if any: one
-- that carries none is an event of its own, and the node waits until the timestamp that it is signed at
abbrev pub speaks : (ℕ → world.Event) → Stream → Packet → Option PlanMsg → List world.Event
speaks wait me packet None = wait (signed_at packet.block) ∷ Speaks me ∷ []
speaks wait me packet (Some message) = []

-- each such frame among what happened in the node
abbrev pub speaks_all : (ℕ → world.Event) → Stream → List NodeEvent → List world.Event
speaks_all wait me [] = []
speaks_all wait me (Sends packet message ∷ es) = speaks wait me packet (plan_of message) ++ speaks_all wait me es
speaks_all wait me (Installs kind items by ∷ es) = speaks_all wait me es
speaks_all wait me (Empties kind ∷ es) = speaks_all wait me es
speaks_all wait me (Drops answer ∷ es) = speaks_all wait me es
speaks_all wait me (Ends told ∷ es) = speaks_all wait me es
speaks_all wait me (Ends_command result ∷ es) = speaks_all wait me es
speaks_all wait me (Gives_param param ∷ es) = speaks_all wait me es
speaks_all wait me (Ends_params values ∷ es) = speaks_all wait me es
speaks_all wait me (Reaches number ∷ es) = speaks_all wait me es
speaks_all wait me (Captures total ∷ es) = speaks_all wait me es
speaks_all wait me (Ends_file end ∷ es) = speaks_all wait me es

-- the messages of other services that a node sends in a call, if it is done
abbrev pub spoken : Node → List NodeEvent → List world.Event
spoken a es = speaks_all (waits a) (link_of a).me es

abbrev pub spoken_in : Node → Outcome Node → List world.Event
spoken_in a None = []
spoken_in a (Some d) = spoken a d.events

-- ---- a frame at a node

-- a frame is an event only if it is admitted,
abbrev pub if_admitted : Admit → List world.Event → List world.Event
if_admitted Admitted events = events
if_admitted Unsigned events = []
if_admitted BadSignature events = []
if_admitted (BelowFloor floor) events = []
if_admitted (NotLater last) events = []
if_admitted (TooOld local) events = []
if_admitted TooManyStreams events = []

-- carries a message of the mission protocol,
abbrev pub if_plan : Option PlanMsg → List world.Event → List world.Event
if_plan None events = []
if_plan (Some message) events = events

-- and was sent
abbrev pub if_sent : Option ℕ → (ℕ → List world.Event) → List world.Event
if_sent None events = []
if_sent (Some index) events = events index

-- a frame at a node, after these frames were sent, without what the node's services send in reply
abbrev pub hearing : ℕ → List Packet → Node → Packet → List world.Event
hearing clock sent a p =
    if_admitted (answer_to (link_of a).key (link_of a).history p)
    (if_plan (plan_in p.id p.payload) (if_sent (index_of (encoding p) sent)
    (λ index. moves clock a (comes_to a index))))

-- an order to a station; a refused one changes nothing
abbrev pub ordering : ℕ → StationSide → Option OpFault → world.Event → List world.Event
ordering clock a (Some why) e = e ∷ []
ordering clock a None e = moves clock (Station a) e

-- an order to a station's services is what they send; a refused one is nothing
abbrev pub asking : StationSide → Option Event → Outcome StationSide → List world.Event
asking a (Some refused) outcome = []
asking a None outcome = spoken_in (Station a) (as_station outcome)

-- it is accepted if there is no cause to refuse it
abbrev pub accepted : Option OpFault → Order → List Order
accepted (Some why) order = []
accepted None order = order ∷ []

-- a cancel is accepted if an operation is open
abbrev pub cancelled : Stream → Option Operation → List Order
cancelled station None = []
cancelled station (Some operation) = Accepts_cancel station ∷ []

-- ---- nodes in a state

-- one frame at a node
abbrev pub node_hears : ℕ → Packet → Node → Outcome Node
node_hears clock p (Drone a) = as_drone (hears drone_rules clock p a)
node_hears clock p (Station a) = as_station (hears station_rules clock p a)

-- the state after the node at index `k` has done this
abbrev pub state_with : WorldState → ℕ → Done Node → WorldState
state_with s k d = record s { nodes = slice_set s.nodes k d.node; sent = s.sent ++ packets_in d.events }

-- the state after the drone at index `k` has started again, before it sends anything
abbrev pub restarted_at : WorldState → ℕ → DroneSide → WorldState
restarted_at s k a = record s { nodes = slice_set s.nodes k (Drone (restarted_drone s.key a)) }

-- the node at an index, and the one of a name, if there is one
abbrev pub at_index : WorldState → ℕ → Option Node → (WorldState → ℕ → Node → List Action) → List Action
at_index s k None call = []
at_index s k (Some a) call = call s k a

abbrev pub if_found : WorldState → Option ℕ → (WorldState → ℕ → Node → List Action) → List Action
if_found s None call = []
if_found s (Some k) call = at_index s k (slice_get s.nodes k) call

abbrev pub at_node : WorldState → Name → (WorldState → ℕ → Node → List Action) → List Action
at_node s name call = if_found s (position (is_named name) s.nodes) call

-- the actions of a step, and then those from the state after it
abbrev pub and_next : Result Step StepError → List Action → (WorldState → List Action) → List Action
and_next (Ok t) actions next = actions ++ next t.state
and_next (Err error) actions next = []

-- the station at an index, and the one of a name, if there is one
abbrev pub at_station : ℕ → Option Node → (ℕ → StationSide → List Action) → List Action
at_station k None order = []
at_station k (Some (Drone a)) order = []
at_station k (Some (Station a)) order = order k a

abbrev pub if_ordered : WorldState → Option ℕ → (ℕ → StationSide → List Action) → List Action
if_ordered s None order = []
if_ordered s (Some k) order = at_station k (slice_get s.nodes k) order

abbrev pub to_station : WorldState → Name → (ℕ → StationSide → List Action) → List Action
to_station s name order = if_ordered s (position (is_station_named name) s.nodes) order

-- ---- the actions of line `number`
module _ (number : ℕ) where
  -- ---- the actions of a call

  -- a call that leads to this step is one action, if it is done
  abbrev pub acts : List world.Event → List Order → Result Step StepError → List Action
  acts events orders (Ok t) = record {
    number = number;
    events = events;
    orders = orders;
    report = t.events;
    state = t.state;
  } ∷ []
  acts events orders (Err error) = []

  -- the node at index `k` hears a frame, and then what follows
  abbrev pub hears_then : WorldState → ℕ → Node → Packet → Outcome Node → (WorldState → Node → List Action)
      → List Action
  hears_then s k a p None next = []
  hears_then s k a p (Some d) next = record {
    number = number;
    events = hearing s.clock s.sent a p ++ spoken a d.events;
    orders = [];
    report = reported_by (node_name a) (length s.sent) d.events;
    state = state_with s k d;
  } ∷ next (state_with s k d) d.node

  -- frames, one action each
  abbrev pub frames_heard : ℕ → List Packet → WorldState → Node → List Action
  frames_heard k [] s a = []
  frames_heard k (p ∷ ps) s a = hears_then s k a p (node_hears s.clock p a) (frames_heard k ps)

  -- a datagram: the frames of its final parse
  abbrev pub datagram_heard : List ℕ → WorldState → ℕ → Node → List Action
  datagram_heard bytes s k a = frames_heard k (frames_of (final_parse (link_of a).extras false bytes)) s a

  -- a tick, and a HEARTBEAT
  abbrev pub ticked : WorldState → ℕ → Node → List Action
  ticked s k a =
      acts (moves s.clock a (ticks a) ++ spoken_in a (node_ticks s.clock a)) []
      (node_does s k (node_name a) (node_ticks s.clock a))

  abbrev pub beaten : WorldState → ℕ → Node → List Action
  beaten s k a = acts (spoken_in a (node_beats s.clock a)) [] (node_does s k (node_name a) (node_beats s.clock a))

  -- one tick of a drone's simulator
  abbrev pub simmed : WorldState → ℕ → Node → List Action
  simmed s k a = acts (spoken_in a (node_flies s.clock a)) [] (node_does s k (node_name a) (node_flies s.clock a))

  -- so many ticks of the drone of a name
  abbrev pub flight_actions : ℕ → Name → WorldState → List Action
  flight_actions zero drone s = []
  flight_actions (suc n) drone s = and_next (calls s drone (node_flies s.clock)) (at_node s drone simmed)
      (flight_actions n drone)

  -- ---- of a drone that starts again

  -- with the low bound that it has stored; and then it sends HEARTBEAT
  abbrev pub restarted : WorldState → ℕ → DroneSide → List Action
  restarted s k a = record {
    number = number;
    events = Restarts a.link.me (unwrap_or (stored_low a.link.history) 0) ∷ [];
    orders = [];
    report = Restarted (node_of a.link.me) ∷ [];
    state = restarted_at s k a;
  } ∷ beaten (restarted_at s k a) k (Drone (restarted_drone s.key a))

  -- the drone at an index, and the one of a name, if there is one
  abbrev pub at_drone : WorldState → ℕ → Option Node → List Action
  at_drone s k None = []
  at_drone s k (Some (Station a)) = []
  at_drone s k (Some (Drone a)) = restarted s k a

  abbrev pub if_drone : WorldState → Option ℕ → List Action
  if_drone s None = []
  if_drone s (Some k) = at_drone s k (slice_get s.nodes k)

  abbrev pub to_drone : WorldState → Name → List Action
  to_drone s name = if_drone s (position (is_drone_named name) s.nodes)

  -- ---- of frames that are given

  -- a frame comes to the node at index `k`, unless the node is its sender
  abbrev pub frame_given : WorldState → ℕ → Packet → Option Node → List Action
  frame_given s k p None = []
  frame_given s k p (Some a) = if same_name (node_name a) p.from then [] else datagram_heard (encoding p) s k a

  -- to `n` nodes, from index `k` on
  abbrev pub row_given : WorldState → ℕ → ℕ → Packet → List Action
  row_given s k zero p = []
  row_given s k (suc n) p = and_next (given_to s k p (slice_get s.nodes k)) (frame_given s k p (slice_get s.nodes k))
      (λ t. row_given t (k + 1) n p)

  -- the next frame of a flow, if there is one, to all nodes; and then what follows
  abbrev pub flown : WorldState → Option Packet → (WorldState → List Action) → List Action
  flown s None next = []
  flown s (Some p) next =
      and_next (given_to_all (record s { given = s.given + 1 }) p)
      (row_given (record s { given = s.given + 1 }) 0 (length s.nodes) p) next

  -- at most `k` frames
  abbrev pub flow_actions : ℕ → WorldState → List Action
  flow_actions zero s = []
  flow_actions (suc k) s = flown s (slice_get s.sent s.given) (flow_actions k)

  -- a sent frame comes to a node once more, also to its sender
  abbrev pub delivered : WorldState → ℕ → Name → Option Packet → List Action
  delivered s which name None = acts [] [] (delivers s which name None)
  delivered s which name (Some p) = at_node s name (datagram_heard (encoding p))

  -- ---- of orders

  -- an upload, of the draft that the state holds
  abbrev pub upload_at : WorldState → Name → PlanKind → Option OpFault → ℕ → StationSide → List Action
  upload_at s drone kind why k a =
      acts (ordering s.clock a why (Begins a.link.me (stream_of drone) kind s.draft))
      (accepted why (Accepts_upload a.link.me (stream_of drone) (number_of kind) s.draft))
      (upload_begins s k a drone (number_of kind) why)

  -- a clear, a download, and a cancel
  abbrev pub clear_at : WorldState → Name → Option PlanKind → Option OpFault → ℕ → StationSide → List Action
  clear_at s drone kind why k a =
      acts (ordering s.clock a why (Clears a.link.me (stream_of drone) kind))
      (accepted why (Accepts_clear a.link.me (stream_of drone) (world.clear_number kind)))
      (orders s k a why (station_clears s.clock (stream_of drone) (clear_number kind) a))

  abbrev pub get_at : WorldState → Name → PlanKind → Option OpFault → ℕ → StationSide → List Action
  get_at s drone kind why k a =
      acts (ordering s.clock a why (Gets a.link.me (stream_of drone) kind))
      (accepted why (Accepts_get a.link.me (stream_of drone) (number_of kind)))
      (orders s k a why (station_gets s.clock (stream_of drone) (number_of kind) a))

  abbrev pub cancel_at : WorldState → ℕ → StationSide → List Action
  cancel_at s k a =
      acts (moves s.clock (Station a) (Cancels a.link.me)) (cancelled a.link.me a.core.operation)
      (orders s k a None (station_cancels s.clock a))

  -- a command, and a list of parameters: orders to the station's services
  abbrev pub command_at : WorldState → Name → ℕ → ℕ → ℕ → StationSide → List Action
  command_at s drone which word k a =
      let refused : Option Event = command_busy (node_of a.link.me) (open_command a.services.commander) in
      let outcome : Outcome StationSide = station_commands s.clock (stream_of drone) which word a in
      acts (asking a refused outcome) [] (asks s k a refused outcome)

  abbrev pub params_at : WorldState → Name → ℕ → StationSide → List Action
  params_at s drone k a =
      let refused : Option Event = params_busy (node_of a.link.me) a.services.client.operation in
      let outcome : Outcome StationSide = station_lists_params s.clock (stream_of drone) a in
      acts (asking a refused outcome) [] (asks s k a refused outcome)

  -- ---- of lines

  -- the calls of a line; the lines that call no node have none
  abbrev pub calls_of : WorldState → Line → List Action
  calls_of s line.Blank = []
  calls_of s (line.Drone sys x y) = []
  calls_of s (line.Station sys comp) = []
  calls_of s (line.Item item) = []
  calls_of s (line.Items n first) = []
  calls_of s line.Empty = []
  calls_of s (line.Begin station drone kind) =
      to_station (station_line s) station (λ k a. upload_at (station_line s) drone kind
      (upload_refusal a.core (number_of kind) s.draft) k a)
  calls_of s (line.Cancel station) = to_station (station_line s) station (cancel_at (station_line s))
  calls_of s (line.Clear station drone kind) =
      to_station (station_line s) station (λ k a. clear_at (station_line s) drone kind (refusal a.core) k a)
  calls_of s (line.Get station drone kind) =
      to_station (station_line s) station (λ k a. get_at (station_line s) drone kind (refusal a.core) k a)
  calls_of s (line.Command station drone which word) =
      to_station (station_line s) station (command_at (station_line s) drone which word)
  calls_of s (line.Params station drone) = to_station (station_line s) station (params_at (station_line s) drone)
  calls_of s (line.Heartbeat node) = at_node s node beaten
  calls_of s (line.Deliver which node) = delivered s which node (slice_get s.sent (which - 1))
  calls_of s (line.Flow k) = flow_actions k s
  calls_of s (line.Noise node bytes) = at_node s node (datagram_heard bytes)
  calls_of s (line.Tick node) = at_node s node ticked
  calls_of s (line.Clock n) = []
  calls_of s (line.Restart drone) = to_drone (restart_line s) drone
  calls_of s (line.Sim drone n) = flight_actions n drone s
  calls_of s (line.WhereIs drone) = acts [] [] (locates s drone)

  -- the end of a line
  abbrev pub line_end : WorldState → Action
  line_end s = record { number = number; events = []; orders = []; report = []; state = s }

  -- a line that is done: its calls, and its end; one that isn't done has no action
  abbrev pub calls_done : List Action → Result Step StepError → List Action
  calls_done calls (Ok t) = calls ++ line_end t.state ∷ []
  calls_done calls (Err error) = []

-- of the line that is done at line `number`, if any
abbrev pub line_actions : ℕ → WorldState → Option Line → List Action
line_actions number s None = []
line_actions number s (Some line) = calls_done number (calls_of number s line) (after_line s line)

-- ---- of scenarios

-- none after a scenario has stopped
abbrev pub unless_stopped : Option ScenarioError → List Action → List Action
unless_stopped None actions = actions
unless_stopped (Some stop) actions = []

-- of the lines from `number` on, up to the first at which the scenario stops
abbrev pub lines_actions : Played → ℕ → List (List ℕ) → List Action
lines_actions p number [] = []
lines_actions p number (raw ∷ more) =
    unless_stopped p.stop
    (line_actions number p.state (line_done p.state number raw (without_cr raw))
    ++ lines_actions (line_played p number raw) (number + 1) more)

-- of a last line without LF
abbrev pub last_actions : Bool → Played → ℕ → List ℕ → List Action
last_actions false p number rest = []
last_actions true p number [] = []
last_actions true p number (b ∷ bs) = unless_stopped p.stop
    (line_actions number p.state (line_done p.state number (b ∷ bs) (b ∷ bs)))

-- of a scenario's bytes under a key; `ended` says whether the input ended after them
abbrev pub actions_of : List ℕ → Bool → List ℕ → List Action
actions_of key ended bytes =
    lines_actions (at_start key) 1 (whole_lines bytes)
    ++ last_actions ended (lines_played (at_start key) 1 (whole_lines bytes)) (length (whole_lines bytes) + 1)
    (unfinished bytes)
