-- Drones and stations that exchange signed frames: any of them lost, repeated, in any order.
-- A node admits each frame whose timestamp is greater than the last one that it admitted of that stream. Whatever
-- else makes a real node refuse a frame (too old, too many streams) only makes it admit fewer: it is as if the
-- frame had not come.
use Rattle.std.specs.Prelude.{ℕ, ◌+◌, ◌≡◌, Bool, true, false, if◌then◌else◌, ◌==◌, nat_lt, max, List, [], ◌∷◌, ◌++◌}
use Rattle.std.specs.Prelude.{Option, Some, None, slice_get}
use Rattle.mav_names.specs.declared.names.Stream.{Stream}
use Rattle.plan_items.specs.declared.items.Item.{Item}
use Rattle.plan_items.specs.declared.kinds.PlanKind.{PlanKind}
use Rattle.plan_items.specs.declared.messages.PlanMsg.{PlanMsg}
use Rattle.plan_items.specs.Kinds.{number_of}
use Rattle.plan_upload.specs.declared.faults.OpFault.{OpFault}
use Rattle.plan_upload.specs.Addresses.{node_of, is_for_drone}
use Rattle.plan_upload.specs.Plans.{no_plans, every_kind}
use Rattle.plan_upload.specs.Drone.{DroneState, DroneStep, DroneTick, PlanEvent, Quiet, Installs, Empties, Shows}
use Rattle.plan_upload.specs.Drone.{drone_step, drone_tick, fresh_drone, restored}
use Rattle.plan_upload.specs.Station.{StationState, StationStep, Operation, Told, fresh_station, stays, station_step}
use Rattle.plan_upload.specs.Station.{station_tick, station_cancel, begin_upload, begin_clear, begin_get, untold}
use Rattle.plan_upload.specs.Refusals.{upload_refusal, refusal}
use Rattle.plan_safety.specs.Frames.{Frame}
use Rattle.plan_safety.specs.Store.{StoreEvent, Upload_begun, Installed, Clear_begun, Cleared, Get_begun, Shown}
use Rattle.plan_safety.specs.Store.{Cancelled, Ended, Restarted, at}

-- which streams are drones, and which are stations
pub record Nodes : Type 0 where
  pub is_drone : Stream → Bool
  pub is_station : Stream → Bool

-- Names are distinct: a drone is component 1 of its system, and alone there as a drone; stations have
-- names of their own; and no station has a name that a drone takes for its own, (its system, 1) or (its system, 0).
-- It holds wherever each node has one stream, and no two nodes the same name, none of component 0.
pub record Distinct (n : Nodes) : Type 0 where
  pub component : (d : Stream) → n.is_drone d ≡ true → d.comp ≡ 1
  pub drones : (d e : Stream) → n.is_drone d ≡ true → n.is_drone e ≡ true → d.sys ≡ e.sys → d ≡ e
  pub stations : (s t : Stream) → n.is_station s ≡ true → n.is_station t ≡ true → node_of s ≡ node_of t → s ≡ t
  pub apart : (d s : Stream) → n.is_drone d ≡ true → n.is_station s ≡ true → is_for_drone d.sys (node_of s) ≡ false

-- a node: its state, the greatest timestamp that it admitted of each stream, and its next timestamp
pub record DroneNode : Type 0 where
  pub state : DroneState
  pub last : Stream → ℕ
  pub next : ℕ

pub record StationNode : Type 0 where
  pub state : StationState
  pub last : Stream → ℕ
  pub next : ℕ

pub record World : Type 0 where
  pub drone : Stream → DroneNode
  pub station : Stream → StationNode
  pub sent : List Frame  -- the newest first
  pub news : List StoreEvent  -- what the last event was to the abstract mission store

pub data Event : Type 0 where
  Begins : (station drone : Stream) (kind : PlanKind) (plan : List Item) → Event
  -- None: of all kinds
  Clears : (station drone : Stream) (kind : Option PlanKind) → Event
  Gets : (station drone : Stream) (kind : PlanKind) → Event
  Cancels : (station : Stream) → Event
  -- the outcome is handed out
  Hands_out : (station : Stream) → Event
  Drone_ticks : (drone : Stream) → Event
  Station_ticks : (station : Stream) → Event
  -- the sent frame with this index comes to a drone; `keeps` says whether its store keeps new plans
  To_drone : (index : ℕ) (drone : Stream) (keeps : Bool) → Event
  To_station : (index : ℕ) (station : Stream) → Event
  -- it sends a message of another service
  Speaks : (node : Stream) → Event
  -- its clock: its next timestamp is at least that from now on
  Drone_waits : (drone : Stream) (timestamp : ℕ) → Event
  Station_waits : (station : Stream) (timestamp : ℕ) → Event
  -- it starts again, with its plans and a persisted timestamp low bound
  Restarts : (drone : Stream) (low : ℕ) → Event

abbrev pub frame_of : Stream → ℕ → Option PlanMsg → Frame
frame_of from timestamp message = record { from = from; timestamp = timestamp; message = message }

abbrev pub quiet : World → World
quiet w = record w { news = [] }

-- the node is `x` from now on, and sends an answer
abbrev pub drone_sends : World → Stream → DroneNode → Option PlanMsg → World
drone_sends w d x None = record w { drone = at w.drone d x }
drone_sends w d x (Some m) = record w {
  drone = at w.drone d (record x { next = x.next + 1 });
  sent = frame_of d x.next (Some m) ∷ w.sent;
}

abbrev pub station_sends : World → Stream → StationNode → Option PlanMsg → World
station_sends w s y None = record w { station = at w.station s y }
station_sends w s y (Some m) = record w {
  station = at w.station s (record y { next = y.next + 1 });
  sent = frame_of s y.next (Some m) ∷ w.sent;
}

-- what happens to a drone's plans, for the store: a clear of all kinds is three of its events
abbrev pub clears : Stream → Stream → ℕ → List StoreEvent
clears d station kind =
    if kind == every_kind then Cleared d 0 station ∷ Cleared d 1 station ∷ Cleared d 2 station ∷ []
    else Cleared d kind station ∷ []

abbrev pub drone_news : Stream → PlanEvent → List StoreEvent
drone_news d Quiet = []
drone_news d (Installs by kind items) = Installed d kind items by ∷ []
drone_news d (Empties by kind) = clears d by kind
drone_news d (Shows to kind items) = Shown d kind items to ∷ []

abbrev pub outcome_news : Stream → Option Told → List StoreEvent
outcome_news s None = []
outcome_news s (Some told) = Ended s told ∷ []

abbrev pub drone_does : World → Stream → DroneNode → DroneStep → World
drone_does w d x r = drone_sends (record w { news = drone_news d r.event }) d (record x { state = r.drone }) r.answer

abbrev pub station_does : World → Stream → StationNode → StationStep → List StoreEvent → World
station_does w s y a news = station_sends (record w { news = news }) s (record y { state = a.station }) a.answer

-- a call of a station: what it begins or cancels, and what it reports
abbrev pub station_calls : World → Stream → StationNode → StationStep → List StoreEvent → World
station_calls w s y a news = station_does w s y a (news ++ outcome_news s a.told)

-- an admitted frame: a message of another service changes nothing
abbrev pub drone_takes : Bool → DroneState → Stream → Option PlanMsg → DroneStep
drone_takes keeps x from None = record { drone = x; answer = None; event = Quiet }
drone_takes keeps x from (Some m) = drone_step keeps x from m

abbrev pub station_takes : StationState → Stream → Option PlanMsg → StationStep
station_takes y from None = stays y
station_takes y from (Some m) = station_step y from m

-- a frame is admitted if its timestamp is greater than the last one admitted of its stream
abbrev pub drone_admits : World → Bool → Stream → DroneNode → Frame → World
drone_admits w keeps d x f =
    if nat_lt (x.last f.from) f.timestamp
    then drone_does w d (record x { last = at x.last f.from f.timestamp; next = max x.next f.timestamp })
    (drone_takes keeps x.state f.from f.message)
    else quiet w

-- a step of a station at a frame or a tick: what it reports
abbrev pub station_steps : World → Stream → StationNode → StationStep → World
station_steps w s y a = station_does w s y a (outcome_news s a.told)

abbrev pub station_admits : World → Stream → StationNode → Frame → World
station_admits w s y f =
    if nat_lt (y.last f.from) f.timestamp
    then station_steps w s (record y { last = at y.last f.from f.timestamp; next = max y.next f.timestamp })
    (station_takes y.state f.from f.message)
    else quiet w

abbrev pub to_drone : World → Bool → Stream → Option Frame → World
to_drone w keeps d None = quiet w
to_drone w keeps d (Some f) = drone_admits w keeps d (w.drone d) f

abbrev pub to_station : World → Stream → Option Frame → World
to_station w s None = quiet w
to_station w s (Some f) = station_admits w s (w.station s) f

-- a tick's answer goes out as the answer to a frame does
abbrev pub tick_answer : Option (Stream × PlanMsg) → Option PlanMsg
tick_answer None = None
tick_answer (Some a) = Some a.1

abbrev pub drone_ticked : World → Stream → DroneNode → DroneTick → World
drone_ticked w d x t = drone_sends (quiet w) d (record x { state = t.drone }) (tick_answer t.answer)

-- a call that is refused changes nothing
abbrev pub unless_refused : Option OpFault → World → World → World
unless_refused None w v = v
unless_refused (Some fault) w v = quiet w

-- a cancel of an operation
abbrev pub cancel_news : Stream → Option Operation → List StoreEvent
cancel_news s None = []
cancel_news s (Some o) = Cancelled s ∷ []

-- the number of a clear's kind
abbrev pub clear_number : Option PlanKind → ℕ
clear_number None = every_kind
clear_number (Some kind) = number_of kind

-- what a drone is after its restart: it admits what is later than the low bound, and sends later than that.
-- If the low bound is at least all that it admitted and sent, all its last timestamps are the low bound
abbrev pub restarted : DroneNode → ℕ → DroneNode
restarted x low = record { state = restored x.state; last = λ s. max (x.last s) low; next = max x.next (low + 1) }

-- only what the nodes are named for happens
abbrev pub where_drone : Nodes → Stream → World → World → World
where_drone n d w v = if n.is_drone d then v else quiet w

abbrev pub where_station : Nodes → Stream → World → World → World
where_station n s w v = if n.is_station s then v else quiet w

abbrev pub drone_speaks : World → Stream → DroneNode → World
drone_speaks w d x = record (quiet w) {
  drone = at w.drone d (record x { next = x.next + 1 });
  sent = frame_of d x.next None ∷ w.sent;
}

abbrev pub station_speaks : World → Stream → StationNode → World
station_speaks w s y = record (quiet w) {
  station = at w.station s (record y { next = y.next + 1 });
  sent = frame_of s y.next None ∷ w.sent;
}

abbrev pub happens : Nodes → World → Event → World
happens n w (Begins s d kind plan) =
    where_station n s w (where_drone n d w (unless_refused (upload_refusal (w.station s).state (number_of kind) plan) w
    (station_calls w s (w.station s) (begin_upload (w.station s).state d (number_of kind) plan)
    (Upload_begun s d (number_of kind) plan (w.station s).next (w.drone d).next ∷ []))))
happens n w (Clears s d kind) =
    where_station n s w (where_drone n d w (unless_refused (refusal (w.station s).state) w
    (station_calls w s (w.station s) (begin_clear (w.station s).state d (clear_number kind))
    (Clear_begun s d (clear_number kind) (w.drone d).next ∷ []))))
happens n w (Gets s d kind) =
    where_station n s w (where_drone n d w (unless_refused (refusal (w.station s).state) w
    (station_calls w s (w.station s) (begin_get (w.station s).state d (number_of kind))
    (Get_begun s d (number_of kind) (w.drone d).next ∷ []))))
happens n w (Cancels s) =
    where_station n s w (station_calls w s (w.station s) (station_cancel (w.station s).state)
    (cancel_news s (w.station s).state.operation))
happens n w (Hands_out s) = where_station n s w
    (station_calls w s (w.station s) (stays (untold (w.station s).state)) [])
happens n w (Drone_ticks d) = where_drone n d w (drone_ticked w d (w.drone d) (drone_tick (w.drone d).state))
happens n w (Station_ticks s) = where_station n s w
    (station_steps w s (w.station s) (station_tick (w.station s).state))
happens n w (To_drone index d keeps) = where_drone n d w (to_drone w keeps d (slice_get w.sent index))
happens n w (To_station index s) = where_station n s w (to_station w s (slice_get w.sent index))
happens n w (Speaks node) =
    if n.is_drone node then drone_speaks w node (w.drone node)
    else where_station n node w (station_speaks w node (w.station node))
happens n w (Drone_waits d t) =
    where_drone n d w (record (quiet w) {
      drone = at w.drone d
          (record (w.drone d) { next = max (w.drone d).next t });
    })
happens n w (Station_waits s t) =
    where_station n s w (record (quiet w) {
      station = at w.station s
          (record (w.station s) { next = max (w.station s).next t });
    })
happens n w (Restarts d low) =
    where_drone n d w (record w { drone = at w.drone d (restarted (w.drone d) low); news = Restarted d ∷ [] })

-- how a station starts: its boot value, and the last PING number that counts as used
pub record Start : Type 0 where
  pub boot : Stream → ℕ
  pub pings : Stream → ℕ

-- nothing was sent, and no drone has a plan
abbrev pub first_world : Start → World
first_world start = record {
  drone = λ d. record { state = fresh_drone d.sys no_plans; last = λ s. 0; next = 1 };
  station = λ s. record { state = fresh_station s.sys s.comp (start.boot s) (start.pings s); last = λ d. 0; next = 1 };
  sent = [];
  news = [];
}
