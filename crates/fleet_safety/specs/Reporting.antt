-- What a report says of an execution of the world in which messages alone are exchanged: changes of plans, the
-- messages of the mission protocol that were sent, the ends of operations, calls that were refused, and drones that
-- start again.
-- Nothing here speaks of scenario lines or of datagrams.
use Rattle.std.specs.Prelude.{ℕ, ◌&&◌, nat_lt, if◌then◌else◌, List, [], ◌∷◌, ◌++◌, length, Option, Some, None}
use Rattle.mav_names.specs.declared.names.Name.{Name}
use Rattle.mav_names.specs.declared.names.Stream.{Stream}
use Rattle.plan_items.specs.declared.items.Item.{Item}
use Rattle.plan_items.specs.declared.messages.PlanMsg.{PlanMsg}
use Rattle.plan_items.specs.Kinds.{number_of}
use Rattle.plan_upload.specs.declared.faults.OpFault.{OpFault}
use Rattle.plan_upload.specs.Addresses.{node_of}
use Rattle.plan_upload.specs.Station.{Told}
use Rattle.plan_upload.specs.Refusals.{upload_refusal, refusal}
use Rattle.plan_safety.specs.Frames.{Frame}
use Rattle.plan_safety.specs.Store.{StoreEvent, Upload_begun, Installed as Installs, Clear_begun, Cleared, Get_begun}
use Rattle.plan_safety.specs.Store.{Shown, Cancelled, Ended as Ends, Restarted as Restarts}
use Rattle.plan_safety.specs.History.{Step}
use Rattle.plan_safety.specs.World as world
use Rattle.plan_safety.specs.World.{Nodes, World, happens}
use Rattle.mav_messages.specs.Plans.{plan_of}
use Rattle.fleet_report.specs.Events as report
use Rattle.fleet_report.specs.Events.{Dropped, Missing, Command_ended, Params_ended, Param_given, Command_refused}
use Rattle.fleet_report.specs.Events.{Params_refused, Reached, Captured, Located}

-- what a report says of the mission protocol
pub data ProtocolEvent : Type 0 where
  Sent : (number : ℕ) (from : Name) (message : PlanMsg) → ProtocolEvent  -- in the number-th frame
  Installed : (drone : Name) (kind : ℕ) (items : List Item) (by : Name) → ProtocolEvent
  Emptied : (drone : Name) (kind : ℕ) → ProtocolEvent
  Refused : (station : Name) (why : OpFault) → ProtocolEvent
  Ended : (station : Name) (told : Told) → ProtocolEvent
  Restarted : (drone : Name) → ProtocolEvent  -- a drone starts again

-- a frame that was sent, if its message is one of the protocol
abbrev pub sent_seen : ℕ → Name → Option PlanMsg → List ProtocolEvent
sent_seen number from None = []
sent_seen number from (Some m) = Sent number from m ∷ []

-- what is seen of an event. Frames that were dropped or are missing, those with another message, and what is reported
-- of commands and parameters aren't of the protocol
abbrev pub event_seen : report.Event → List ProtocolEvent
event_seen (report.Sent number packet message) = sent_seen number packet.from (plan_of message)
event_seen (report.Installed drone kind items by) = Installed drone kind items by ∷ []
event_seen (report.Emptied drone kind) = Emptied drone kind ∷ []
event_seen (Dropped node answer) = []
event_seen (Missing number) = []
event_seen (report.Restarted drone) = Restarted drone ∷ []
event_seen (report.Refused station why) = Refused station why ∷ []
event_seen (report.Ended station told) = Ended station told ∷ []
event_seen (Command_ended station result) = []
event_seen (Params_ended station values) = []
event_seen (Param_given station param) = []
event_seen (Command_refused station) = []
event_seen (Params_refused station) = []
event_seen (Reached drone number) = []
event_seen (Captured drone total) = []
event_seen (Located drone x y captures) = []

abbrev pub seen : List report.Event → List ProtocolEvent
seen [] = []
seen (e ∷ es) = event_seen e ++ seen es

-- a change of a drone's plan, and a drone that starts again
abbrev pub change_reported : StoreEvent → List ProtocolEvent
change_reported (Upload_begun station drone kind plan since drone_since) = []
change_reported (Installs drone kind plan station) = Installed (node_of drone) kind plan (node_of station) ∷ []
change_reported (Clear_begun station drone kind drone_since) = []
change_reported (Cleared drone kind station) = Emptied (node_of drone) kind ∷ []
change_reported (Get_begun station drone kind drone_since) = []
change_reported (Shown drone kind plan station) = []
change_reported (Cancelled station) = []
change_reported (Ends station told) = []
change_reported (Restarts drone) = Restarted (node_of drone) ∷ []

abbrev pub changes_reported : List StoreEvent → List ProtocolEvent
changes_reported [] = []
changes_reported (e ∷ es) = change_reported e ++ changes_reported es

-- the end of a station's operation
abbrev pub end_reported : StoreEvent → List ProtocolEvent
end_reported (Upload_begun station drone kind plan since drone_since) = []
end_reported (Installs drone kind plan station) = []
end_reported (Clear_begun station drone kind drone_since) = []
end_reported (Cleared drone kind station) = []
end_reported (Get_begun station drone kind drone_since) = []
end_reported (Shown drone kind plan station) = []
end_reported (Cancelled station) = []
end_reported (Ends station told) = Ended (node_of station) told ∷ []
end_reported (Restarts drone) = []

abbrev pub ends_reported : List StoreEvent → List ProtocolEvent
ends_reported [] = []
ends_reported (e ∷ es) = end_reported e ++ ends_reported es

-- the frame with this number, if it has a message of the mission protocol
abbrev pub frame_reported : ℕ → Stream → Option PlanMsg → List ProtocolEvent
frame_reported number from None = []
frame_reported number from (Some m) = Sent number (node_of from) m ∷ []

-- the frames after the first `before`; the newest comes first in the list, and they are numbered from 1
abbrev pub frames_reported : ℕ → List Frame → List ProtocolEvent
frames_reported before [] = []
frames_reported before (f ∷ fs) =
    if nat_lt before (length (f ∷ fs)) then frames_reported before fs
    ++ frame_reported (length (f ∷ fs)) f.from f.message else []

-- why a call of a station was refused
abbrev pub refusal_reported : Stream → Option OpFault → List ProtocolEvent
refusal_reported station None = []
refusal_reported station (Some why) = Refused (node_of station) why ∷ []

-- a call that a station of the fleet refuses, for a drone of the fleet
abbrev pub call_refused : Nodes → Stream → Stream → Option OpFault → List ProtocolEvent
call_refused n station drone why = if n.is_station station && n.is_drone drone then refusal_reported station why
    else []

abbrev pub refused_reported : Nodes → World → world.Event → List ProtocolEvent
refused_reported n w (world.Begins s d kind plan) =
    call_refused n s d (upload_refusal (w.station s).state (number_of kind) plan)
refused_reported n w (world.Clears s d kind) = call_refused n s d (refusal (w.station s).state)
refused_reported n w (world.Gets s d kind) = call_refused n s d (refusal (w.station s).state)
refused_reported n w (world.Cancels s) = []
refused_reported n w (world.Hands_out s) = []
refused_reported n w (world.Drone_ticks d) = []
refused_reported n w (world.Station_ticks s) = []
refused_reported n w (world.To_drone index d keeps) = []
refused_reported n w (world.To_station index s) = []
refused_reported n w (world.Speaks node) = []
refused_reported n w (world.Drone_waits d t) = []
refused_reported n w (world.Station_waits s t) = []
refused_reported n w (world.Restarts d low) = []

-- what the step from the world `w` to `v` prints: a change of plans, the frames sent, the end of an operation
abbrev pub step_reported : World → World → List ProtocolEvent
step_reported w v = changes_reported v.news ++ frames_reported (length w.sent) v.sent ++ ends_reported v.news

-- one event, and a list of them
abbrev pub reported_in : Nodes → World → world.Event → List ProtocolEvent
reported_in n w e = refused_reported n w e ++ step_reported w (happens n w e)

abbrev pub reported : Nodes → World → List world.Event → List ProtocolEvent
reported n w [] = []
reported n w (e ∷ es) = reported_in n w e ++ reported n (happens n w e) es

-- what a report says of plans: the installations, the clears, the drones that start again and the ends of operations,
-- without the frames
abbrev pub plan_lines : List ProtocolEvent → List ProtocolEvent
plan_lines [] = []
plan_lines (Sent number from m ∷ es) = plan_lines es
plan_lines (Installed drone kind items by ∷ es) = Installed drone kind items by ∷ plan_lines es
plan_lines (Emptied drone kind ∷ es) = Emptied drone kind ∷ plan_lines es
plan_lines (Refused station why ∷ es) = plan_lines es
plan_lines (Ended station told ∷ es) = Ended station told ∷ plan_lines es
plan_lines (Restarted drone ∷ es) = Restarted drone ∷ plan_lines es

-- what it says of the steps of the abstract mission store, which come with the newest first
abbrev pub steps_reported : List Step → List ProtocolEvent
steps_reported [] = []
steps_reported (x ∷ h) = steps_reported h ++ (change_reported x.event ++ end_reported x.event)
