-- What a live node writes of what happens in it: its frames to the port, and lines to the output.
use Rattle.std.specs.Prelude.{ℕ, ◌+◌, ◌-◌, ◌^◌, min, false, List, [], ◌∷◌, ◌++◌, Option, Some, None, zero, suc}
use Rattle.std.specs.List.{flat_map}
use Rattle.mav_names.specs.declared.names.Name.{Name}
use Rattle.mav_frame.specs.Encoding.{encoding}
use Rattle.plan_upload.specs.Station.{Told, Told_installed, Told_not_installed, Told_unknown, Told_cleared, Told_got}
use Rattle.plan_upload.specs.Station.{Told_ended}
use Rattle.mav_nodes.specs.declared.news.FileEnd.{FileEnd}
use Rattle.mav_nodes.specs.declared.news.FileEnd.TheVariants.{Done as Gives, Refused as Was_refused, NoAnswer}
use Rattle.mav_nodes.specs.News.{NodeEvent, Sends, Ends, Ends_command, Gives_param, Ends_params, Ends_file, Shown}
use Rattle.mav_nodes.specs.News.{Shows_sent}
use Rattle.fleet_report.specs.Events.{events_text}
use Rattle.node_reports.specs.Reporting.{reported_by}
use Rattle.live_node.specs.declared.run_log.Ending.{Ending}
use Rattle.live_node.specs.declared.run_log.Ending.TheVariants.{Done, Refused, Unanswered}
use Rattle.live_node.specs.declared.run_log.RunLog.{RunLog}

-- the bytes of the frame that was sent, if one was
abbrev pub frame_bytes : Shown → List ℕ
frame_bytes (Shows_sent packet message) = encoding packet
frame_bytes other = []

abbrev pub frames_text : List Shown → List ℕ
frames_text news = flat_map frame_bytes news

-- how many frames the node has sent after an event; the count stands still at 2 ^ 64 - 1
abbrev pub count_with : ℕ → NodeEvent → ℕ
count_with before (Sends packet message) = min (before + 1) (2 ^ 64 - 1)
count_with before other = before

abbrev pub count_over : ℕ → List NodeEvent → ℕ
count_over before [] = before
count_over before (event ∷ events) = count_over (count_with before event) events

-- the lines of what happened in a node that had sent so many frames: those of a scenario's report, with the number of
-- each of the node's own frames
abbrev pub lines_of : Name → ℕ → List NodeEvent → List ℕ
lines_of name before [] = []
lines_of name before (event ∷ events) =
    events_text false (reported_by name (min before (2 ^ 64 - 2)) (event ∷ []))
    ++ lines_of name (count_with before event) events

-- how an operation of a station ends, and which bytes it gives: an upload of unknown fate is one that the drone
-- refused with 1
abbrev pub ending_told : Told → Ending
ending_told Told_installed = Done []
ending_told (Told_not_installed code) = Refused code
ending_told Told_unknown = Refused 1
ending_told Told_cleared = Done []
ending_told (Told_got items) = Done []
ending_told (Told_ended code) = Refused code

abbrev pub ending_by_result : Option ℕ → Ending
ending_by_result None = Unanswered
ending_by_result (Some zero) = Done []
ending_by_result (Some (suc code)) = Refused (suc code)

abbrev pub ending_by_values : {A : Type 0} → Option A → Ending
ending_by_values None = Unanswered
ending_by_values (Some values) = Done []

-- one on files alone gives bytes: those of a file, or the entries of a list
abbrev pub ending_by_file : FileEnd → Ending
ending_by_file (Gives bytes) = Done bytes
ending_by_file (Was_refused code) = Refused code
ending_by_file NoAnswer = Unanswered

abbrev pub ending_in : NodeEvent → Option Ending
ending_in (Ends told) = Some (ending_told told)
ending_in (Ends_command result) = Some (ending_by_result result)
ending_in (Gives_param param) = Some (Done [])
ending_in (Ends_params values) = Some (ending_by_values values)
ending_in (Ends_file end) = Some (ending_by_file end)
ending_in other = None

-- the first of them
abbrev pub first_of : Option Ending → Option Ending → Option Ending
first_of None next = next
first_of (Some ending) next = Some ending

abbrev pub ending_over : Option Ending → List NodeEvent → Option Ending
ending_over before [] = before
ending_over before (event ∷ events) = ending_over (first_of before (ending_in event)) events

-- what a run_log has told after these events
abbrev pub tells : RunLog → List NodeEvent → RunLog
tells t events = record t { sent = count_over t.sent events; ending = ending_over t.ending events }
