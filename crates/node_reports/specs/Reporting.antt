-- What a report says of the news of a node.
use Rattle.std.specs.Prelude.{ℕ, ◌+◌, Bool, List, [], ◌∷◌, Option, Some, None}
use Rattle.mav_names.specs.declared.names.Name.{Name}
use Rattle.plan_items.specs.Kinds.{number_of}
use Rattle.plan_upload.specs.Addresses.{node_of}
use Rattle.mav_nodes.specs.News.{NodeEvent, Sends, Installs, Empties, Drops, Ends, Ends_command, Gives_param}
use Rattle.mav_nodes.specs.News.{Ends_params, Reaches, Captures, Ends_file}
use Rattle.fleet_report.specs.Events.{Event, Sent, Installed, Emptied, Dropped, Ended, Command_ended, Params_ended}
use Rattle.fleet_report.specs.Events.{Param_given, Reached, Captured, events_text}
use Rattle.fleet_report.specs.Reports.{ReportState, with_text}
use Rattle.fleet_report.specs.Sayings.{said_text}
use Rattle.fleet_report.specs.declared.event.Event.{Event as Saying}

-- what is reported of what happened in a node, after so many frames were sent
abbrev pub reported_by : Name → ℕ → List NodeEvent → List Event
reported_by node before [] = []
reported_by node before (Sends packet message ∷ es) =
    Sent (before + 1) packet message ∷ reported_by node (before + 1) es
reported_by node before (Installs kind items by ∷ es) =
    Installed node (number_of kind) items (node_of by) ∷ reported_by node before es
reported_by node before (Empties kind ∷ es) = Emptied node (number_of kind) ∷ reported_by node before es
reported_by node before (Drops answer ∷ es) = Dropped node answer ∷ reported_by node before es
reported_by node before (Ends outcome ∷ es) = Ended node outcome ∷ reported_by node before es
reported_by node before (Ends_command result ∷ es) = Command_ended node result ∷ reported_by node before es
reported_by node before (Gives_param param ∷ es) = Param_given node param ∷ reported_by node before es
reported_by node before (Ends_params values ∷ es) = Params_ended node values ∷ reported_by node before es
reported_by node before (Reaches item ∷ es) = Reached node item ∷ reported_by node before es
reported_by node before (Captures total ∷ es) = Captured node total ∷ reported_by node before es
reported_by node before (Ends_file end ∷ es) = reported_by node before es

-- what is printed of an event of the program, if there is one
abbrev pub text_if : Bool → Option Saying → List ℕ
text_if frames None = []
text_if frames (Some saying) = said_text frames saying

-- a report with the text of these events more
abbrev pub reports : ReportState → List Event → ReportState
reports report events = with_text report (events_text report.frames events)
