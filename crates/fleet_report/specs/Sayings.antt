-- What is printed of the program's own events, which lend what is large, and of an installed plan have the number of
-- items alone.
use Rattle.std.specs.Prelude.{ℕ, Bool, List, Option, Some, None}
use Rattle.std.specs.Borrow.{Bor}
use Rattle.plan_items.specs.Kinds.{number_of}
use Rattle.plan_upload.specs.Outcomes.{told_of}
use Rattle.param_proto.specs.declared.params.Param.{Param}
use Rattle.fleet_report.specs.Events.{Sent, Emptied, Dropped, Missing, Restarted, Refused, Ended, Command_ended}
use Rattle.fleet_report.specs.Events.{Params_ended, Param_given, Command_refused, Params_refused, Reached, Captured}
use Rattle.fleet_report.specs.Events.{Located, event_text, installed_text}
use Rattle.fleet_report.specs.Reports.{ReportState, with_text}
use Rattle.fleet_report.specs.declared.event.Event.{Event as Saying}
use Rattle.fleet_report.specs.declared.event.Event.TheVariants as said

-- values that are lent
abbrev pub lent : Option (Bor (List Param)) → Option (List Param)
lent None = None
lent (Some values) = Some values.now

abbrev pub said_text : Bool → Saying → List ℕ
said_text frames (said.Sent number frame message) = event_text frames (Sent number frame.now message.now)
said_text frames (said.Installed drone kind count by) = installed_text drone (number_of kind) count by
said_text frames (said.Emptied drone kind) = event_text frames (Emptied drone (number_of kind))
said_text frames (said.Dropped node answer) = event_text frames (Dropped node answer)
said_text frames (said.Missing number) = event_text frames (Missing number)
said_text frames (said.Restarted drone) = event_text frames (Restarted drone)
said_text frames (said.Refused station why) = event_text frames (Refused station why)
said_text frames (said.Ended station outcome) = event_text frames (Ended station (told_of outcome.now))
said_text frames (said.CommandEnded station answer) = event_text frames (Command_ended station answer)
said_text frames (said.ParamsEnded station values) = event_text frames (Params_ended station (lent values))
said_text frames (said.ParamGiven station param) = event_text frames (Param_given station param.now)
said_text frames (said.CommandRefused station) = event_text frames (Command_refused station)
said_text frames (said.ParamsRefused station) = event_text frames (Params_refused station)
said_text frames (said.Reached drone item) = event_text frames (Reached drone item)
said_text frames (said.Captured drone total) = event_text frames (Captured drone total)
said_text frames (said.Located drone x y captures) = event_text frames (Located drone x y captures)

-- such an event more
abbrev pub says : ReportState → Saying → ReportState
says report saying = with_text report (said_text report.frames saying)
