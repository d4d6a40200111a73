-- What contracts see of a report.
use Rattle.std.specs.Prelude.{ℕ, Bool, List, ◌++◌}
use Rattle.fleet_report.specs.Events.{Event, event_text}

-- whether frames are printed whole, and its bytes
pub record ReportState : Type 0 where
  pub frames : Bool
  pub text : List ℕ

-- some text more
abbrev pub with_text : ReportState → List ℕ → ReportState
with_text report text = record report { text = report.text ++ text }

-- an event more
abbrev pub reported : ReportState → Event → ReportState
reported report event = with_text report (event_text report.frames event)
