-- Steps without an event, which leave the report as it is.
use Rattle.std.specs.Prelude.{OnOk}
use Rattle.std.proofs.Common.{◌≡◌, Bool, Result, Ok, Err, sym, ap, subst, ◌∙◌}
use Rattle.fleet_report.specs.Reports.{ReportState}
use Rattle.node_reports.specs.Reporting.{reports}
use Rattle.node_reports.proofs.Reporting.{reports-none}
use Rattle.fleet_world.specs.WorldState.{WorldState}
use Rattle.fleet_world.specs.WorldView.{WorldView, IsState}
use Rattle.fleet_world.specs.Steps.{Step, StepError}
use Rattle.fleet_world.specs.Promises.{WorldOutcome, Quietly}

quiet : (step : Result Step StepError) (frames : Bool) (w : WorldView) (report : ReportState) → Quietly step frames w → WorldOutcome step frames w report report
quiet (Err error) frames w report h = h
quiet (Ok t) frames w report h = (h.0, sym (ap (reports report) h.1 ∙ reports-none report))

pub quiet_outcome : {T E : Type 0} (r : Result T E) (w last : WorldView) (report : ReportState) (does is : WorldState → Result Step StepError) → ((state : WorldState) → does state ≡ is state) → OnOk r ((state : WorldState) → IsState state w.frames w → Quietly (does state) w.frames last) → OnOk r ((state : WorldState) → IsState state w.frames w → WorldOutcome (is state) w.frames last report report)
quiet_outcome (Err e) w last report does is same did = tt
quiet_outcome (Ok t) w last report does is same did = λ state h.
    subst (λ (step : Result Step StepError). WorldOutcome step w.frames last report report) (same state) (quiet (does state) w.frames last report (did state h))
