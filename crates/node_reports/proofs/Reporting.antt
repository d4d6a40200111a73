-- Reports of events, one after another.
use Rattle.std.proofs.Common.{◌≡◌, List, [], ◌∷◌, ◌++◌, ℕ, Bool, refl, sym, ap, ◌∙◌, append_assoc}
use Rattle.std.proofs.lemmas.List.{append-nil}
use Rattle.fleet_report.specs.Events.{Event, event_text, events_text}
use Rattle.fleet_report.specs.Reports.{ReportState, with_text, reported}
use Rattle.node_reports.specs.Reporting.{reports}

pub events_text-append : (frames : Bool) (xs ys : List Event) → events_text frames (xs ++ ys) ≡ events_text frames xs ++ events_text frames ys
events_text-append frames [] ys = refl
events_text-append frames (x ∷ xs) ys =
    ap (λ (t : List ℕ). event_text frames x ++ t) (events_text-append frames xs ys)
    ∙ sym (append_assoc (event_text frames x) (events_text frames xs) (events_text frames ys))

pub with_text-none : (report : ReportState) → with_text report [] ≡ report
with_text-none report = ap (λ (t : List ℕ). record report { text = t }) (append-nil report.text)

pub with_text-both : (report : ReportState) (a b : List ℕ) → with_text (with_text report a) b ≡ with_text report (a ++ b)
with_text-both report a b = ap (λ (t : List ℕ). record report { text = t }) (append_assoc report.text a b)

pub reports-none : (report : ReportState) → reports report [] ≡ report
reports-none report = with_text-none report

pub reports-both : (report : ReportState) (xs ys : List Event) → reports (reports report xs) ys ≡ reports report (xs ++ ys)
reports-both report xs ys =
    with_text-both report (events_text report.frames xs) (events_text report.frames ys)
    ∙ ap (with_text report) (sym (events_text-append report.frames xs ys))

pub reports-one : (report : ReportState) (event : Event) → reported report event ≡ reports report (event ∷ [])
reports-one report event = ap (with_text report) (sym (append-nil (event_text report.frames event)))
