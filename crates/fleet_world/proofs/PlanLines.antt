-- The lines of a drone's plans, one after another.
use Rattle.std.specs.Prelude.{OnOk}
use Rattle.std.proofs.Common.{◌≡◌, ◌∙◌, List, ◌++◌, ap, Result, Ok, Err}
use Rattle.mav_names.specs.declared.names.Name.{Name}
use Rattle.plan_items.specs.declared.items.Item.{Item}
use Rattle.plan_upload.specs.Plans.{Plans}
use Rattle.fleet_report.specs.Events.{plan_text}
use Rattle.fleet_report.specs.Reports.{ReportState, with_text}
use Rattle.node_reports.proofs.Reporting.{with_text-both}

pub plans_put : {T E : Type 0} (r : Result T E) (name : Name) (plans : Plans) (start a b end : ReportState) (x y z : List Item) → x ≡ plans.mission → y ≡ plans.fence → z ≡ plans.rally
    → a ≡ with_text start (plan_text name 0 x) → b ≡ with_text a (plan_text name 1 y) → OnOk r (end ≡ with_text b (plan_text name 2 z))
    → OnOk r (end ≡ with_text start (plan_text name 0 plans.mission ++ plan_text name 1 plans.fence ++ plan_text name 2 plans.rally))
plans_put (Err e) name plans start a b end x y z mission fence rally first second third = tt
plans_put (Ok t) name plans start a b end x y z mission fence rally first second third =
    third
    ∙ (λ i. with_text ((second ∙ ap (λ (r : ReportState). with_text r (plan_text name 1 y)) first) i) (plan_text name 2 z))
    ∙ (λ i. with_text (with_text-both start (plan_text name 0 x) (plan_text name 1 y) i) (plan_text name 2 z))
    ∙ with_text-both start (plan_text name 0 x ++ plan_text name 1 y) (plan_text name 2 z)
    ∙ (λ i. with_text start (plan_text name 0 (mission i) ++ plan_text name 1 (fence i) ++ plan_text name 2 (rally i)))
