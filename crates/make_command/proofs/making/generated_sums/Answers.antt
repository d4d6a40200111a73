use Rattle.std.proofs.Common.{◌≡◌, ◌∙◌, Some, IfOk, ap, subst}
use Rattle.std.specs.Result.{result_err}
use Rattle.scenario_maker.specs.Sums.{sums_text}
use Rattle.make_command.proofs.Runs.{never_stops, never_live, reports_all, report_is}
use Rattle.make_command.proofs.making.generated_sums.Goals as goal

pub returns-in-Ok : goal.returns-in-Ok
returns-in-Ok c =
    let report =
    report_is c.args.number c.sent.result.now _ _ c.new-report.ensures.sent
    (reports_all c.args.number _ _ _ _ _ _ (λ spent. spent.1) c.default_key.result _ _ c.default_key.ensures
    (ap (λ s. s.left) c.new-scenario.ensures.start ∙ c.in_ok-scenario_text.ensures) (ap result_err c.in-Ok.is) c.fleet.ensures.before_status)
    c.sent.ensures in
    subst (λ r. IfOk c.sums_text.result (λ text. text.items ≡ sums_text r)) report c.sums_text.ensures

pub unreachable-requires-in-Err-Stopped : goal.unreachable-requires-in-Err-Stopped
unreachable-requires-in-Err-Stopped c =
    never_stops c.args.number _ _ _ _ _ _ (λ spent. spent.1) c.default_key.result _ _ c.in-Err-Stopped.field-0-0 c.default_key.ensures
    (ap (λ s. s.left) c.new-scenario.ensures.start ∙ c.in_ok-scenario_text.ensures)
    (ap result_err c.in-Err-Stopped.is ∙ ap Some c.in-Err-Stopped.field-0-is) c.fleet.ensures.before_status

pub unreachable-requires-in-Err-Live : goal.unreachable-requires-in-Err-Live
unreachable-requires-in-Err-Live c =
    never_live c.args.number _ _ _ _ _ _ (λ spent. spent.1) c.default_key.result _ _ c.in-Err-Live.field-0-0
    (ap result_err c.in-Err-Live.is ∙ ap Some c.in-Err-Live.field-0-is) c.fleet.ensures.before_status
