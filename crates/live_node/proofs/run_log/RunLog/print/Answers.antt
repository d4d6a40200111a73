use Rattle.std.proofs.lemmas.Result.{err_from_is_err_and}
use Rattle.live_node.proofs.Tellings.{nothing_printed}
use Rattle.live_node.proofs.run_log.RunLog.print.Goals as goal

pub returns-in_err-report-clause-printed : goal.returns-in_err-report-clause-printed
returns-in_err-report-clause-printed g c =
    let p = err_from_is_err_and c.from_residual.result c.from_residual.ensures.1 in
    rw (p.1, p.2) (λ events said have. nothing_printed events _ _ _)
