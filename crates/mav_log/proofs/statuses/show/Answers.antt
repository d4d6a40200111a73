use Rattle.mav_log.specs.Spec.{show_telling}
use Rattle.mav_log.proofs.StatusTold.{status_told}
use Rattle.mav_log.proofs.statuses.show.Goals as goal

pub returns : goal.returns
returns g c =
    let ended = c.run_show-ended in
    rw c.code_of.ensures (status_told (show_telling c.args.known) _ _ _ _ _ _ _ _ _ _ _ _ _ ended.result c.write_status.result (λ spent. spent.1) ended.ensures.untold ended.ensures.sound c.write_status.ensures.writes)
