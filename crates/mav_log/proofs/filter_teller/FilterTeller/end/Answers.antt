use Rattle.std.proofs.Common.{false, sym, ap, subst}
use Rattle.log_rows.specs.Progress.{LogHeld}
use Rattle.mav_log.specs.Tellers.{Filtering, HasKept}
use Rattle.mav_log.proofs.Steps.{kept_ended}
use Rattle.mav_log.proofs.filter_teller.FilterTeller.end.Goals as goal

pub returns-clause-told : goal.returns-clause-told
returns-clause-told c taken told h =
    let i = c.self.inside in
    let held : Filtering = record { known = i.known; sys = i.sys; reader = i.reader } in
    kept_ended held (record held { reader = c.end.new.self }) taken told
    (subst (λ (s : Filtering). HasKept s false taken told) (sym c.self.view_is) h) (ap (λ (z : LogHeld). record held { reader = z }) c.end.ensures)
