use Rattle.std.proofs.Common.{false, sym, ap, subst}
use Rattle.log_rows.specs.Progress.{LogHeld}
use Rattle.mav_log.specs.Tellers.{Showing, HasShown}
use Rattle.mav_log.proofs.Steps.{shown_ended}
use Rattle.mav_log.proofs.show_teller.ShowTeller.end.Goals as goal

pub returns-clause-told : goal.returns-clause-told
returns-clause-told c taken told h =
    let i = c.self.inside in
    let held : Showing = record { known = i.templates; reader = i.reader; offset = i.offset; rows = i.rows; skipped = i.skipped } in
    shown_ended held (record held { reader = c.end.new.self }) taken told
    (subst (λ (s : Showing). HasShown s false taken told) (sym c.self.view_is) h) (ap (λ (z : LogHeld). record held { reader = z }) c.end.ensures)
