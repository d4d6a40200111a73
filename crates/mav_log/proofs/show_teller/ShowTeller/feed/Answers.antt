use Rattle.std.proofs.Common.{false, sym, ap, subst}
use Rattle.log_rows.specs.Progress.{LogHeld}
use Rattle.mav_log.specs.Tellers.{Showing, HasShown}
use Rattle.mav_log.proofs.Steps.{shown_fed}
use Rattle.mav_log.proofs.show_teller.ShowTeller.feed.Goals as goal

pub returns-clause-told : goal.returns-clause-told
returns-clause-told c taken told h =
    let i = c.self.inside in
    let held : Showing = record { known = i.templates; reader = i.reader; offset = i.offset; rows = i.rows; skipped = i.skipped } in
    shown_fed held (record held { reader = c.feed.new.self }) taken told c.args.piece.now
    (subst (λ (s : Showing). HasShown s false taken told) (sym c.self.view_is) h) (ap (λ (z : LogHeld). record held { reader = z }) c.feed.ensures)
