use Rattle.std.proofs.Common.{false, sym, ap, subst}
use Rattle.log_rows.specs.Progress.{LogHeld}
use Rattle.mav_log.specs.Tellers.{Filtering, HasKept}
use Rattle.mav_log.proofs.Steps.{kept_fed}
use Rattle.mav_log.proofs.filter_teller.FilterTeller.feed.Goals as goal

pub returns-clause-told : goal.returns-clause-told
returns-clause-told c taken told h =
    let i = c.self.inside in
    let held : Filtering = record { known = i.known; sys = i.sys; reader = i.reader } in
    kept_fed held (record held { reader = c.feed.new.self }) taken told c.args.piece.now
    (subst (λ (s : Filtering). HasKept s false taken told) (sym c.self.view_is) h) (ap (λ (z : LogHeld). record held { reader = z }) c.feed.ensures)
