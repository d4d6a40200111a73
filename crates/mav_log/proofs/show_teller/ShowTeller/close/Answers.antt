use Rattle.std.proofs.Common.{◌≡◌, ◌∙◌, ◌++◌, ℕ, List, ap, OnOk, subst}
use Rattle.mav_log.specs.LogText.{counts_line}
use Rattle.mav_log.specs.Tellers.{Showing}
use Rattle.mav_log.proofs.Steps.{counts_of_all}
use Rattle.mav_log.proofs.show_teller.ShowTeller.close.Goals as goal

pub returns : goal.returns
returns c taken told all =
    subst (λ (line : List ℕ). OnOk c.put_counts.result (c.put_counts.new.text.items ≡ c.args.text.now.items ++ line))
    (ap (λ (s : Showing). counts_line s.rows s.skipped) c.self.view_is ∙ counts_of_all c.args.self.now taken told all) c.put_counts.ensures
