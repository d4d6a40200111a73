use Rattle.std.proofs.Common.{◌∙◌, ◌<◌, ◌++◌, ◌∷◌, [], List, length, ap, subst, arith}
use Rattle.mav_router.specs.Found.{Judged}
use Rattle.mav_router.specs.Journal.{Rules, SwitchState, IsJournal, entry_after}
use Rattle.mav_router.proofs.Admissions.{one_admitted}
use Rattle.mav_router.proofs.switch.Switch.admit.Goals as goal

pub returns-clause-journal : goal.returns-clause-journal
returns-clause-journal c =
    let old = c.args.self.now in
    let e = c.in_default-admit_found.ensures in
    let kept = c.in_default.ensures.kept in
    let is = kept.kept ∙ ap (λ (l : List Judged). l ++ kept.judged ∷ []) c.new-found.ensures in
    let some : 0 < length c.keep.new.self = let n = ap length is in omega (arith, n) in
    let legal = subst (λ (r : Rules). IsJournal r [] c.admit_found.new.self.journal) e.same.0 (e.legal some) in
    one_admitted old.rules c.args.port old.journal c.admit_found.new.self.journal c.keep.new.self kept.judged c.args.frame.now e.admits.count is kept.frame e.admits.all e.admits.kept legal

pub returns-clause-verdict : goal.returns-clause-verdict
returns-clause-verdict c =
    let old = c.args.self.now in
    c.last_verdict.ensures old.journal (entry_after old.rules old.journal c.args.port c.args.frame.now)
    (ap (λ (s : SwitchState). s.journal) c.self-2.view_is ∙ returns-clause-journal c)
