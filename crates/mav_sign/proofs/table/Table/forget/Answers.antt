use Rattle.std.proofs.Common.{rules, ◌∙◌, ◌≡◌, ℕ, List, ap, filter, not, nat_le, subst}
use Rattle.std.proofs.lemmas.List.Elements.{filter_agree}
use Rattle.std.proofs.lemmas.Map.Made.{filter_same_pairs}
use Rattle.mav_sign.specs.Kept.{Forgets, is_past}
use Rattle.mav_sign.proofs.Forgetting.{forgets, test_is}
use Rattle.mav_sign.proofs.table.Table.forget.Goals as goal

pub returns-clause-forgets : goal.returns-clause-forgets
returns-clause-forgets c =
    let accepted = c.args.accepted in
    let low = c.saturating_sub-low.result in
    let e = c.in_ok-reserve.ensures in
    let by_code = λ (pair : ℕ × ℕ). nat_le low pair.1 in
    let test = λ (pair : ℕ × ℕ). not (is_past accepted pair.1) in
    let middle = c.reserve.new.self.entries in
    let is = filter_same_pairs _ by_code _ (λ k v b w f' t. search rules) middle c.retain.new.self.entries c.retain.ensures.filtered
    ∙ filter_agree by_code test (λ pair. test_is low accepted pair.1 c.saturating_sub-low.ensures) middle in
    subst (λ (old : List (ℕ × ℕ)). Forgets accepted old c.retain.new.self.entries) c.self.view_is
    (forgets accepted c.self.inside.by_stream.entries middle c.retain.new.self.entries e.entries.0 e.entries.2 e.unique is)
