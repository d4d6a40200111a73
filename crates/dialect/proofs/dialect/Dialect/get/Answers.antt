use Rattle.std.proofs.Common.{◌==◌, Option, ℕ, List, Some, None, slice_get, sym, ap, ◌∙◌}
use Rattle.std.specs.Option.{option_copied}
use Rattle.mav_profile.specs.Messages.{definition_with}
use Rattle.dialect.proofs.Keys.{find-position, find-nowhere}
use Rattle.dialect.proofs.dialect.Dialect.get.Goals as goal

pub returns-in_err-index : goal.returns-in_err-index
returns-in_err-index c =
    let entry = ap (λ (indices : List (Option ℕ)). slice_get indices c.args.id) (sym c.deref.ensures.value) ∙ c.in_err-index.ensures in
    let nowhere = c.self.invariant.2 c.args.id None entry in
    ap option_copied c.from_residual.ensures
    ∙ sym (find-nowhere (λ def. c.args.id == def.id) c.self.inside.layouts (sym nowhere))
    ∙ ap (definition_with c.args.id) c.self.view_is

pub returns-then-id-lt-LOW_IDS : goal.returns-then-id-lt-LOW_IDS
returns-then-id-lt-LOW_IDS c =
    let index = c.in_ok-index.index in
    let entry = ap (λ (indices : List (Option ℕ)). slice_get indices c.args.id) (sym c.deref.ensures.value) ∙ c.in_ok-index.ensures in
    let there = c.self.invariant.2 c.args.id (Some index) entry in
    c.at.ensures
    ∙ sym (find-position (λ def. c.args.id == def.id) c.self.inside.layouts index (sym there))
    ∙ ap (definition_with c.args.id) c.self.view_is
