-- The ids of a sorted map are in ascending order.
use Rattle.std.proofs.Common.{◌≡◌, rules, subst, sym, ap, ◌∙◌}
use Rattle.std.proofs.lemmas.Result.{err_from_is_err_and}
use Rattle.std.specs.List.Sorted.{IsStrictlyIncreasing}
use Rattle.std.proofs.lemmas.Map.Keys.{IsStrictlyIncreasing-from_sorted}
use Rattle.mav_profile.specs.Messages.{id_of}
use Rattle.x25_check.specs.Extras.{ids}
use Rattle.dialect.proofs.Keys.{one-extra}
use Rattle.dialect.proofs.dialect.extras.Goals as goal

pub new-requires : goal.new-requires
new-requires c =
    let collected : c.in_ok-collect.field-0.items ≡ c.loop-layout.by_id.entries = search rules in
    subst (λ pairs. IsStrictlyIncreasing (ids pairs)) (sym collected)
    (IsStrictlyIncreasing-from_sorted (ids c.loop-layout.by_id.entries) c.into_iter.ensures.into_iter_gives.5)

pub returns-in_err-insert : goal.returns-in_err-insert
returns-in_err-insert c =
    let e = err_from_is_err_and c.from_residual.result c.from_residual.ensures.1 in
    rw e.1 tt

pub collect-requires-clause-can : goal.collect-requires-clause-can
collect-requires-clause-can c = tt

pub collect-requires-clause-finite : goal.collect-requires-clause-finite
collect-requires-clause-finite c = tt

pub collect-requires-clause-can_collect : goal.collect-requires-clause-can_collect
collect-requires-clause-can_collect c = λ _ _ _. tt

pub returns-in_err-collect : goal.returns-in_err-collect
returns-in_err-collect c =
    let e = err_from_is_err_and c.from_residual-in_err-collect.result c.from_residual-in_err-collect.ensures.1 in
    rw e.1 tt

pub loop-layout-preserved : goal.loop-layout-preserved
loop-layout-preserved c =
    one-extra c.args.layouts.now c.loop-layout.layout-index c.layout-item.result c.loop-layout.by_id.entries c.insert.new.self.entries
    c.behind-layout.inside.id c.crc_extra.result c.loop-layout-test.true c.layout-item.is c.loop-layout.invariant c.in_ok-insert.ensures.entries
    (ap id_of (c.behind-layout.view_is ∙ c.def.ensures.same)) c.crc_extra.ensures
