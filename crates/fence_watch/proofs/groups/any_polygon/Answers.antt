use Rattle.std.proofs.Common.{◌∙◌, sym, ap, subst, ◌≤◌, length}
use Rattle.std.specs.Prelude.{min}
use Rattle.fence_watch.specs.Judging.{passes}
use Rattle.fence_watch.proofs.Grouping.{any_behind}
use Rattle.fence_watch.proofs.groups.any_polygon.Goals as goal

pub loop-first-preserved : goal.loop-first-preserved
loop-first-preserved c =
    let size = c.from.ensures ∙ c.group_len.ensures.size in
    any_behind (passes c.args.test) c.loop-first.rest.now c.in-Some.first.now c.min-len.result c.in-Some.ensures.value
    (c.min-len.ensures ∙ ap (λ n. min n (length c.loop-first.rest.now)) size)
    (subst (λ n. 1 ≤ n) c.group_len.ensures.size c.group_len.ensures.some)
    (sym c.group_passes.ensures ∙ c.if-group_passes.false) ∙ c.loop-first.invariant
