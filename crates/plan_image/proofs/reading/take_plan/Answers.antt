use Rattle.std.proofs.Common.{sym, ap, ◌∙◌, arith}
use Rattle.std.specs.Result.{result_err}
use Rattle.plan_items.specs.Kinds.{number_of}
use Rattle.plan_items.specs.Plans.{items_of}
use Rattle.plan_image.proofs.Readings.{count_of, holdable_len, length_of_tail, whole_plan, bad_plan, sound_holdable}
use Rattle.plan_image.proofs.reading.take_plan.Goals as goal
use Rattle.plan_image.proofs.reading.take_plan.Goals.{then-count-limit-via-then-count-limit, then-count-limit-via-else-count-limit+then-rest-len}

pub returns-then-count-limit-clause-bad : goal.returns-then-count-limit-clause-bad
returns-then-count-limit-clause-bad c =
    λ is items rest holdable ranges could.
    let kind = number_of c.args.kind in
    let count = count_of kind c.args.bytes.now c.split_at.result.0.now c.u16_of-count.result items rest c.u16_of-count.type_inv holdable c.u16_of-count.ensures c.split_at.ensures.front could in
    let most = holdable_len kind items holdable in
    let after = length_of_tail c.args.bytes.now c.split_at.result.1.now items rest c.split_at.ensures.back could in
    elim c.then-count-limit.branch [
      | then-count-limit-via-then-count-limit w ↦ omega (arith, count, most, c.limit.ensures, w.if-count-limit.true)
      | then-count-limit-via-else-count-limit+then-rest-len w ↦ omega (arith, count, after, c.from-len.ensures, w.if-rest-len.true)
    ]

pub returns-in-Ok-clause-holdable : goal.returns-in-Ok-clause-holdable
returns-in-Ok-clause-holdable c =
    sound_holdable (number_of c.args.kind) (items_of c.in_ok-plan.plan) (omega (arith, c.in_ok-plan.ensures.len, c.limit.ensures, c.if-count-limit.false))
    (sym c.check_plan.ensures ∙ ap result_err c.in-Ok.is)

pub returns-clause-bad : goal.returns-clause-bad
returns-clause-bad c =
    λ is items rest holdable ranges could.
    let got = items_of c.in_ok-plan.plan in
    let whole = whole_plan c.args.bytes.now c.split_at.result.0.now c.split_at.result.1.now c.split_at-2.result.0.now c.split_at-2.result.1.now c.u16_of-count.result got
    c.split_at.ensures.by_index.0 c.split_at-2.ensures.by_index.0 c.u16_of-count.ensures c.in_ok-plan.ensures.bytes c.in_ok-plan.ensures.len in
    bad_plan (number_of c.args.kind) c.args.bytes.now got c.split_at-2.result.1.now c.in-Err.field-0 items rest (omega (arith, c.in_ok-plan.ensures.len, c.limit.ensures, c.if-count-limit.false))
    c.in_ok-plan.ensures.range whole (sym c.check_plan.ensures ∙ ap result_err c.in-Err.is) holdable ranges could
