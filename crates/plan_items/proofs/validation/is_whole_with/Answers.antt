use Rattle.std.proofs.Common.{◌≡◌, ◌∙◌, sym, ap}
use Rattle.std.specs.Prelude.{Some}
use Rattle.plan_items.specs.Validation.{group_len_of}
use Rattle.plan_items.proofs.LastItems.{is_grouped-end, is_grouped-behind_with}
use Rattle.plan_items.proofs.validation.is_whole_with.Goals as goal

pub returns-then-rest-len : goal.returns-then-rest-len
returns-then-rest-len c =
    let len : group_len_of c.in-Some.first.now ≡ Some c.from-len.result = sym (c.in-Some-group_len.ensures) ∙ ap Some (sym c.from-len.ensures) in
    c.is_group_with.ensures ∙ is_grouped-end c.loop-first.rest.now c.in-Some.first.now c.args.last.now c.from-len.result c.in-Some.ensures.value len c.if-rest-len.true ∙ c.loop-first.invariant

pub loop-first-preserved : goal.loop-first-preserved
loop-first-preserved c =
    let len : group_len_of c.in-Some.first.now ≡ Some c.from-len.result = sym (c.in-Some-group_len.ensures) ∙ ap Some (sym c.from-len.ensures) in
    is_grouped-behind_with c.loop-first.rest.now c.in-Some.first.now c.args.last.now c.from-len.result c.in-Some.ensures.value len c.if-rest-len.false (sym c.is_one_group.ensures ∙ c.if-not-is_one_group.false) ∙ c.loop-first.invariant
