use Rattle.std.proofs.Common.{◌+◌, ◌-◌, ◌++◌, [], ◌∷◌, List, ap, ◌∙◌}
use Rattle.plan_items.specs.declared.items.Item.{Item}
use Rattle.plan_items.specs.Plans.{items_of}
use Rattle.scenario_lines.specs.ItemRows.{items_from}
use Rattle.scenario_lines.proofs.ItemRows.{items_from-one}
use Rattle.scenario_lines.proofs.item_rows.put_items.Goals as goal

pub loop-i-preserved : goal.loop-i-preserved
loop-i-preserved c =
    let step = items_from-one (items_of c.loop-i.plan) _ c.args.first c.args.count c.loop-i.i c.loop-i-test.true c.loop-i.invariant in
    ap (λ (z : List Item). z ++ items_from (c.args.count - (c.loop-i.i + 1)) c.args.first (c.loop-i.i + 1)) c.in_ok-push.ensures.ok
    ∙ ap (λ (z : Item). (items_of c.loop-i.plan ++ z ∷ []) ++ items_from (c.args.count - (c.loop-i.i + 1)) c.args.first (c.loop-i.i + 1)) c.moved.ensures ∙ step
