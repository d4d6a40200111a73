use Rattle.std.proofs.Common.{◌≡◌, ◌++◌, ◌-◌}
use Rattle.plan_items.specs.Plans.{items_of}
use Rattle.scenario_lines.specs.ItemRows.{items_from}
use Rattle.scenario_lines.proofs.item_rows.put_items.Given as goal

abbrev pub invariant-loop-i : goal.invariant-loop-i
invariant-loop-i l = items_of l.plan ++ items_from (l.count - l.i) l.first l.i ≡ items_of l.initial.plan ++ items_from l.count l.first 0
