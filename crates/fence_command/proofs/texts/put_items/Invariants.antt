use Rattle.std.proofs.Common.{◌≡◌, ◌≤◌, ◌+◌, ◌++◌, drop, string_bytes}
use Rattle.std.specs.Prelude.{is_some, count_by}
use Rattle.plan_items.specs.declared.items.Item.{Item}
use Rattle.fence_watch.specs.Judging.{judged}
use Rattle.fence_command.specs.FenceText.{items_text, outside}
use Rattle.fence_command.proofs.texts.put_items.Given as goal

-- what was written and counted, and what is left
abbrev pub invariant-loop-item : goal.invariant-loop-item
invariant-loop-item l = record {
  text : string_bytes l.text ++ items_text l.watch l.number (drop l.item-index l.items) ≡ string_bytes l.initial.text ++ items_text l.watch 0 l.items;
  counts : l.outside + count_by (λ (item : Item). is_some (judged l.watch item)) (drop l.item-index l.items) ≡ outside l.watch l.items;
  here : l.number ≡ l.item-index;
  few : l.outside ≤ l.item-index;
}
