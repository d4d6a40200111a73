use Rattle.std.proofs.Common.{◌≡◌, ◌≤◌, ◌+◌, ◌++◌, drop, length, string_bytes}
use Rattle.fence_command.specs.FenceText.{touching, legs_text}
use Rattle.fence_command.proofs.texts.put_legs.Given as goal

-- what was written and counted, and what is left
abbrev pub invariant-loop-item : goal.invariant-loop-item
invariant-loop-item l = record {
  text : string_bytes l.text ++ legs_text (touching l.watch l.from l.number (drop l.item-index l.items)) ≡ string_bytes l.initial.text ++ legs_text (touching l.watch l.fn.home 0 l.items);
  counts : l.legs + length (touching l.watch l.from l.number (drop l.item-index l.items)) ≡ length (touching l.watch l.fn.home 0 l.items);
  here : l.number ≡ l.item-index;
  few : l.legs ≤ l.item-index;
}
