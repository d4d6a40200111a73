use Rattle.std.proofs.Common.{◌≡◌, ◌++◌, take, string_bytes}
use Rattle.fleet_report.specs.Texts.{items_text}
use Rattle.fleet_report.proofs.items.put_items.Given as goal

abbrev pub invariant-loop-seq : goal.invariant-loop-seq
invariant-loop-seq l = string_bytes l.text ≡ string_bytes l.initial.text ++ items_text 0 (take l.seq l.item-items)
