use Rattle.std.proofs.Common.{◌≡◌, ◌++◌, take}
use Rattle.std.specs.List.{flat_map}
use Rattle.field_layout.specs.WireOrder.{wire_order}
use Rattle.mav_text.specs.LayoutText.{message_line, field_line}
use Rattle.mav_text.proofs.layouts.put_lines.Given as goal

abbrev pub invariant-loop-number : goal.invariant-loop-number
invariant-loop-number l =
    l.out.items ≡ l.fn.out.items ++ (message_line l.layout ++ flat_map (field_line l.layout) (take l.number-index (wire_order l.layout)))
