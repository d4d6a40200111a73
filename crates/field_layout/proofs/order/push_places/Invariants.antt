use Rattle.std.proofs.Common.{◌≡◌, ◌++◌, map, take}
use Rattle.std.specs.List.{enumerate_from}
use Rattle.field_layout.specs.WireOrder.{place_of, of_size}
use Rattle.field_layout.proofs.order.push_places.Given as goal

abbrev pub invariant-loop-place : goal.invariant-loop-place
invariant-loop-place l = l.order.items ≡ l.initial.order.items ++ map place_of (of_size l.size (take l.place (enumerate_from 0 l.fields)))
