use Rattle.std.proofs.Common.{◌≡◌, take}
use Rattle.std.specs.List.{flat_map}
use Rattle.field_layout.specs.WireOrder.{wire_order}
use Rattle.field_layout.proofs.Serialised.{entry_bytes}
use Rattle.field_layout.proofs.packing.serialise.Given as goal

abbrev pub invariant-loop-place : goal.invariant-loop-place
invariant-loop-place l = l.payload ≡ flat_map (entry_bytes l.values) (take l.place-index (wire_order l.layout))
