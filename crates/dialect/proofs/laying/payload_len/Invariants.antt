use Rattle.std.proofs.Common.{◌≡◌, ◌*◌, ◌≤◌, take}
use Rattle.std.specs.List.{sum_by}
use Rattle.field_layout.specs.Definition.{all_fields, size_of}
use Rattle.dialect.proofs.laying.payload_len.Given as goal

abbrev pub invariant-loop-index : goal.invariant-loop-index
invariant-loop-index l = (l.len ≡ sum_by size_of (take l.index (all_fields l.def))) × (l.len ≤ 2040 * l.index)
