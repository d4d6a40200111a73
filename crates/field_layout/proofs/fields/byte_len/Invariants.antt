use Rattle.std.proofs.Common.{◌≡◌, ◌*◌, ◌≤◌, take}
use Rattle.std.specs.List.{sum_by}
use Rattle.field_layout.specs.Definition.{size_of}
use Rattle.field_layout.proofs.fields.byte_len.Given as goal

abbrev pub invariant-loop-field : goal.invariant-loop-field
invariant-loop-field l = (l.len ≡ sum_by size_of (take l.field-index l.fields)) × (l.len ≤ 2040 * l.field-index)
