use Rattle.std.proofs.Common.{◌≡◌, length}
use Rattle.dialect.specs.Indices.{AreIndices}
use Rattle.dialect.proofs.low_indices.low_indices.Given as goal

abbrev pub invariant-loop-id : goal.invariant-loop-id
invariant-loop-id l = record {
  count : length l.indices.items ≡ l.id;
  are : AreIndices l.layouts l.indices.items;
}
