use Rattle.std.proofs.Common.{◌≡◌, ℕ, ◌<◌, false, take}
use Rattle.field_layout.specs.Faults.{names_of, repeats_at}
use Rattle.dialect.proofs.laying.repeated_index.Given as goal

-- the names before the index, all different
abbrev pub invariant-loop-index : goal.invariant-loop-index
invariant-loop-index l = record {
  known : l.names ≡ take l.index (names_of l.def);
  single : (k : ℕ) → k < l.index → repeats_at (names_of l.def) k ≡ false;
}
