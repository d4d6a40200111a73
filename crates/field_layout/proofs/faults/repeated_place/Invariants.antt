use Rattle.std.proofs.Common.{◌≡◌, ℕ, ◌<◌, false}
use Rattle.field_layout.specs.Faults.{names_of, repeats_at}
use Rattle.field_layout.proofs.faults.repeated_place.Given as goal

abbrev pub invariant-loop-place : goal.invariant-loop-place
invariant-loop-place l = (k : ℕ) → k < l.place → repeats_at (names_of l.def) k ≡ false
