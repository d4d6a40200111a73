use Rattle.std.proofs.Common.{◌≡◌, ◌<◌, ◌≤◌, ◌+◌, ℕ, Some, slice_get}
use Rattle.mav_router.specs.declared.parts.Side.{Side}
use Rattle.mav_router.specs.Threads.{HasWrittenLeft}
use Rattle.mav_router.proofs.closing.write_each_left.Given as goal

abbrev pub invariant-loop-at : goal.invariant-loop-at
invariant-loop-at g l = record {
  written : (k : ℕ) (b c : Side g.row.L.Denot) → k < l.at → slice_get l.initial.sides k ≡ Some b → slice_get l.sides k ≡ Some c → HasWrittenLeft g.L.Link.state l.journal (k + 1) b c;
  same : (k : ℕ) → l.at ≤ k → slice_get l.sides k ≡ slice_get l.initial.sides k;
}
