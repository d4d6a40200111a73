use Rattle.std.proofs.Common.{◌≡◌, ◌<◌, ◌≤◌, ℕ, length, drop, slice_index}
use Rattle.x25_check.specs.Extras.{extra_of}
use Rattle.mav_stream.specs.Entries.{byte_of}
use Rattle.mav_stream.proofs.table.fill.Given as goal

abbrev pub invariant-loop-left : goal.invariant-loop-left
invariant-loop-left l = record {
  within : l.left ≤ length l.pairs;
  long : length l.low ≡ 65536;
  done : (id : ℕ) → id < 65536 → byte_of (slice_index l.low id) ≡ extra_of id (drop l.left l.pairs);
}

abbrev pub decreases-loop-left : goal.decreases-loop-left
decreases-loop-left l = l.left
