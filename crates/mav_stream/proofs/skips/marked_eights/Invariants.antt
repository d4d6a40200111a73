use Rattle.std.proofs.Common.{◌≡◌, ◌-◌, ◌<◌, ◌≤◌, ℕ, true}
use Rattle.mav_stream.specs.Skips.{is_marked}
use Rattle.mav_stream.proofs.skips.marked_eights.Given as goal

abbrev pub invariant-loop-at : goal.invariant-loop-at
invariant-loop-at l = record {
  within : l.at ≤ l.most;
  each : (k : ℕ) → k < l.at → is_marked l.byte l.gap l.high l.bytes k ≡ true;
}

abbrev pub decreases-loop-at : goal.decreases-loop-at
decreases-loop-at l = l.most - l.at
