use Rattle.std.proofs.Common.{◌≡◌, ◌+◌, ◌<◌, ℕ, true}
use Rattle.mav_stream.specs.Skips.{is_marked}
use Rattle.mav_stream.proofs.skips.are_marked.Given as goal

abbrev pub invariant-loop-step : goal.invariant-loop-step
invariant-loop-step l = record {
  each : l.all ≡ true → (k : ℕ) → k < l.step → is_marked l.byte l.gap l.high l.bytes (l.at + k) ≡ true;
}
