use Rattle.std.proofs.Common.{◌≡◌, ◌<◌, ℕ, true}
use Rattle.mav_frame.specs.declared.looks.Why.TheVariants.{UnknownId}
use Rattle.mav_stream.specs.Skips.{skips_at}
use Rattle.mav_stream.proofs.skips.unknown_length.Given as goal

abbrev pub invariant-loop-at : goal.invariant-loop-at
invariant-loop-at l = record {
  each : (k : ℕ) → k < l.at → skips_at UnknownId l.table true l.bytes k ≡ true;
}
