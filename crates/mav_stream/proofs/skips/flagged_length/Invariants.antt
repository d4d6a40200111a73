use Rattle.std.proofs.Common.{◌≡◌, ◌<◌, ℕ, [], true, false}
use Rattle.mav_frame.specs.declared.looks.Why.TheVariants.{UnknownFlag}
use Rattle.mav_stream.specs.Skips.{skips_at}
use Rattle.mav_stream.proofs.skips.flagged_length.Given as goal

abbrev pub invariant-loop-at : goal.invariant-loop-at
invariant-loop-at l = record {
  each : (k : ℕ) → k < l.at → skips_at UnknownFlag [] false l.bytes k ≡ true;
}
