use Rattle.std.proofs.Common.{◌≡◌, ℕ, Bool, List, length}
use Rattle.mav_stream.specs.Progress.{Progress}
use Rattle.test_wire.proofs.streams.drain.Given as goal

abbrev pub invariant-loop-frame : goal.invariant-loop-frame
invariant-loop-frame l = record {
  same : l.reader.ended ≡ l.initial.reader.ended;
  progress : (extras : List (ℕ × ℕ)) (reads_old : Bool) (taken : List ℕ) → Progress extras reads_old taken l.initial.events.items l.initial.reader → Progress extras reads_old taken l.events.items l.reader;
}

abbrev pub decreases-loop-frame : goal.decreases-loop-frame
decreases-loop-frame l = length l.reader.bytes
