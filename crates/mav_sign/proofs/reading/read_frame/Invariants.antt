use Rattle.std.proofs.Common.{◌≡◌, ◌≤◌, ◌++◌, ◌+◌, ◌-◌, ◌*◌, ℕ, List, length, take, false}
use Rattle.mav_frame.specs.declared.events.Event.{Event}
use Rattle.mav_stream.specs.Progress.{Progress}
use Rattle.mav_sign.specs.Streams.{SkippedTo}
use Rattle.mav_sign.proofs.reading.read_frame.Given as goal

abbrev pub invariant-reading : goal.invariant-reading
invariant-reading l = record {
  within : l.taken ≤ length l.piece;
  extras : l.reader.extras ≡ l.initial.reader.extras;
  still : l.reader.ended ≡ false;
  version : l.reader.reads_old ≡ false;
  skipped : (extras : List (ℕ × ℕ)) (taken : List ℕ) (given : List Event) → Progress extras false taken given l.initial.reader → SkippedTo extras (taken ++ take l.taken l.piece) given l.reader;
}

abbrev pub decreases-reading : goal.decreases-reading
decreases-reading l = 2 * (length l.piece - l.taken) + length l.reader.bytes
