use Rattle.std.proofs.Common.{◌≡◌, ◌<◌, ◌≤◌, ◌-◌, length, take, true, false}
use Rattle.mav_stream.specs.Progress.{Progress}
use Rattle.test_wire.proofs.streams.read_in_pieces.Given as goal

abbrev pub invariant-loop-place : goal.invariant-loop-place
invariant-loop-place l = record {
  within : l.place ≤ length l.bytes;
  room : length l.reader.bytes < 280;
  still : l.reader.ended ≡ false;
  progress : Progress l.fn.extras true (take l.place l.bytes) l.events.items l.reader;
}

abbrev pub decreases-loop-place : goal.decreases-loop-place
decreases-loop-place l = length l.bytes - l.place
