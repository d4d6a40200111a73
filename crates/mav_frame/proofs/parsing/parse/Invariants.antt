use Rattle.std.proofs.Common.{length, ◌-◌, ◌≤◌, drop}
use Rattle.mav_frame.specs.Parse.{BeginsFinal}
use Rattle.mav_frame.proofs.parsing.parse.Given as goal

abbrev pub invariant-loop-place : goal.invariant-loop-place
invariant-loop-place l = record {
  within : l.place ≤ length l.bytes;
  begun : BeginsFinal l.extras l.old l.events.items (drop l.place l.bytes) l.bytes;
}

abbrev pub decreases-loop-place : goal.decreases-loop-place
decreases-loop-place l = length l.bytes - l.place
