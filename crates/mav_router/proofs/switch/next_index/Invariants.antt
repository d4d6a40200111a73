use Rattle.std.proofs.Common.{length, ◌-◌, ◌≡◌, ◌≤◌, take}
use Rattle.mav_router.specs.Journal.{frames_to}
use Rattle.mav_router.proofs.switch.next_index.Given as goal

abbrev pub invariant-loop-index : goal.invariant-loop-index
invariant-loop-index l = record {
  from : l.from ≤ l.index;
  within : l.index ≤ length l.journal;
  none : frames_to l.port (take l.index l.journal) ≡ frames_to l.port (take l.from l.journal);
}

abbrev pub decreases-loop-index : goal.decreases-loop-index
decreases-loop-index l = length l.journal - l.index
