use Rattle.std.proofs.Common.{◌≡◌, ◌≤◌, ◌-◌, ℕ, List, length, take}
use Rattle.mav_router.specs.Journal.{frames_to}
use Rattle.mav_router.specs.Spans.{entries_of}
use Rattle.mav_router.proofs.page.first_to.Given as goal

abbrev pub invariant-loop-index : goal.invariant-loop-index
invariant-loop-index l = record {
  from : l.from ≤ l.index;
  within : l.index ≤ length l.heads;
  none : (bytes : List ℕ) → frames_to l.port (take l.index (entries_of bytes l.heads)) ≡ frames_to l.port (take l.from (entries_of bytes l.heads));
}

abbrev pub decreases-loop-index : goal.decreases-loop-index
decreases-loop-index l = length l.heads - l.index
