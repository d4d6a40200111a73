use Rattle.std.proofs.Common.{◌≤◌, ◌<◌, ◌-◌, ℕ, List, length}
use Rattle.mav_router.specs.Outgoing.{SpansRun}
use Rattle.mav_router.specs.Spans.{AreHeld}
use Rattle.mav_router.proofs.page.run_at.Given as goal

abbrev pub invariant-loop-end : goal.invariant-loop-end
invariant-loop-end l = record {
  moves : l.first < l.end;
  within : l.end ≤ length l.heads;
  run : (bytes : List ℕ) → AreHeld bytes l.heads → SpansRun l.port bytes l.heads l.first l.end l.span;
}

abbrev pub decreases-loop-end : goal.decreases-loop-end
decreases-loop-end l = length l.heads - l.end
