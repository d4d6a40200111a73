use Rattle.std.proofs.Common.{◌≡◌, ◌++◌, ℕ, List, [], length, true}
use Rattle.log_rows.specs.Frames.{log_frames}
use Rattle.log_rows.proofs.replay_rows.next_frame.Given as goal

abbrev pub invariant-loop-size : goal.invariant-loop-size
invariant-loop-size l = (rest : List ℕ) → (l.ended ≡ true → rest ≡ []) → log_frames l.extras (l.fn.window ++ rest) ≡ log_frames l.extras (l.window ++ rest)

abbrev pub decreases-loop-size : goal.decreases-loop-size
decreases-loop-size l = length l.window
