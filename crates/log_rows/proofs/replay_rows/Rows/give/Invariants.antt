use Rattle.std.proofs.Common.{◌≡◌, ◌≤◌, ◌++◌, ◌-◌, ℕ, List, [], length, take, true}
use Rattle.log_rows.specs.Frames.{frames_left}
use Rattle.log_rows.proofs.replay_rows.Rows.give.Given as goal

abbrev pub invariant-loop-count : goal.invariant-loop-count
invariant-loop-count l = record {
  within : l.count ≤ length l.buf;
  room : length l.buf ≡ length l.initial.buf;
  ended : l.self.ended ≡ l.initial.self.ended;
  left : (rest : List ℕ) → (l.initial.self.ended ≡ true → rest ≡ []) → frames_left l.initial.self rest ≡ take l.count l.buf ++ frames_left l.self rest;
}

abbrev pub decreases-loop-count : goal.decreases-loop-count
decreases-loop-count l = length l.initial.buf - l.count
