use Rattle.std.proofs.Common.{◌≡◌, ◌+◌, ◌≤◌, drop, map}
use Rattle.scenario_maker.specs.Sums.{frames_in}
use Rattle.scenario_maker.proofs.lines.frames_in.Given as goal

abbrev pub invariant-loop-line : goal.invariant-loop-line
invariant-loop-line l = record {
  few : l.count ≤ l.line-index;
  rest : l.count + frames_in (map (λ line. line.now) (drop l.line-index l.lines)) ≡ frames_in (map (λ line. line.now) l.lines);
}
