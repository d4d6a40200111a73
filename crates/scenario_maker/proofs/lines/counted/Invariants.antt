use Rattle.std.proofs.Common.{◌≡◌, ◌+◌, ◌≤◌, drop, map}
use Rattle.scenario_maker.specs.Sums.{counted}
use Rattle.scenario_maker.proofs.lines.counted.Given as goal

abbrev pub invariant-loop-line : goal.invariant-loop-line
invariant-loop-line l = record {
  few : l.count ≤ l.line-index;
  rest : l.count + counted l.word (map (λ line. line.now) (drop l.line-index l.lines)) ≡ counted l.word (map (λ line. line.now) l.lines);
}
