use Rattle.std.proofs.Common.{◌≡◌, ◌<◌, ℕ}
use Rattle.mav_router.specs.Runs.{RunGoesOn, IsDrained, AllTurned}
use Rattle.mav_router.proofs.rounds.write_each.Given as goal

abbrev pub invariant-loop-at : goal.invariant-loop-at
invariant-loop-at g l = record {
  rules : l.switch.rules ≡ l.initial.switch.rules;
  journal : l.switch.journal ≡ l.initial.switch.journal;
  so_far : RunGoesOn g.L.Link.state l.initial.switch l.switch l.initial.links l.links l.initial.lanes l.lanes;
  turned : (turns : ℕ) → AllTurned l.initial.lanes turns → AllTurned l.lanes turns;
  drained : (k : ℕ) → k < l.at → IsDrained l.switch l.lanes k;
}
