use Rattle.std.proofs.Common.{◌≡◌, ℕ}
use Rattle.mav_router.specs.Runs.{RunGoesOn, KeepsTurns}
use Rattle.mav_router.proofs.rounds.write_each_now.Given as goal

abbrev pub invariant-loop-at : goal.invariant-loop-at
invariant-loop-at g l = record {
  rules : l.switch.rules ≡ l.initial.switch.rules;
  so_far : RunGoesOn g.L.Link.state l.initial.switch l.switch l.initial.links l.links l.initial.lanes l.lanes;
  turns : (most : ℕ) → KeepsTurns most l.initial.lanes l.lanes;
}
