use Rattle.std.proofs.Common.{◌≡◌, ◌<◌, ℕ}
use Rattle.mav_router.specs.Runs.{RunGoesOn, KeepsTurns, DidBetween}
use Rattle.mav_router.proofs.waiting.run_ports.Given as goal

abbrev pub invariant-loop-awaited : goal.invariant-loop-awaited
invariant-loop-awaited g l = record {
  rules : l.switch.rules ≡ l.initial.switch.rules;
  so_far : RunGoesOn g.L.Link.state l.initial.switch l.switch l.initial.links l.links l.initial.lanes l.lanes;
  turns : KeepsTurns l.most l.initial.lanes l.lanes;
  done : (k : ℕ) → k < l.awaited → DidBetween l.most l.most l.lanes k;
}
