use Rattle.std.proofs.Common.{◌≡◌}
use Rattle.mav_router.specs.Runs.{RunGoesOn, KeepsTurns, DidBetween}
use Rattle.mav_router.proofs.waiting.run_port.Given as goal

abbrev pub invariant-loop-turn : goal.invariant-loop-turn
invariant-loop-turn g l = record {
  rules : l.switch.rules ≡ l.initial.switch.rules;
  so_far : RunGoesOn g.L.Link.state l.initial.switch l.switch l.initial.links l.links l.initial.lanes l.lanes;
  turns : KeepsTurns l.most l.initial.lanes l.lanes;
  done : DidBetween 0 l.most l.initial.lanes l.awaited → DidBetween l.turn l.most l.lanes l.awaited;
}
