use Rattle.std.proofs.Common.{◌≡◌}
use Rattle.mav_router.specs.Runs.{RunGoesOn, KeepsTurns}
use Rattle.mav_router.proofs.waiting.await_port.Given as goal

abbrev pub invariant-loop-look : goal.invariant-loop-look
invariant-loop-look g l = record {
  rules : l.switch.rules ≡ l.initial.switch.rules;
  so_far : RunGoesOn g.L.Link.state l.initial.switch l.switch l.initial.links l.links l.initial.lanes l.lanes;
  turns : KeepsTurns l.most l.initial.lanes l.lanes;
}
