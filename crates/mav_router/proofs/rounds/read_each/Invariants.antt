use Rattle.std.proofs.Common.{◌≡◌, ◌<◌}
use Rattle.mav_router.specs.Runs.{RunGoesOn, KeepsTurns, TurnsOnce}
use Rattle.mav_router.proofs.rounds.read_each.Given as goal

abbrev pub invariant-loop-at : goal.invariant-loop-at
invariant-loop-at g l = record {
  rules : l.switch.rules ≡ l.initial.switch.rules;
  so_far : RunGoesOn g.L.Link.state l.initial.switch l.switch l.initial.links l.links l.initial.lanes l.lanes;
  turns : KeepsTurns l.most l.initial.lanes l.lanes;
  turned : l.asked < l.at → TurnsOnce l.most l.asked l.initial.lanes l.lanes;
}
