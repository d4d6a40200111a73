use Rattle.std.proofs.Common.{◌≡◌}
use Rattle.test_routes.proofs.threaded.replays.Given as goal

abbrev pub invariant-loop-at : goal.invariant-loop-at
invariant-loop-at l = l.switch.rules.ports ≡ 8
