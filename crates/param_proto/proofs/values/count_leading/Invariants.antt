use Rattle.std.proofs.Common.{length, ◌-◌, ◌≤◌}
use Rattle.param_proto.specs.Views.{leading}
use Rattle.param_proto.proofs.values.count_leading.Given as goal

abbrev pub invariant-loop-known : goal.invariant-loop-known
invariant-loop-known l = l.known ≤ leading l.taken

abbrev pub decreases-loop-known : goal.decreases-loop-known
decreases-loop-known l = length l.taken - l.known
