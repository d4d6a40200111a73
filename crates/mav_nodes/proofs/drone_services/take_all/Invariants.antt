use Rattle.std.proofs.Common.{◌≡◌, ◌++◌, length}
use Rattle.mav_nodes.proofs.drone_services.take_all.Given as goal

abbrev pub invariant-loop-answer : goal.invariant-loop-answer
invariant-loop-answer l = record {
  params : l.server.params ≡ l.initial.server.params;
  taken : l.answers.items ++ l.server.waiting ≡ l.initial.answers.items ++ l.initial.server.waiting;
}

abbrev pub decreases-loop-answer : goal.decreases-loop-answer
decreases-loop-answer l = length l.server.waiting
