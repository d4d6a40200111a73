use Rattle.param_proto.proofs.IdIndex.{Indexed}
use Rattle.param_proto.proofs.places.index_ids.Given as goal

abbrev pub invariant-loop-at : goal.invariant-loop-at
invariant-loop-at l = Indexed l.params l.places.entries l.at
