use Rattle.std.proofs.Common.{sym, ◌∙◌}
use Rattle.param_proto.proofs.IdIndex.{indexed_none, indexed_twice, indexed_more, indexed_all, indexed_apart}
use Rattle.param_proto.proofs.places.index_ids.Goals as goal

pub loop-at-init : goal.loop-at-init
loop-at-init c = indexed_none c.args.params.now c.in_ok-places.places.entries c.in_ok-places.ensures.empty

pub returns-then-not-branch-clause-fault : goal.returns-then-not-branch-clause-fault
returns-then-not-branch-clause-fault c =
    indexed_twice c.args.params.now c.loop-at.places.entries c.loop-at.at _ c.loop-at.invariant c.loop-at-test.true (sym c.if-not-branch.true ∙ c.in_ok-add_place.ensures.new)

pub loop-at-preserved : goal.loop-at-preserved
loop-at-preserved c =
    indexed_more c.args.params.now c.loop-at.places.entries c.add_place.new.places.entries c.loop-at.at _ c.loop-at.invariant c.loop-at-test.true (sym c.if-not-branch.false ∙ c.in_ok-add_place.ensures.new) c.in_ok-add_place.ensures.added

pub returns-clause-places : goal.returns-clause-places
returns-clause-places c = indexed_all c.args.params.now c.loop-at.places.entries c.loop-at.at c.loop-at.invariant c.loop-at-test.false

pub returns-clause-apart : goal.returns-clause-apart
returns-clause-apart c = indexed_apart c.args.params.now c.loop-at.places.entries c.loop-at.at c.loop-at.invariant c.loop-at-test.false
