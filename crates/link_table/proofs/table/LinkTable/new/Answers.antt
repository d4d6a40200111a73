use Rattle.link_table.proofs.Learning.{nothing_learned}
use Rattle.link_table.proofs.table.LinkTable.new.Goals as goal

pub returns-clause-learned : goal.returns-clause-learned
returns-clause-learned c =
    nothing_learned c.args.ports _ _ (c.in_ok-nodes.ensures.items_if_clones_equal (λ y e. e)) (c.in_ok-systems.ensures.items_if_clones_equal (λ y e. e))
