use Rattle.link_table.proofs.OpenLearning.{nothing_open}
use Rattle.link_table.proofs.open_table.OpenTable.new.Goals as goal

pub returns : goal.returns
returns c =
    nothing_open _ _ (c.in_ok-nodes.ensures.items_if_clones_equal (λ y e. e)) (c.in_ok-systems.ensures.items_if_clones_equal (λ y e. e))
