use Rattle.link_table.proofs.Bits.{all_bits}
use Rattle.link_table.proofs.table.LinkTable.ports_of.Goals as goal

pub returns-then-target-eq0 : goal.returns-then-target-eq0
returns-then-target-eq0 c = λ learned port from to of. rw c.if-target-eq0.true (all_bits port from to)
