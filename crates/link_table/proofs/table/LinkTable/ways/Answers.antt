use Rattle.std.proofs.Common.{nat_le, ap, ◌∙◌}
use Rattle.link_table.specs.Table.{Masks}
use Rattle.link_table.proofs.Bits.{ways_in_bits}
use Rattle.link_table.proofs.table.LinkTable.ways.Goals as goal

pub returns : goal.returns
returns c = λ learned of.
    c.of.ensures
    ∙ ways_in_bits c.args.self.now.ports learned c.args.own c.args.target c.first_ports.result c.other_ports.result c.ports_of.result
    (λ port from to. c.first_ports.ensures port from to ∙ ap (λ (masks : Masks). nat_le port masks.ports) c.self.view_is) c.other_ports.ensures
    (λ port from to. c.ports_of.ensures learned port from to of)
