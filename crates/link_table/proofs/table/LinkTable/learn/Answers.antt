use Rattle.std.proofs.Common.{rules, arith, refl, ℕ, ◌∙◌, ap, sym, subst, ◌<◌, ◌^◌, ◌-◌, set, get_or}
use Rattle.std.specs.Int.Bits.{bit_or}
use Rattle.link_table.specs.Table.{Masks, Represents}
use Rattle.link_table.proofs.Learning.{learned_by}
use Rattle.link_table.proofs.table.LinkTable.learn.Goals as goal

pub returns-clause-learned : goal.returns-clause-learned
returns-clause-learned c = λ learned of.
    let masks : Masks = record { ports = c.self.inside.ports; nodes = c.self.inside.nodes.items; systems = c.self.inside.systems.items } in
    let rep = subst (λ (m : Masks). Represents m learned) (sym c.self.view_is) of in
    let sys : c.args.from.sys < 256 = search rules in
    let comp : c.args.from.comp < 256 = search rules in
    let lengths = c.self.invariant in
    learned_by masks learned c.args.port c.node_index.result c.args.from c.mark.new.masks.items masks.nodes c.mark-2.new.masks.items masks.systems c.requires.from sys comp c.node_index.ensures.index (omega (arith, lengths.1, c.node_index.ensures.within)) (omega (arith, lengths.2, sys)) refl refl c.mark.ensures (c.mark-2.ensures ∙ ap (λ (i : ℕ). set masks.systems i (bit_or (get_or masks.systems i 0) (2 ^ (c.args.port - 1)))) c.from.ensures) rep
