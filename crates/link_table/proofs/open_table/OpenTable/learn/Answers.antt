use Rattle.std.proofs.Common.{rules, arith, ℕ, ◌∙◌, ap, sym, subst, ◌<◌, ◌^◌, set, get_or}
use Rattle.std.specs.Int.Bits.{bit_or}
use Rattle.link_table.specs.OpenLinks.{StandsFor, Words}
use Rattle.link_table.proofs.OpenLearning.{learned}
use Rattle.link_table.proofs.open_table.OpenTable.learn.Goals as goal

pub returns : goal.returns
returns c = λ links within of.
    let words : Words = record { nodes = c.self.inside.nodes.items; systems = c.self.inside.systems.items } in
    let stands = subst (λ (w : Words). StandsFor w links) (sym c.self.view_is) of in
    let sys : c.args.from.sys < 256 = search rules in
    let comp : c.args.from.comp < 256 = search rules in
    let lengths = c.self.invariant in
    learned words links c.args.link c.node_index.result c.args.from c.mark.new.words.items c.mark-2.new.words.items sys comp c.node_index.ensures.index (omega (arith, lengths.0, c.node_index.ensures.within)) (omega (arith, lengths.1, sys)) c.mark.ensures (c.mark-2.ensures ∙ ap (λ (i : ℕ). set words.systems i (bit_or (get_or words.systems i 0) (2 ^ c.args.link))) c.from.ensures) within stands
