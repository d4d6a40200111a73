use Rattle.std.proofs.Common.{◌∙◌, sym, subst}
use Rattle.link_table.specs.OpenLinks.{StandsFor, Words}
use Rattle.link_table.proofs.OpenLearning.{closed}
use Rattle.link_table.proofs.open_table.OpenTable.close.Goals as goal

pub returns : goal.returns
returns c = λ links within of.
    let words : Words = record { nodes = c.self.inside.nodes.items; systems = c.self.inside.systems.items } in
    let stands = subst (λ (w : Words). StandsFor w links) (sym c.self.view_is) of in
    let lengths = c.self.invariant in
    closed words links c.args.link c.close_in.new.words.items c.close_in-2.new.words.items (c.close_in.ensures.count ∙ lengths.0) (c.close_in-2.ensures.count ∙ lengths.1) c.close_in.ensures.words c.close_in-2.ensures.words within stands
