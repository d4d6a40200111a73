-- The new layout's index comes after those of the others.
use Rattle.std.proofs.Common.{◌==◌, ◌++◌, ◌∷◌, [], cond, length, Some, sym, ap, ◌∙◌}
use Rattle.std.specs.HashMap.{get}
use Rattle.dialect.specs.Grammar.{has_id}
use Rattle.dialect.specs.Indices.{index_with}
use Rattle.mav_profile.specs.Messages.{id_of}
use Rattle.dialect.proofs.Keys.{index-more}
use Rattle.dialect.proofs.layouts.Layouts.add.Goals as goal

pub invariant_of-self-2 : goal.invariant_of-self-2
invariant_of-self-2 c = λ id.
    let defs = c.self.inside.layouts.items in
    let pushed = rw c.unwrap.ensures at c.push.ensures.items in
    let key = ap id_of (c.behind-layout.view_is ∙ c.def.ensures.same) in
    c.in_ok-insert.ensures.updates.0 id
    ∙ ap (λ key. cond (key == id) (Some c.len.result) (get ◌==◌ c.self.inside.indices id)) key
    ∙ ap (λ count. cond (c.args.layout.id == id) (Some count) (get ◌==◌ c.self.inside.indices id)) (c.len.ensures ∙ c.reserve.new.self.ok.0 ∙ ap length c.reserve.ensures.items)
    ∙ ap (λ old. cond (c.args.layout.id == id) (Some (length defs)) old) (c.self.invariant id)
    ∙ index-more defs c.args.layout id (ap (λ old. has_id old c.args.layout.id) c.self.view_is ∙ c.requires)
    ∙ ap (index_with id) (ap (λ items. items ++ c.args.layout ∷ []) (sym c.reserve.ensures.items) ∙ sym pushed)
