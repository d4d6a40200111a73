-- The new name is in no message yet, and is removed again if the layout isn't kept.
use Rattle.std.proofs.Common.{◌≡◌, ◌++◌, ◌∷◌, [], OnOk, ap, subst, ◌∙◌}
use Rattle.std.proofs.lemmas.Result.{err_from_is_err_and}
use Rattle.std.specs.List.{list_any}
use Rattle.std.specs.Str.{bytes_eq}
use Rattle.dialect.specs.Grammar.{has_id, has_name}
use Rattle.mav_profile.specs.Messages.{name_of}
use Rattle.dialect.proofs.Keys.{list_any-map, names-cut, names-added}
use Rattle.dialect.proofs.known.Known.add.Goals as goal

pub add-requires : goal.add-requires
add-requires c =
    ap (λ name. list_any (bytes_eq name) c.self.inside.names) (c.bytes.ensures ∙ ap name_of (c.behind-layout.view_is ∙ c.def.ensures.same))
    ∙ ap (list_any (bytes_eq c.args.layout.name)) c.self.invariant
    ∙ list_any-map name_of (bytes_eq c.args.layout.name) c.self.inside.layouts
    ∙ ap (λ defs. has_name defs c.args.layout.name) c.self.view_is
    ∙ c.requires.name

pub invariant_of-self : goal.invariant_of-self
invariant_of-self c = c.in_err-add.ensures.unchanged ∙ c.self.invariant

pub returns-in_err-add : goal.returns-in_err-add
returns-in_err-add c =
    let e = err_from_is_err_and c.from_residual.result c.from_residual.ensures.1 in
    rw e.1 tt

pub add-added-requires : goal.add-added-requires
add-added-requires c = ap (λ defs. has_id defs c.args.layout.id) c.self.view_is ∙ c.requires.id

pub returns-then-is_err : goal.returns-then-is_err
returns-then-is_err c =
    subst (λ defs. OnOk c.add-added.result (c.add-added.new.self ≡ defs ++ c.args.layout ∷ [])) c.self.view_is c.add-added.ensures.added

pub returns-else-is_err : goal.returns-else-is_err
returns-else-is_err c =
    subst (λ defs. OnOk c.add-added.result (c.add-added.new.self ≡ defs ++ c.args.layout ∷ [])) c.self.view_is c.add-added.ensures.added

pub invariant_of-self-then-is_err : goal.invariant_of-self-then-is_err
invariant_of-self-then-is_err c =
    names-cut name_of c.self.inside.names c.add.new.self c.bytes.result.now c.self.inside.layouts c.add-added.new.self c.add-added.result
    c.in_ok-add.ensures.added c.self.invariant c.cut.new.self c.len-count.result c.cut.ensures c.len-count.ensures c.if-is_err.ensures.value c.add-added.ensures.unchanged

pub invariant_of-self-else-is_err : goal.invariant_of-self-else-is_err
invariant_of-self-else-is_err c =
    names-added name_of c.self.inside.names c.add.new.self c.bytes.result.now c.self.inside.layouts c.add-added.new.self c.add-added.result
    c.in_ok-add.ensures.added c.self.invariant c.args.layout (c.bytes.ensures ∙ ap name_of (c.behind-layout.view_is ∙ c.def.ensures.same))
    c.if-is_err.ensures.value c.add-added.ensures.added
