-- One more field is defined, if its type is one of the list.
use Rattle.std.proofs.Common.{◌++◌, [], ◌∷◌, ap, sym, ◌∙◌}
use Rattle.dialect.specs.Grammar.{field_of}
use Rattle.dialect.proofs.Keys.{filter_map-more, filter_map-no_more}
use Rattle.dialect.proofs.message.fields_of.Goals as goal
use Rattle.dialect.proofs.message.fields_of.Goals.{in-Some+in_ok-push, in_default}

pub loop-field-preserved : goal.loop-field-preserved
loop-field-preserved c = elim c.match-branch-2.branch [
  | in-Some+in_ok-push w ↦
      ap (λ v. v.items) w.defined-is ∙ w.in_ok-push.ensures.items
      ∙ ap (λ items. items ++ w.in-Some.field ∷ []) c.loop-field.invariant
      ∙ sym (filter_map-more field_of c.args.fields.now c.loop-field.field-index c.field-item.result c.loop-field-test.true c.field-item.is
      w.in-Some.field (sym c.in_ok-field.ensures ∙ w.in-Some.is))
  | in_default w ↦
      ap (λ v. v.items) w.defined-is ∙ c.loop-field.invariant
      ∙ sym (filter_map-no_more field_of c.args.fields.now c.loop-field.field-index c.field-item.result c.loop-field-test.true c.field-item.is
      (sym c.in_ok-field.ensures ∙ w.in_default.is))
]
