use Rattle.field_layout.specs.declared.fields.Field.{Field}
use Rattle.std.proofs.Common.{◌≡◌, ℕ, Some, None, sym, ap, ◌∙◌, refl, List, ◌++◌, length, ◌≤◌, arith, append-nil, drop_of_length-le}
use Rattle.std.proofs.lemmas.Result.{err_from_is_err_and}
use Rattle.std.specs.Prelude.{slice_get}
use Rattle.field_layout.specs.Definition.{Definition, all_fields}
use Rattle.field_layout.specs.WireOrder.{offset_of}
use Rattle.mav_text.specs.TemplateText.{field_template_at, field_template_of, if_short, FieldTemplate, field_templates_from, are_short}
use Rattle.mav_text.proofs.TemplateSteps.{field_template_made, field_template_pushed, short_next, long_here}
use Rattle.mav_text.proofs.line_template.field_templates_of.Goals as goal

pub returns-in_default-clause-short : goal.returns-in_default-clause-short
returns-in_default-clause-short c =
    let def = c.args.layout.now in let number = c.loop-number.number in let field = c.field.result.now in
    let got : slice_get (all_fields def) number ≡ Some field = ap (λ (d : Definition). slice_get (all_fields d) number) (sym c.def-def.ensures.same) ∙ c.field.ensures in
    let at : c.from-at.result ≡ offset_of def number = c.from-at.ensures ∙ c.offset.ensures in
    let none : if_short (field_template_of def number field) ≡ None = ap (λ (n : ℕ). if_short (field_template_at n field)) (sym at) ∙ (sym c.of.ensures ∙ c.in_default.is) in
    sym (c.loop-number.invariant.short ∙ long_here def number field got none)

pub loop-number-preserved : goal.loop-number-preserved
loop-number-preserved c =
    let def = c.args.layout.now in let number = c.loop-number.number in let field = c.field.result.now in
    let got : slice_get (all_fields def) number ≡ Some field = ap (λ (d : Definition). slice_get (all_fields d) number) (sym c.def-def.ensures.same) ∙ c.field.ensures in
    let at : c.from-at.result ≡ offset_of def number = c.from-at.ensures ∙ c.offset.ensures in
    let some : if_short (field_template_of def number field) ≡ Some c.in-Some.field_template = ap (λ (n : ℕ). if_short (field_template_at n field)) (sym at) ∙ (sym c.of.ensures ∙ c.in-Some.is) in
    let made = field_template_made (field_template_of def number field) c.in-Some.field_template some in
    record {
      made = field_template_pushed def number field c.in-Some.field_template c.loop-number.field_templates.items c.push.new.self.items got made.1 c.in_ok-push.ensures.items ∙ c.loop-number.invariant.made;
      short = c.loop-number.invariant.short ∙ short_next def number field got made.0;
    }

pub returns-in_err-push-clause-field_templates : goal.returns-in_err-push-clause-field_templates
returns-in_err-push-clause-field_templates c =
    let e = err_from_is_err_and c.from_residual.result c.from_residual.ensures.1 in
    rw e.1 tt

pub returns-in_err-push-clause-short : goal.returns-in_err-push-clause-short
returns-in_err-push-clause-short c =
    let e = err_from_is_err_and c.from_residual.result c.from_residual.ensures.1 in
    rw e.1 tt

pub loop-number-init : goal.loop-number-init
loop-number-init c =
    let def = c.args.layout.now in
    record { made = ap (λ (made : List FieldTemplate). made ++ field_templates_from def 0 (all_fields def)) c.new-field_templates.ensures.items; short = refl }

pub returns-clause-field_templates : goal.returns-clause-field_templates
returns-clause-field_templates c =
    let def = c.args.layout.now in let number = c.loop-number.number in let made = c.loop-number.field_templates.items in
    let count = c.field_count-number-end.ensures ∙ ap (λ (d : Definition). length (all_fields d)) c.def-def.ensures.same in
    let end : length (all_fields def) ≤ number = omega (arith, count, c.loop-number-test.false) in
    sym (append-nil made) ∙ (ap (λ (fields : List Field). made ++ field_templates_from def number fields) (sym (drop_of_length-le (all_fields def) end)) ∙ c.loop-number.invariant.made)

pub returns-clause-short : goal.returns-clause-short
returns-clause-short c =
    let def = c.args.layout.now in let number = c.loop-number.number in
    let count = c.field_count-number-end.ensures ∙ ap (λ (d : Definition). length (all_fields d)) c.def-def.ensures.same in
    let end : length (all_fields def) ≤ number = omega (arith, count, c.loop-number-test.false) in
    sym (c.loop-number.invariant.short ∙ ap (λ (fields : List Field). are_short (field_templates_from def number fields)) (drop_of_length-le (all_fields def) end))

pub offset-requires : goal.offset-requires
offset-requires c =
    let count = c.field_count-number-end.ensures ∙ ap (λ (d : Definition). length (all_fields d)) c.def-def.ensures.same in
    omega (arith, count, c.loop-number-test.true)

pub field-requires : goal.field-requires
field-requires c = omega (arith, c.field_count-number-end.ensures, c.loop-number-test.true)
