use Rattle.std.proofs.Common.{◌≡◌, ◌-◌, ℕ, List, ◌++◌, IfOk, length, take, ap, ◌∙◌, subst}
use Rattle.mav_text.specs.TemplateText.{LineTemplate, FieldTemplate, field_templates_text}
use Rattle.mav_text.proofs.TemplateSteps.{field_templates_zeros}
use Rattle.mav_text.proofs.line_template.LineTemplate.put_fields.Goals as goal

pub returns-then-payload-self-clause-text : goal.returns-then-payload-self-clause-text
returns-then-payload-self-clause-text c =
    let payload : List ℕ = c.args.payload.now in let field_templates : List FieldTemplate = c.deref.result.now in
    let P : List ℕ → Type 0 = λ t. IfOk c.put_field_templates.result (λ left. c.put_field_templates.new.out.items ++ take left c.put_field_templates.new.chunk ≡ (c.args.out.now.items ++ take c.args.at c.args.chunk.now) ++ t) in
    let zeros : field_templates_text c.with_zeros.result field_templates ≡ field_templates_text payload field_templates =
    ap (λ (bytes : List ℕ). field_templates_text bytes field_templates) c.with_zeros.ensures ∙ field_templates_zeros payload (255 - length payload) field_templates in
    let own : field_templates ≡ c.args.self.now.field_templates = c.deref.ensures.value ∙ ap (λ (r : LineTemplate). r.field_templates) c.self.view_is in
    subst P (zeros ∙ ap (field_templates_text payload) own) c.put_field_templates.ensures.text
