use Rattle.std.proofs.Common.{◌≡◌, ℕ, List, ◌∙◌, sym, subst, arith}
use Rattle.field_layout.specs.Definition.{all_fields, full_len_of}
use Rattle.field_layout.proofs.Faultless.{short_payload}
use Rattle.mav_text.specs.TemplateText.{FieldTemplate, AreWithin, field_templates_from}
use Rattle.mav_text.proofs.TemplateSteps.{all_within}
use Rattle.mav_text.proofs.line_template.LineTemplate.of.Goals as goal

pub invariant_of-result : goal.invariant_of-result
invariant_of-result c =
    let def = c.args.layout.now in
    let len : c.from-2.result ≡ full_len_of def = c.from-2.ensures ∙ c.full_len.ensures in
    let field_templates : c.in-Some-2.field_templates.items ≡ field_templates_from def 0 (all_fields def) = rw c.in-Some-2.is at c.in_ok-field_templates.ensures.field_templates in
    let P : ℕ → Type 0 = λ n. AreWithin n c.in-Some-2.field_templates.items in
    let Q : List FieldTemplate → Type 0 = λ ss. AreWithin (full_len_of def) ss in
    (omega (arith, short_payload def c.def.ensures.faultless), subst P (sym len) (subst Q (sym field_templates) (all_within def)))
