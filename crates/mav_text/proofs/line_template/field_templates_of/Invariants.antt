use Rattle.std.proofs.Common.{◌≡◌, ◌++◌, drop}
use Rattle.field_layout.specs.Definition.{all_fields}
use Rattle.mav_text.specs.TemplateText.{field_templates_from, are_short}
use Rattle.mav_text.proofs.line_template.field_templates_of.Given as goal

abbrev pub invariant-loop-number : goal.invariant-loop-number
invariant-loop-number l = record {
  made : l.field_templates.items ++ field_templates_from l.layout l.number (drop l.number (all_fields l.layout)) ≡ field_templates_from l.layout 0 (all_fields l.layout);
  short : are_short (field_templates_from l.layout 0 (all_fields l.layout)) ≡ are_short (field_templates_from l.layout l.number (drop l.number (all_fields l.layout)));
}
