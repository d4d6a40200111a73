use Rattle.std.proofs.Common.{◌≡◌, ◌≤◌, ◌++◌, drop, take, vec_len}
use Rattle.mav_text.specs.TemplateText.{field_templates_text}
use Rattle.mav_text.proofs.line_template.put_field_templates.Given as goal

abbrev pub invariant-loop-field_template : goal.invariant-loop-field_template
invariant-loop-field_template l = record {
  room : l.left ≤ 512;
  kept : take (vec_len l.fn.out) l.out.items ≡ l.fn.out.items;
  text : (l.out.items ++ take l.left l.chunk) ++ field_templates_text l.payload (drop l.field_template-index l.field_templates) ≡ (l.fn.out.items ++ take l.at l.fn.chunk) ++ field_templates_text l.payload l.field_templates;
}
