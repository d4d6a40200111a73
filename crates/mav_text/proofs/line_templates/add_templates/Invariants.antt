use Rattle.std.proofs.Common.{◌≡◌, length}
use Rattle.mav_text.specs.TemplateText.{HasIndices}
use Rattle.mav_text.proofs.line_templates.add_templates.Given as goal

abbrev pub invariant-loop-index : goal.invariant-loop-index
invariant-loop-index l = record {
  len : length l.low.items ≡ 65536;
  indices : HasIndices l.dialect l.line_templates.items l.low.items;
}
