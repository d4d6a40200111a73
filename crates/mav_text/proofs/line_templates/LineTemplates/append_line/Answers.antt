use Rattle.std.proofs.Common.{◌≡◌, List, ℕ, ◌++◌, OnOk, ap, ◌∙◌, subst}
use Rattle.mav_profile.specs.Messages.{definition_with}
use Rattle.mav_frame.specs.Looks.{packet_at}
use Rattle.mav_text.specs.TemplateText.{line_of}
use Rattle.mav_text.proofs.TemplateSteps.{line_by_template}
use Rattle.mav_text.proofs.line_templates.LineTemplates.append_line.Goals as goal

pub returns-in-Some-clause-ok : goal.returns-in-Some-clause-ok
returns-in-Some-clause-ok c =
    let defs = c.args.self.now in let frame : List ℕ = c.args.frame.now in let is_old = c.args.is_old in let ending : List ℕ = c.args.ending.now in
    let P : List ℕ → Type 0 = λ t. OnOk c.append_line.result (c.append_line.new.out.items ≡ c.args.out.now.items ++ t) in
    let line = line_by_template (definition_with c.read_id-id.result defs) c.in-Some.line_template.now c.args.offset (packet_at is_old frame) ending c.in-Some.ensures in
    let id = ap (λ (n : ℕ). line_of (definition_with n defs) c.args.offset (packet_at is_old frame) ending) c.read_id-id.ensures in
    subst P (line ∙ id) c.append_line.ensures.ok
