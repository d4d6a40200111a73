use Rattle.std.proofs.Common.{ℕ, List, ◌++◌, ap, ◌∙◌}
use Rattle.mav_frame.specs.Looks.{packet_at}
use Rattle.mav_text.specs.FrameText.{sender_text, version_text}
use Rattle.mav_text.specs.TemplateText.{LineTemplate}
use Rattle.mav_text.proofs.line_template.LineTemplate.put_head.Goals as goal

pub returns-clause-text : goal.returns-clause-text
returns-clause-text c =
    let frame = packet_at c.args.is_old c.args.frame.now in
    let start = c.put_offset-index.ensures.text in let name = ap (λ (t : LineTemplate). t.name) c.self.view_is in
    c.put_version.ensures.text
    ∙ ap (λ (text : List ℕ). text ++ version_text c.args.is_old) (c.put_sender_of-index.ensures.text ∙ ap (λ (text : List ℕ). text ++ sender_text frame) (c.put-index.ensures.text ∙ (λ i. start i ++ name i)))
