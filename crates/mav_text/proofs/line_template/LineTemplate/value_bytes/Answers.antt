use Rattle.std.proofs.Common.{◌≡◌, ◌+◌, ◌-◌, Bool, take, drop, sym, subst, ap, ◌∙◌}
use Rattle.mav_frame.specs.Looks.{packet_at}
use Rattle.mav_text.specs.FrameText.{value_bytes}
use Rattle.mav_text.specs.TemplateText.{LineTemplate}
use Rattle.mav_text.proofs.line_template.LineTemplate.value_bytes.Goals as goal

pub returns-then-is_old-clause-bytes : goal.returns-then-is_old-clause-bytes
returns-then-is_old-clause-bytes c =
    let frame = c.args.frame.now in
    let base = ap (λ (t : LineTemplate). t.base_len) c.self.view_is in
    subst (λ (is_old : Bool). c.base_bytes.result.now ≡ value_bytes c.args.self.now.base_len (packet_at is_old frame)) (sym c.if-is_old.true)
    (c.base_bytes.ensures.bytes ∙ (λ i. take (base i) (take (6 + c.from-len.ensures i - 6) (drop 6 frame))))
