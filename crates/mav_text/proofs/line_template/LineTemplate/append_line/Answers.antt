use Rattle.std.proofs.Common.{◌≡◌, Bool, true, false, List, [], ◌∷◌, ℕ, ◌++◌, length, take, refl, sym, ap, ◌∙◌, arith}
use Rattle.std.proofs.lemmas.List.{take_all}
use Rattle.std.specs.Fmt.{decimal}
use Rattle.mav_frame.specs.Looks.{packet_at}
use Rattle.mav_text.specs.FrameText.{sender_text, version_text, value_bytes, block_text}
use Rattle.mav_text.specs.TemplateText.{field_templates_text}
use Rattle.mav_text.proofs.TemplateSteps.{line_put}
use Rattle.mav_text.proofs.line_template.LineTemplate.append_line.Goals as goal

version_of : (is_old : Bool) (frame : List ℕ) → (packet_at is_old frame).old ≡ is_old
version_of true frame = refl
version_of false frame = refl

pub returns-clause-ok : goal.returns-clause-ok
returns-clause-ok c =
    let frame : List ℕ = c.args.frame.now in let ending : List ℕ = c.args.ending.now in
    let packet = packet_at c.args.is_old frame in let line_template = c.args.self.now in
    let out : List ℕ = c.args.out.now.items in
    let head : List ℕ = take c.put_head-head.result c.put_head-head.new.chunk in
    let before : List ℕ = take c.put_signed_by-block.result c.put_signed_by-block.new.chunk in
    line_put out c.put_fields.new.out.items c.extend_from_slice.new.self.items (decimal c.args.offset) line_template.name (sender_text packet) (version_text packet.old) (field_templates_text (value_bytes line_template.base_len packet) line_template.field_templates) (block_text packet.block) ending
    head (take c.in_ok-fields.fields c.put_fields.new.chunk) before (take c.put_part-end.result c.put_part-end.new.chunk)
    (c.put_head-head.ensures.text ∙ ap (λ (old : Bool). (((decimal c.args.offset ++ 32 ∷ []) ++ line_template.name) ++ sender_text packet) ++ version_text old) (sym (version_of c.args.is_old frame)))
    (c.in_ok-fields.ensures.text ∙ ap (λ (bytes : List ℕ). (out ++ head) ++ field_templates_text bytes line_template.field_templates) c.value_bytes-payload.ensures.bytes)
    c.put_signed_by-block.ensures.text
    (c.put_part-end.ensures.text ∙ ap (λ (t : List ℕ). before ++ t) (take_all (length ending) ending (omega arith)))
    c.in_ok-extend_from_slice.ensures.items
