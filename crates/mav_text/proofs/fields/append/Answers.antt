use Rattle.std.proofs.Common.{◌≡◌, ℕ, List, [], ◌++◌, take, vec_len, ap, ◌∙◌}
use Rattle.field_layout.specs.Definition.{Definition, all_fields, base_len_of}
use Rattle.mav_frame.specs.Packet.{Packet}
use Rattle.mav_text.specs.FrameText.{block_text, fields_text, frame_text, sender_text, version_text, value_bytes, words_in}
use Rattle.std.proofs.lemmas.Result.{err_from_is_err_and}
use Rattle.mav_text.proofs.FieldSteps.{frame_together}
use Rattle.mav_text.proofs.SkipSteps.{kept_same, kept_more}
use Rattle.mav_text.proofs.fields.append.Goals as goal

pub returns-clause-ok : goal.returns-clause-ok
returns-clause-ok c =
    let def = c.args.layout.now in let frame = c.args.frame.now in let out = c.args.out.now.items in
    let out1 = c.put_name.new.out.items in let out3 = c.put_fields_of.new.out.items in
    let text1 : List ℕ = take c.in_ok-end.end c.put_name.new.chunk in
    let text2 : List ℕ = take c.put_version-end.result c.put_version-end.new.chunk in
    let text3 : List ℕ = take c.in_ok-end-2.end c.put_fields_of.new.chunk in
    let name : c.bytes.result.now ≡ def.name = c.bytes.ensures ∙ (ap (λ (d : Definition). d.name) c.behind-layout.view_is ∙ ap (λ (d : Definition). d.name) c.def.ensures.same) in
    let sender : text2 ≡ (text1 ++ sender_text frame) ++ version_text frame.old =
    c.put_version-end.ensures.text ∙ (ap (λ (t : List ℕ). t ++ version_text c.frame.inside.old) c.put_sender-end.ensures.text
    ∙ ap (λ (p : Packet). (text1 ++ sender_text p) ++ version_text p.old) c.frame.view_is) in
    let block : take c.put_block_of-end.result c.put_block_of-end.new.chunk ≡ text3 ++ block_text frame.block =
    c.put_block_of-end.ensures.text ∙ ap (λ (p : Packet). text3 ++ block_text p.block) c.frame.view_is in
    let whole : out3 ++ take c.put_block_of-end.result c.put_block_of-end.new.chunk ≡ out ++ frame_text def frame =
    ap (λ (t : List ℕ). out3 ++ t) block
    ∙ frame_together out out1 text1 out1 text2 out3 text3 def.name (sender_text frame) (version_text frame.old) (fields_text (words_in def (value_bytes (base_len_of def) frame)) 0 (all_fields def)) (block_text frame.block)
    (c.in_ok-end.ensures.text ∙ (λ i. (out ++ []) ++ name i))
    (ap (λ (t : List ℕ). out1 ++ t) sender)
    c.in_ok-end-2.ensures.text in
    c.in_ok-extend_from_slice.ensures.items ∙ whole

pub returns-in_err-end-clause-ok : goal.returns-in_err-end-clause-ok
returns-in_err-end-clause-ok c =
    let e = err_from_is_err_and c.from_residual.result c.from_residual.ensures.1 in
    rw e.1 tt

pub returns-in_err-end-clause-err : goal.returns-in_err-end-clause-err
returns-in_err-end-clause-err c =
    let e = err_from_is_err_and c.from_residual.result c.from_residual.ensures.1 in
    rw e.1 c.put_name.ensures.prefix

pub returns-in_err-end-2-clause-ok : goal.returns-in_err-end-2-clause-ok
returns-in_err-end-2-clause-ok c =
    let e = err_from_is_err_and c.from_residual-in_err-end-2.result c.from_residual-in_err-end-2.ensures.1 in
    rw e.1 tt

pub returns-in_err-end-2-clause-err : goal.returns-in_err-end-2-clause-err
returns-in_err-end-2-clause-err c =
    let e = err_from_is_err_and c.from_residual-in_err-end-2.result c.from_residual-in_err-end-2.ensures.1 in
    rw e.1 (kept_more c.args.out.now.items c.put_name.new.out.items c.put_fields_of.new.out.items (vec_len c.args.out.now) (vec_len c.put_name.new.out)
    c.args.out.now.ok.0 c.put_name.new.out.ok.0 c.put_name.ensures.prefix c.put_fields_of.ensures.prefix)

pub returns-in_err-extend_from_slice-clause-ok : goal.returns-in_err-extend_from_slice-clause-ok
returns-in_err-extend_from_slice-clause-ok c =
    let e = err_from_is_err_and c.from_residual-in_err-extend_from_slice.result c.from_residual-in_err-extend_from_slice.ensures.1 in
    rw e.1 tt

pub returns-in_err-extend_from_slice-clause-err : goal.returns-in_err-extend_from_slice-clause-err
returns-in_err-extend_from_slice-clause-err c =
    let e = err_from_is_err_and c.from_residual-in_err-extend_from_slice.result c.from_residual-in_err-extend_from_slice.ensures.1 in
    let out = c.args.out.now in let out1 = c.put_name.new.out in let out2 = c.put_fields_of.new.out in
    rw e.1 (kept_more out.items out2.items c.extend_from_slice.new.self.items (vec_len out) (vec_len out2) out.ok.0 out2.ok.0
    (kept_more out.items out1.items out2.items (vec_len out) (vec_len out1) out.ok.0 out1.ok.0 c.put_name.ensures.prefix c.put_fields_of.ensures.prefix)
    (kept_same out2.items c.extend_from_slice.new.self.items (vec_len out2) out2.ok.0 c.in_err-extend_from_slice.ensures.items))
