use Rattle.std.proofs.Common.{◌≡◌, ℕ, Bool, List, [], ◌∷◌, ◌++◌, take, ap, ◌∙◌, append_assoc}
use Rattle.std.proofs.lemmas.Result.{err_from_is_err_and}
use Rattle.std.specs.Fmt.{decimal}
use Rattle.mav_frame.specs.Packet.{Packet}
use Rattle.mav_frame.specs.Looks.{packet_at}
use Rattle.mav_text.specs.FrameText.{frame_text}
use Rattle.mav_text.proofs.SkipSteps.{kept_same, kept_prefix}
use Rattle.mav_text.proofs.line_templates.append_by_layout.Goals as goal

-- three pieces were appended
pieces : (out o1 o2 o3 number text ending : List ℕ) → o1 ≡ out ++ (number ++ 32 ∷ []) → o2 ≡ o1 ++ text → o3 ≡ o2 ++ ending → o3 ≡ out ++ ((number ++ 32 ∷ text) ++ ending)
pieces out o1 o2 o3 number text ending first second third =
    third ∙ (ap (λ (t : List ℕ). t ++ ending) (second ∙ ap (λ (t : List ℕ). t ++ text) first) ∙ simp append_assoc)

pub returns-in_err-extend_from_slice-clause-ok : goal.returns-in_err-extend_from_slice-clause-ok
returns-in_err-extend_from_slice-clause-ok c =
    let e = err_from_is_err_and c.from_residual.result c.from_residual.ensures.1 in
    rw e.1 tt

pub returns-in_err-extend_from_slice-clause-err : goal.returns-in_err-extend_from_slice-clause-err
returns-in_err-extend_from_slice-clause-err c =
    let e = err_from_is_err_and c.from_residual.result c.from_residual.ensures.1 in
    rw e.1 (kept_same c.args.out.now.items c.extend_from_slice.new.self.items _ c.args.out.now.ok.0 c.in_err-extend_from_slice.ensures.items)

pub returns-in_err-put_fields-clause-ok : goal.returns-in_err-put_fields-clause-ok
returns-in_err-put_fields-clause-ok c =
    let e = err_from_is_err_and c.from_residual-in_err-put_fields.result c.from_residual-in_err-put_fields.ensures.1 in
    rw e.1 tt

pub returns-in_err-put_fields-clause-err : goal.returns-in_err-put_fields-clause-err
returns-in_err-put_fields-clause-err c =
    let e = err_from_is_err_and c.from_residual-in_err-put_fields.result c.from_residual-in_err-put_fields.ensures.1 in
    rw e.1 (kept_prefix c.args.out.now.items _ c.put_fields.new.out.items _ c.args.out.now.ok.0 (c.in_err-put_fields.ensures.err ∙ c.in_ok-extend_from_slice.ensures.items))

pub returns-in_err-extend_from_slice-2-clause-ok : goal.returns-in_err-extend_from_slice-2-clause-ok
returns-in_err-extend_from_slice-2-clause-ok c =
    let e = err_from_is_err_and c.from_residual-in_err-extend_from_slice-2.result c.from_residual-in_err-extend_from_slice-2.ensures.1 in
    rw e.1 tt

pub returns-in_err-extend_from_slice-2-clause-err : goal.returns-in_err-extend_from_slice-2-clause-err
returns-in_err-extend_from_slice-2-clause-err c =
    let e = err_from_is_err_and c.from_residual-in_err-extend_from_slice-2.result c.from_residual-in_err-extend_from_slice-2.ensures.1 in
    let out = c.args.out.now.items in let text = frame_text c.args.layout.now c.frame_at.result in
    let put : c.put_fields.new.out.items ≡ c.extend_from_slice.new.self.items ++ text = c.in_ok-put_fields.ensures.ok in
    rw e.1 (kept_prefix out (take c.put_offset-end.result c.put_offset-end.new.chunk ++ text) c.extend_from_slice-2.new.self.items _ c.args.out.now.ok.0
    (c.in_err-extend_from_slice-2.ensures.items ∙ (put ∙ (ap (λ (t : List ℕ). t ++ text) c.in_ok-extend_from_slice.ensures.items ∙ append_assoc out _ text))))

pub returns-clause-ok : goal.returns-clause-ok
returns-clause-ok c =
    let out = c.args.out.now.items in
    pieces out c.extend_from_slice.new.self.items c.put_fields.new.out.items c.extend_from_slice-2.new.self.items (decimal c.args.offset) _ c.args.ending.now
    (c.in_ok-extend_from_slice.ensures.items ∙ ap (λ (t : List ℕ). out ++ t) c.put_offset-end.ensures.text)
    (c.in_ok-put_fields.ensures.ok ∙ ap (λ (p : Packet). c.extend_from_slice.new.self.items ++ frame_text c.args.layout.now p) (c.frame_at.ensures ∙ ap (λ (v : Bool). packet_at v c.args.frame.now) c.requires.version))
    c.in_ok-extend_from_slice-2.ensures.items
