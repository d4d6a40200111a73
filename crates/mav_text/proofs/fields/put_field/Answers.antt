use Rattle.std.proofs.lemmas.Result.{err_from_is_err_and}
use Rattle.std.proofs.Common.{◌≡◌, ℕ, List, ◌∷◌, [], ◌++◌, IfOk, take, ap, ◌∙◌, subst}
use Rattle.field_layout.specs.Types.{element_size}
use Rattle.field_layout.specs.Definition.{element_count}
use Rattle.field_layout.specs.Reading.{words_from}
use Rattle.mav_text.specs.FrameText.{field_text, value_text}
use Rattle.mav_text.proofs.FieldSteps.{together}
use Rattle.mav_text.proofs.fields.put_field.Goals as goal

pub returns-clause-text : goal.returns-clause-text
returns-clause-text c =
    let field = c.args.field.now in let out = c.args.out.now.items in
    let words = words_from c.args.payload.now c.args.offset (element_size field.ty) (element_count field) in
    let text : List ℕ = take c.args.at c.args.chunk.now in
    let after = c.put_name.new.out.items in let behind : List ℕ = take c.in_ok-end.end c.put_name.new.chunk in
    let name : after ++ behind ≡ (out ++ (text ++ 32 ∷ [])) ++ field.name =
    c.in_ok-end.ensures.text ∙ (λ i. (out ++ c.put_byte-end.ensures.text i) ++ c.bytes.ensures i) in
    let put : after ++ take c.put_value-end.result c.put_value-end.new.chunk ≡ (out ++ text) ++ field_text field words =
    ap (λ (t : List ℕ). after ++ t) (c.put_value-end.ensures.text ∙ ap (λ (t : List ℕ). t ++ value_text field words) c.put_byte-end-2.ensures.text)
    ∙ together out text after behind field.name (value_text field words) name in
    let P : List ℕ → Type 0 = λ whole. IfOk c.append_enough.result (λ end. c.append_enough.new.out.items ++ take end c.put_value-end.new.chunk ≡ whole) in
    subst P put c.append_enough.ensures.text

pub returns-in_err-end-clause-text : goal.returns-in_err-end-clause-text
returns-in_err-end-clause-text c = rw (err_from_is_err_and c.from_residual.result c.from_residual.ensures.1).1 tt

pub returns-in_err-end-clause-room : goal.returns-in_err-end-clause-room
returns-in_err-end-clause-room c = rw (err_from_is_err_and c.from_residual.result c.from_residual.ensures.1).1 tt

pub returns-in_err-end-clause-prefix : goal.returns-in_err-end-clause-prefix
returns-in_err-end-clause-prefix c = c.put_name.ensures.prefix
