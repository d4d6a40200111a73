use Rattle.std.proofs.Common.{◌≡◌, ℕ, List, ◌∷◌, ◌++◌, Some, length, take, vec_len, refl, sym, ap, ◌∙◌, arith, append-nil, drop_of_length-le}
use Rattle.std.specs.Prelude.{slice_get}
use Rattle.field_layout.specs.declared.fields.Field.{Field}
use Rattle.field_layout.specs.Types.{element_size}
use Rattle.field_layout.specs.Definition.{Definition, all_fields, element_count}
use Rattle.field_layout.specs.WireOrder.{offset_of}
use Rattle.field_layout.specs.Reading.{words_from}
use Rattle.field_layout.proofs.Faultless.{short_payload}
use Rattle.field_layout.proofs.Decoding.{place_room}
use Rattle.mav_text.specs.FrameText.{field_text, fields_text, value_text, words_in}
use Rattle.mav_text.proofs.FieldSteps.{field_put}
use Rattle.mav_text.proofs.SkipSteps.{kept_more}
use Rattle.mav_text.proofs.fields.put_all.Goals as goal

pub put_field-requires-clause-within : goal.put_field-requires-clause-within
put_field-requires-clause-within c =
    let def = c.args.layout.now in let number = c.loop-number.number in
    let got : slice_get (all_fields def) number ≡ Some c.field.result.now = ap (λ (d : Definition). slice_get (all_fields d) number) (sym c.def-def.ensures.same) ∙ c.field.ensures in
    omega (arith, c.requires.payload, c.offset.ensures, c.from-offset.ensures, place_room def number c.field.result.now got, short_payload def c.def-def.ensures.faultless)

pub loop-number-preserved : goal.loop-number-preserved
loop-number-preserved c =
    let l = c.loop-number in
    let def = c.args.layout.now in let number = l.number in let field = c.field.result.now in let payload = c.args.payload.now in
    let got : slice_get (all_fields def) number ≡ Some field = ap (λ (d : Definition). slice_get (all_fields d) number) (sym c.def-def.ensures.same) ∙ c.field.ensures in
    let words = words_in def payload in
    let at : c.from-offset.result ≡ offset_of def number = c.from-offset.ensures ∙ c.offset.ensures in
    let now = l.out.items ++ take l.end l.chunk in
    let put : c.put_field.new.out.items ++ take c.in_ok-end.end c.put_field.new.chunk ≡ now ++ field_text field (words number field) =
    c.in_ok-end.ensures.text ∙ ap (λ (n : ℕ). now ++ field_text field (words_from payload n (element_size field.ty) (element_count field))) at in
    record {
      room = c.in_ok-end.ensures.room;
      kept = kept_more c.args.out.now.items l.out.items c.put_field.new.out.items (vec_len c.args.out.now) (vec_len l.out) c.args.out.now.ok.0 l.out.ok.0 l.invariant.kept c.in_ok-end.ensures.prefix;
      text = field_put words number (all_fields def) field now _ field.name (61 ∷ value_text field (words number field)) got put refl refl ∙ l.invariant.text;
    }

pub returns-in_err-end-clause-prefix : goal.returns-in_err-end-clause-prefix
returns-in_err-end-clause-prefix c =
    let l = c.loop-number in
    kept_more c.args.out.now.items l.out.items c.put_field.new.out.items (vec_len c.args.out.now) (vec_len l.out) c.args.out.now.ok.0 l.out.ok.0 l.invariant.kept c.in_err-end.ensures.prefix

pub returns-clause-text : goal.returns-clause-text
returns-clause-text c =
    let l = c.loop-number in let def = c.args.layout.now in let now = l.out.items ++ take l.end l.chunk in
    let count = ap (λ (d : Definition). length (all_fields d)) c.def-def.ensures.same in
    sym (append-nil now)
    ∙ (ap (λ (fields : List Field). now ++ fields_text (words_in def c.args.payload.now) l.number fields) (sym (drop_of_length-le (all_fields def) (omega (arith, c.field_count-number-end.ensures, count, c.loop-number-test.false)))) ∙ l.invariant.text)
