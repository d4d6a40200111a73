use Rattle.std.proofs.lemmas.Option.{slice_get_read}
use Rattle.std.proofs.Common.{List, ◌++◌, take, vec_len, sym, ap, ◌∙◌, append-nil, drop_of_length-le, refl, length}
use Rattle.std.proofs.lemmas.Result.{err_from_is_err_and}
use Rattle.mav_text.specs.TemplateText.{FieldTemplate, field_template_text, field_templates_text}
use Rattle.mav_text.proofs.SkipSteps.{kept_more, kept_same}
use Rattle.mav_text.proofs.TemplateSteps.{field_templates_next, text_put}
use Rattle.mav_text.proofs.line_template.put_field_templates.Goals as goal

pub loop-field_template-preserved : goal.loop-field_template-preserved
loop-field_template-preserved c =
    let l = c.loop-field_template in let payload = c.args.payload.now in let field_template = c.field_template-item.result in
    let put = text_put l.out.items c.append_enough.new.out.items (take c.put-end.result c.put-end.new.chunk) (field_template_text payload field_template) (take l.left l.chunk) (take c.in_ok-left.left c.put-end.new.chunk) c.put-end.ensures.text c.in_ok-left.ensures.text in
    record {
      room = c.in_ok-left.ensures.room;
      kept = kept_more c.args.out.now.items l.out.items c.append_enough.new.out.items (vec_len c.args.out.now) (vec_len l.out) c.args.out.now.ok.0 l.out.ok.0 l.invariant.kept c.in_ok-left.ensures.prefix;
      text = field_templates_next (l.out.items ++ take l.left l.chunk) (c.append_enough.new.out.items ++ take c.in_ok-left.left c.put-end.new.chunk) payload l.field_template-index c.args.field_templates.now field_template c.loop-field_template-test.true c.field_template-item.is put ∙ l.invariant.text;
    }

pub returns-in_err-left-clause-prefix : goal.returns-in_err-left-clause-prefix
returns-in_err-left-clause-prefix c =
    let l = c.loop-field_template in
    kept_more c.args.out.now.items l.out.items c.append_enough.new.out.items (vec_len c.args.out.now) (vec_len l.out) c.args.out.now.ok.0 l.out.ok.0 l.invariant.kept c.in_err-left.ensures.prefix

pub returns-clause-text : goal.returns-clause-text
returns-clause-text c =
    let l = c.loop-field_template in let now = l.out.items ++ take l.left l.chunk in
    sym (append-nil now)
    ∙ (ap (λ (field_templates : List FieldTemplate). now ++ field_templates_text c.args.payload.now field_templates) (sym (drop_of_length-le c.args.field_templates.now c.loop-field_template-test.false)) ∙ l.invariant.text)

pub returns-in_err-left-clause-room : goal.returns-in_err-left-clause-room
returns-in_err-left-clause-room c =
    let e = err_from_is_err_and c.from_residual.result c.from_residual.ensures.1 in
    rw e.1 tt

pub returns-in_err-left-clause-text : goal.returns-in_err-left-clause-text
returns-in_err-left-clause-text c =
    let e = err_from_is_err_and c.from_residual.result c.from_residual.ensures.1 in
    rw e.1 tt

pub loop-field_template-init : goal.loop-field_template-init
loop-field_template-init c = record { room = c.requires.room; kept = kept_same c.args.out.now.items c.args.out.now.items (vec_len c.args.out.now) c.args.out.now.ok.0 refl; text = refl }

pub put-end-requires-clause-within : goal.put-end-requires-clause-within
put-end-requires-clause-within c = c.requires.within c.loop-field_template.field_template-index c.field_template-item.result (slice_get_read c.args.field_templates.now (length c.args.field_templates.now) _ _ refl c.loop-field_template-test.true c.field_template-item.is)

pub put-end-requires-clause-room : goal.put-end-requires-clause-room
put-end-requires-clause-room c = c.loop-field_template.invariant.room

pub append_enough-requires : goal.append_enough-requires
append_enough-requires c = c.put-end.ensures.index

pub returns-clause-prefix : goal.returns-clause-prefix
returns-clause-prefix c = c.loop-field_template.invariant.kept
