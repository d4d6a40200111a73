-- The fields that were read, and those of the values that are left.
use Rattle.std.proofs.Common.{◌∙◌, sym, map}
use Rattle.std.proofs.lemmas.Result.{err_from_is_err_and}
use Rattle.serde_json.specs.View.{view}
use Rattle.dialect.specs.Shape.{each_field}
use Rattle.dialect.proofs.Elements.{behind-none, with-field, without-field, each_field-done}
use Rattle.dialect.proofs.shape.each_field.Goals as goal

pub loop-value-init : goal.loop-value-init
loop-value-init c = behind-none c.new-fields.result.items (each_field (map view c.args.values.now)) c.new-fields.ensures.items

pub returns-in_err-push-in-Some : goal.returns-in_err-push-in-Some
returns-in_err-push-in-Some c =
    let e = err_from_is_err_and c.from_residual.result c.from_residual.ensures.1 in
    rw e.1 tt

pub returns-in-None : goal.returns-in-None
returns-in-None c =
    without-field c.args.values.now c.loop-value.value-index c.value-item.result c.loop-value-test.true c.value-item.is
    c.loop-value.fields.items (each_field (map view c.args.values.now)) c.loop-value.invariant (sym c.field_in.ensures ∙ c.in-None.is)

pub loop-value-preserved : goal.loop-value-preserved
loop-value-preserved c =
    with-field c.args.values.now c.loop-value.value-index c.value-item.result c.loop-value-test.true c.value-item.is
    c.loop-value.fields.items (each_field (map view c.args.values.now)) c.loop-value.invariant
    c.in-Some.field c.push.new.self.items (sym c.field_in.ensures ∙ c.in-Some.is) c.in_ok-push-in-Some.ensures.items

pub returns : goal.returns
returns c =
    each_field-done c.args.values.now c.loop-value.value-index c.loop-value.fields.items (each_field (map view c.args.values.now))
    c.loop-value-test.false c.loop-value.invariant
