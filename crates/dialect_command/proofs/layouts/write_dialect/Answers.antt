use Rattle.std.proofs.Common.{◌≡◌, ◌∙◌, ◌+◌, ◌++◌, Some, sym, ap, subst, refl, arith, length, drop}
use Rattle.std.specs.List.{flat_map}
use Rattle.std.specs.Result.{result_err}
use Rattle.std.specs.Option.{option_copied}
use Rattle.std.specs.Prelude.{slice_get}
use Rattle.std.proofs.lemmas.Result.{err_from_is_err_and}
use Rattle.mav_ports.specs.Puts.{Sent}
use Rattle.mav_ports.proofs.Known.{sent_start, sent_step}
use Rattle.mav_text.specs.LayoutText.{layout_text, dialect_text}
use Rattle.dialect_command.specs.Writes.{WroteText, count_line}
use Rattle.dialect_command.proofs.Writings.{lines_left, nothing_left, wrote_front, wrote_last}
use Rattle.dialect_command.proofs.layouts.write_dialect.Goals as goal

pub loop-place-init : goal.loop-place-init
loop-place-init g c = record { sent = sent_start (g.K.Sink.sent c.args.out.now) (dialect_text c.args.dialect.now); refusals = refl }

pub returns-in_err-write_message : goal.returns-in_err-write_message
returns-in_err-write_message g c =
    let defs = c.args.dialect.now in
    let place = c.loop-place.place in
    let last = count_line (length defs) in
    let before = g.K.Sink.sent c.args.out.now in
    let now = g.K.Sink.sent c.loop-place.out in
    let there : slice_get defs place ≡ Some c.unwrap.result.now = sym c.at.ensures ∙ ap (λ o. option_copied o) c.unwrap.ensures in
    let e = err_from_is_err_and c.from_residual.result c.from_residual.ensures.1 in
    rw (e.1, e.2)
    (wrote_front before now (g.K.Sink.sent c.write_message.new.out) (g.K.Sink.faults c.args.out.now) (g.K.Sink.faults c.loop-place.out) (g.K.Sink.faults c.write_message.new.out)
    c.loop-place.invariant.refusals (dialect_text defs) (layout_text c.unwrap.result.now) (flat_map layout_text (drop (place + 1) defs) ++ last) c.in_err-write_message.field-0.0
    (subst (λ rest. Sent before now (dialect_text defs) rest) (lines_left defs place c.unwrap.result.now last there) c.loop-place.invariant.sent)
    c.in_err-write_message.ensures)

pub loop-place-preserved : goal.loop-place-preserved
loop-place-preserved g c =
    let defs = c.args.dialect.now in
    let place = c.loop-place.place in
    let last = count_line (length defs) in
    let before = g.K.Sink.sent c.args.out.now in
    let now = g.K.Sink.sent c.loop-place.out in
    let there : slice_get defs place ≡ Some c.unwrap.result.now = sym c.at.ensures ∙ ap (λ o. option_copied o) c.unwrap.ensures in
    record {
      sent = sent_step before now (g.K.Sink.sent c.write_message.new.out) (dialect_text defs) (layout_text c.unwrap.result.now) (flat_map layout_text (drop (place + 1) defs) ++ last)
          (subst (λ rest. Sent before now (dialect_text defs) rest) (lines_left defs place c.unwrap.result.now last there) c.loop-place.invariant.sent)
          c.in_ok-write_message.ensures.0;
      refusals = c.in_ok-write_message.ensures.1 ∙ c.loop-place.invariant.refusals;
    }

pub returns : goal.returns
returns g c =
    let defs = c.args.dialect.now in
    let place = c.loop-place.place in
    let last = count_line (length defs) in
    let before = g.K.Sink.sent c.args.out.now in
    let now = g.K.Sink.sent c.loop-place.out in
    let after = g.K.Sink.sent c.write_count.new.out in
    wrote_last before now after (g.K.Sink.faults c.args.out.now) (g.K.Sink.faults c.loop-place.out) (g.K.Sink.faults c.write_count.new.out)
    c.loop-place.invariant.refusals (dialect_text defs) last (result_err c.write_count.result)
    (subst (λ rest. Sent before now (dialect_text defs) rest) (nothing_left defs place last (omega (arith, c.loop-place-test.false, c.len-place-end.ensures))) c.loop-place.invariant.sent)
    (subst (λ messages. WroteText (count_line messages) (result_err c.write_count.result) (g.K.Sink.faults c.loop-place.out) (g.K.Sink.faults c.write_count.new.out) now after) c.len.ensures c.write_count.ensures)
