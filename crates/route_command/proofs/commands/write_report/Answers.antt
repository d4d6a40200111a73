use Rattle.std.proofs.Common.{◌∙◌, ◌++◌, inr, List, ℕ, None, subst, sym, ap, refl, Err}
use Rattle.std.proofs.lemmas.Result.{err_from_is_err_and}
use Rattle.mav_ports.specs.Counts.{Rose}
use Rattle.mav_ports.specs.Puts.{Sent}
use Rattle.mav_ports.proofs.Known.{sent_start}
use Rattle.route_command.specs.Texts.{port_lines, route_text}
use Rattle.route_command.proofs.Pieces.{on_ok, wrote_front, wrote_last}
use Rattle.route_command.proofs.commands.write_report.Goals as goal

pub returns-in_err-write_entries : goal.returns-in_err-write_entries
returns-in_err-write_entries g c =
    let text = route_text c.args.journal.now c.args.ends.now in
    let before = g.K.Sink.sent c.args.out.now in
    let e = err_from_is_err_and c.from_residual-in_err-write_entries.result c.from_residual-in_err-write_entries.ensures.1 in
    rw (e.1, e.2)
    (record {
      wrote = wrote_front None text (g.K.Sink.faults c.args.out.now) (g.K.Sink.faults c.write_entries.new.out) before (g.K.Sink.sent c.write_entries.new.out) c.in_err-write_entries.field-0.0
          c.in_err-write_entries.ensures.error (λ is. c.in_err-write_entries.ensures.rose (ap Err is)) (λ other. c.in_err-write_entries.ensures.sound (λ is. other (cc is)))
          (c.in_err-write_entries.ensures.halted before text (port_lines 1 c.args.ends.now)
          (subst (λ (held : List ℕ). Sent before before text (held ++ text)) (sym (c.in_ok-reserve.ensures.items ∙ c.new-lines.ensures.items)) (sent_start before text)));
    })

pub returns-in_err-put_ends : goal.returns-in_err-put_ends
returns-in_err-put_ends g c =
    let text = route_text c.args.journal.now c.args.ends.now in
    let before = g.K.Sink.sent c.args.out.now in
    let e = err_from_is_err_and c.from_residual-in_err-put_ends.result c.from_residual-in_err-put_ends.ensures.1 in
    rw (e.1, e.2)
    (record {
      wrote = inr (inr (
        refl,
        c.in_ok-write_entries.ensures.sound (λ never. cc never),
        (
          c.write_entries.new.lines.items ++ port_lines 1 c.args.ends.now,
          c.in_ok-write_entries.ensures.written before text (port_lines 1 c.args.ends.now)
              (subst (λ (held : List ℕ). Sent before before text (held ++ text)) (sym (c.in_ok-reserve.ensures.items ∙ c.new-lines.ensures.items)) (sent_start before text)),
        ),
      ));
    })

pub returns : goal.returns
returns g c =
    let text = route_text c.args.journal.now c.args.ends.now in
    let before = g.K.Sink.sent c.args.out.now in
    let same = c.in_ok-write_entries.ensures.sound (λ never. cc never) in
    let held : Sent before (g.K.Sink.sent c.write_entries.new.out) text c.put_ends.new.lines.items =
    subst (λ (xs : List ℕ). Sent before (g.K.Sink.sent c.write_entries.new.out) text xs) (sym c.in_ok-put_ends.ensures)
    (c.in_ok-write_entries.ensures.written before text (port_lines 1 c.args.ends.now)
    (subst (λ (xs : List ℕ). Sent before before text (xs ++ text)) (sym (c.in_ok-reserve.ensures.items ∙ c.new-lines.ensures.items)) (sent_start before text))) in
    record {
      wrote = wrote_last None text (g.K.Sink.faults c.args.out.now) (g.K.Sink.faults c.write_held.new.out) before (g.K.Sink.sent c.write_held.new.out) c.write_held.result c.write_held.new.lines.items
          (on_ok c.write_held.result c.write_held.ensures.writes.moved (λ moved. moved before text held)) c.write_held.ensures.empty (c.write_held.ensures.writes.front before text held) c.write_held.ensures.writes.error
          (λ refused. subst (λ (n : ℕ). Rose n (g.K.Sink.faults c.write_held.new.out)) same (c.write_held.ensures.writes.rose refused))
          (on_ok c.write_held.result c.write_held.ensures.writes.sound (λ kept. kept ∙ same));
    }
