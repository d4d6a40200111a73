use Rattle.std.proofs.Common.{◌∙◌, ◌+◌, ◌++◌, List, ℕ, drop, ap, sym, subst, arith}
use Rattle.std.proofs.lemmas.Option.{get_or_from_slice_get}
use Rattle.mav_router.specs.declared.entries.Entry.{Entry}
use Rattle.mav_router.proofs.Journals.{element}
use Rattle.mav_ports.specs.Puts.{Sent}
use Rattle.route_command.specs.Texts.{entry_line, entry_lines}
use Rattle.route_command.proofs.Pieces.{if_err, entries_left, held_more, moved_on, front_on}
use Rattle.route_command.proofs.entry_lines.write_entries.Goals as goal

pub returns-in_err-put_entry-clause-halted : goal.returns-in_err-put_entry-clause-halted
returns-in_err-put_entry-clause-halted g c =
    if_err c.from_residual.result (λ before whole rest s. (c.loop-at.lines.items ++ (entry_lines (drop c.loop-at.at c.args.journal.now) ++ rest), c.loop-at.invariant.sent before whole rest s))

pub returns-in_err-write_enough-clause-halted : goal.returns-in_err-write_enough-clause-halted
returns-in_err-write_enough-clause-halted g c =
    let journal = c.args.journal.now in
    let at = c.loop-at.at in
    let entry = element journal at (omega (arith, c.loop-at-test.true, c.len-at-end.ensures)) in
    if_err c.from_residual-in_err-write_enough.result (λ before whole rest s.
    let more = entry_lines (drop (c.loop-at.at + 1) journal) ++ rest in
    let now = g.K.Sink.sent c.loop-at.out in
    front_on before now (g.K.Sink.sent c.write_enough.new.out) whole c.put_entry.new.lines.items more c.in_err-write_enough.ensures.front
    (held_more before now now whole c.loop-at.lines.items (entry_line entry.0) c.put_entry.new.lines.items more (c.in_ok-put_entry.ensures ∙ ap (λ (e : Entry). c.loop-at.lines.items ++ entry_line e) (λ i. record { port = (c.look-outcome.ensures entry.0 entry.1 i).0.port; frame = (c.look-outcome.ensures entry.0 entry.1 i).1; admit = (c.look-outcome.ensures entry.0 entry.1 i).0.admit; ways = (c.look-outcome.ensures entry.0 entry.1 i).0.ways }))
    (subst (λ (xs : List ℕ). Sent before now whole (c.loop-at.lines.items ++ xs)) (entries_left journal at entry.0 entry.0 rest (omega (arith, c.loop-at-test.true, c.len-at-end.ensures)) (sym (get_or_from_slice_get journal at entry.0 entry.0 entry.1))) (c.loop-at.invariant.sent before whole rest s))))

pub loop-at-preserved : goal.loop-at-preserved
loop-at-preserved g c =
    let journal = c.args.journal.now in
    let at = c.loop-at.at in
    let entry = element journal at (omega (arith, c.loop-at-test.true, c.len-at-end.ensures)) in
    record {
      sent = λ before whole rest s.
          let more = entry_lines (drop (c.loop-at.at + 1) journal) ++ rest in
          let now = g.K.Sink.sent c.loop-at.out in
          moved_on before now (g.K.Sink.sent c.write_enough.new.out) whole c.put_entry.new.lines.items c.write_enough.new.lines.items more c.in_ok-write_enough.ensures.moved
          (held_more before now now whole c.loop-at.lines.items (entry_line entry.0) c.put_entry.new.lines.items more (c.in_ok-put_entry.ensures ∙ ap (λ (e : Entry). c.loop-at.lines.items ++ entry_line e) (λ i. record { port = (c.look-outcome.ensures entry.0 entry.1 i).0.port; frame = (c.look-outcome.ensures entry.0 entry.1 i).1; admit = (c.look-outcome.ensures entry.0 entry.1 i).0.admit; ways = (c.look-outcome.ensures entry.0 entry.1 i).0.ways }))
          (subst (λ (xs : List ℕ). Sent before now whole (c.loop-at.lines.items ++ xs)) (entries_left journal at entry.0 entry.0 rest (omega (arith, c.loop-at-test.true, c.len-at-end.ensures)) (sym (get_or_from_slice_get journal at entry.0 entry.0 entry.1))) (c.loop-at.invariant.sent before whole rest s)));
      refusals = c.in_ok-write_enough.ensures.sound ∙ c.loop-at.invariant.refusals;
    }
