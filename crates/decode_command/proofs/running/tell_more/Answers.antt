use Rattle.std.proofs.Common.{refl}
use Rattle.std.proofs.lemmas.Result.{err_from_is_err_and}
use Rattle.decode_command.proofs.Halts.{halts_unfed, halts_written}
use Rattle.decode_command.proofs.Results.{on_ok, on_any, if_err}
use Rattle.decode_command.proofs.Telling.{tells_more, tells_written, tells_cut, tells_front}
use Rattle.decode_command.proofs.running.tell_more.Goals as goal

pub returns-in_err-tell_span-clause-same : goal.returns-in_err-tell_span-clause-same
returns-in_err-tell_span-clause-same g c = c.in_err-tell_span.ensures.same

pub returns-in_err-tell_span-clause-load : goal.returns-in_err-tell_span-clause-load
returns-in_err-tell_span-clause-load g c = c.in_err-tell_span.ensures.load

pub returns-in_err-tell_span-clause-told : goal.returns-in_err-tell_span-clause-told
returns-in_err-tell_span-clause-told g c = let e = err_from_is_err_and c.from_residual.result c.from_residual.ensures.1 in rw e.1 (λ ended taken before h. tt)

pub returns-in_err-tell_span-clause-fewer : goal.returns-in_err-tell_span-clause-fewer
returns-in_err-tell_span-clause-fewer g c = let e = err_from_is_err_and c.from_residual.result c.from_residual.ensures.1 in rw e.1 tt

pub returns-in_err-tell_span-clause-halted : goal.returns-in_err-tell_span-clause-halted
returns-in_err-tell_span-clause-halted g c =
    let e = err_from_is_err_and c.from_residual.result c.from_residual.ensures.1 in
    let teller = c.args.teller.now in
    rw e.1 (λ ended taken before h.
    tells_front ended taken before (g.T.Teller.telling teller) (g.T.Teller.telling teller) (g.T.Teller.has_told teller) c.args.text.now.items (g.K.Sink.sent c.args.out.now) refl
    (λ told has. g.met.T.Teller.leads teller ended taken told has) h)

pub returns-in_err-tell_span-clause-halts : goal.returns-in_err-tell_span-clause-halts
returns-in_err-tell_span-clause-halts g c = let e = err_from_is_err_and c.from_residual.result c.from_residual.ensures.1 in rw (e.1, e.2) (halts_unfed _ _ refl)

pub returns-clause-same : goal.returns-clause-same
returns-clause-same g c = c.in_ok-tell_span.ensures.same

pub returns-clause-load : goal.returns-clause-load
returns-clause-load g c = c.in_ok-tell_span.ensures.load

pub returns-clause-told : goal.returns-clause-told
returns-clause-told g c = λ ended taken before h.
    let now = g.K.Sink.sent c.args.out.now in let teller = c.tell_span.new.teller in
    on_ok c.write_enough.result c.write_enough.ensures.moved (λ moved.
    tells_written ended taken before (g.T.Teller.has_told teller) c.tell_span.new.text.items c.write_enough.new.lines.items now (g.K.Sink.sent c.write_enough.new.out)
    (tells_more ended taken before (g.T.Teller.has_told c.args.teller.now) (g.T.Teller.has_told teller) c.args.text.now.items c.tell_span.new.text.items now h (c.in_ok-tell_span.ensures.told ended taken h.told h.has))
    moved)

pub returns-clause-fewer : goal.returns-clause-fewer
returns-clause-fewer g c = on_any c.write_enough.result c.in_ok-tell_span.ensures.fewer

pub returns-clause-halted : goal.returns-clause-halted
returns-clause-halted g c = λ ended taken before h.
    let now = g.K.Sink.sent c.args.out.now in let teller = c.tell_span.new.teller in
    if_err c.write_enough.result
    (tells_cut ended taken before (g.T.Teller.telling c.args.teller.now) (g.T.Teller.telling teller) (g.T.Teller.has_told teller) c.tell_span.new.text.items now (g.K.Sink.sent c.write_enough.new.out) c.in_ok-tell_span.ensures.same
    (λ told has. g.met.T.Teller.leads teller ended taken told has)
    (tells_more ended taken before (g.T.Teller.has_told c.args.teller.now) (g.T.Teller.has_told teller) c.args.text.now.items c.tell_span.new.text.items now h (c.in_ok-tell_span.ensures.told ended taken h.told h.has))
    c.write_enough.ensures.front)

pub returns-clause-halts : goal.returns-clause-halts
returns-clause-halts g c = let wrote = c.write_enough.ensures in halts_written c.write_enough.result _ _ _ refl wrote.error wrote.rose wrote.sound
