use Rattle.std.proofs.Common.{ℕ, List, ◌++◌, true, refl, sym, ap, ◌∙◌, subst}
use Rattle.std.proofs.lemmas.Result.{err_from_is_err_and}
use Rattle.mav_ports.specs.Puts.{Sent}
use Rattle.mav_ports.proofs.Known.{sent_all}
use Rattle.decode_command.proofs.Halts.{halts_unfed, halts_there, halts_written}
use Rattle.decode_command.specs.Tellings.{Telling}
use Rattle.decode_command.proofs.Results.{if_err, on_ok_both}
use Rattle.decode_command.proofs.Telling.{longer_front, closed}
use Rattle.decode_command.proofs.running.finish.Goals as goal

pub returns-in_err-tell_all-clause-halted : goal.returns-in_err-tell_all-clause-halted
returns-in_err-tell_all-clause-halted g c =
    let e = err_from_is_err_and c.from_residual.result c.from_residual.ensures.1 in
    let t = g.T.Teller.telling c.args.teller.now in
    rw e.1 (λ taken before h.
    longer_front before (g.K.Sink.sent c.tell_all.new.out) ((g.T.Teller.telling c.end.new.self).told true taken) (t.closing taken) (t.told true taken ++ t.closing taken)
    (ap (λ (z : Telling). z.told true taken ++ t.closing taken) (sym c.end.ensures.same))
    (c.in_err-tell_all.ensures.halted true taken before (record { told = h.told; has = c.end.ensures.told taken h.told h.has; sent = h.sent })))

pub returns-in_err-close-clause-halted : goal.returns-in_err-close-clause-halted
returns-in_err-close-clause-halted g c =
    let e = err_from_is_err_and c.from_residual-in_err-close.result c.from_residual-in_err-close.ensures.1 in
    let t = g.T.Teller.telling c.args.teller.now in
    rw e.1 (λ taken before h.
    let all = c.in_ok-tell_all.ensures.told true taken before (record { told = h.told; has = c.end.ensures.told taken h.told h.has; sent = h.sent }) in
    longer_front before (g.K.Sink.sent c.tell_all.new.out) all.tells.told (t.closing taken) (t.told true taken ++ t.closing taken)
    (ap (λ (text : List ℕ). text ++ t.closing taken) (sym (all.all ∙ ap (λ (z : Telling). z.told true taken) c.end.ensures.same)))
    (c.tell_all.new.text.items, all.tells.sent))

pub returns-clause-done : goal.returns-clause-done
returns-clause-done g c = λ taken before h.
    let t = g.T.Teller.telling c.args.teller.now in let last = g.T.Teller.telling c.tell_all.new.teller in
    let all = c.in_ok-tell_all.ensures.told true taken before (record { told = h.told; has = c.end.ensures.told taken h.told h.has; sent = h.sent }) in
    let whole = closed t taken all.tells.told c.tell_all.new.text.items c.close.new.text.items (last.closing taken) before (g.K.Sink.sent c.tell_all.new.out) all.tells.sent
    (all.all ∙ ap (λ (z : Telling). z.told true taken) c.end.ensures.same) (c.in_ok-close.ensures taken all.tells.told (c.in_ok-tell_all.ensures.all true taken all.tells.told all.tells.has))
    (ap (λ (z : Telling). z.closing taken) (c.in_ok-tell_all.ensures.same ∙ c.end.ensures.same)) in
    on_ok_both c.write_held.result c.write_held.ensures.writes.moved c.write_held.ensures.empty (λ moved empty.
    sent_all before (g.K.Sink.sent c.write_held.new.out) (t.told true taken ++ t.closing taken)
    (subst (λ (held : List ℕ). Sent before (g.K.Sink.sent c.write_held.new.out) (t.told true taken ++ t.closing taken) held) empty (moved before (t.told true taken ++ t.closing taken) whole)))

pub returns-clause-halted : goal.returns-clause-halted
returns-clause-halted g c = λ taken before h.
    let t = g.T.Teller.telling c.args.teller.now in let last = g.T.Teller.telling c.tell_all.new.teller in
    let all = c.in_ok-tell_all.ensures.told true taken before (record { told = h.told; has = c.end.ensures.told taken h.told h.has; sent = h.sent }) in
    let whole = closed t taken all.tells.told c.tell_all.new.text.items c.close.new.text.items (last.closing taken) before (g.K.Sink.sent c.tell_all.new.out) all.tells.sent
    (all.all ∙ ap (λ (z : Telling). z.told true taken) c.end.ensures.same) (c.in_ok-close.ensures taken all.tells.told (c.in_ok-tell_all.ensures.all true taken all.tells.told all.tells.has))
    (ap (λ (z : Telling). z.closing taken) (c.in_ok-tell_all.ensures.same ∙ c.end.ensures.same)) in
    if_err c.write_held.result (c.write_held.ensures.writes.front before (t.told true taken ++ t.closing taken) whole)

pub returns-in_err-tell_all-clause-halts : goal.returns-in_err-tell_all-clause-halts
returns-in_err-tell_all-clause-halts g c =
    let e = err_from_is_err_and c.from_residual.result c.from_residual.ensures.1 in
    rw (e.1, e.2) (halts_there _ _ _ _ refl c.in_err-tell_all.ensures.halts)

pub returns-in_err-close-clause-halts : goal.returns-in_err-close-clause-halts
returns-in_err-close-clause-halts g c =
    let e = err_from_is_err_and c.from_residual-in_err-close.result c.from_residual-in_err-close.ensures.1 in
    rw (e.1, e.2) (halts_unfed _ _ (c.in_ok-tell_all.ensures.halts.sound (λ e. cc)))

pub returns-clause-halts : goal.returns-clause-halts
returns-clause-halts g c =
    let wrote = c.write_held.ensures.writes in halts_written c.write_held.result _ _ _ (c.in_ok-tell_all.ensures.halts.sound (λ e. cc)) wrote.error wrote.rose wrote.sound
