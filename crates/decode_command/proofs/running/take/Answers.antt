use Rattle.std.proofs.Common.{ℕ, List, ◌++◌, false, refl, ap, ◌∙◌, subst}
use Rattle.std.proofs.lemmas.Result.{err_from_is_err_and}
use Rattle.mav_ports.specs.Puts.{SentPrefix}
use Rattle.decode_command.proofs.Halts.{halts_there, halts_written}
use Rattle.decode_command.specs.Tellings.{Telling}
use Rattle.decode_command.proofs.Results.{on_ok, if_err}
use Rattle.decode_command.proofs.Telling.{tells_written}
use Rattle.decode_command.proofs.running.take.Goals as goal

pub returns-clause-told : goal.returns-clause-told
returns-clause-told g c = λ taken before h.
    let bytes = taken ++ c.args.piece.now in
    let all = c.in_ok-tell_all.ensures.told false bytes before (record { told = h.told; has = c.feed.ensures.told taken h.told h.has; sent = h.sent }) in
    on_ok c.write_held.result c.write_held.ensures.writes.moved (λ moved. record {
      tells = tells_written false bytes before (g.T.Teller.has_told c.tell_all.new.teller) c.tell_all.new.text.items c.write_held.new.lines.items (g.K.Sink.sent c.tell_all.new.out) (g.K.Sink.sent c.write_held.new.out) all.tells moved;
      all = all.all ∙ ap (λ (t : Telling). t.told false bytes) c.feed.ensures.same;
    })

pub returns-clause-halted : goal.returns-clause-halted
returns-clause-halted g c = λ taken before h.
    let bytes = taken ++ c.args.piece.now in
    let all = c.in_ok-tell_all.ensures.told false bytes before (record { told = h.told; has = c.feed.ensures.told taken h.told h.has; sent = h.sent }) in
    if_err c.write_held.result
    (subst (λ (text : List ℕ). SentPrefix before (g.K.Sink.sent c.write_held.new.out) text) (all.all ∙ ap (λ (t : Telling). t.told false bytes) c.feed.ensures.same)
    (c.write_held.ensures.writes.front before all.tells.told all.tells.sent))

pub returns-in_err-tell_all-clause-halts : goal.returns-in_err-tell_all-clause-halts
returns-in_err-tell_all-clause-halts g c =
    let e = err_from_is_err_and c.from_residual.result c.from_residual.ensures.1 in
    rw (e.1, e.2) (halts_there _ _ _ _ refl c.in_err-tell_all.ensures.halts)

pub returns-clause-halts : goal.returns-clause-halts
returns-clause-halts g c =
    let wrote = c.write_held.ensures.writes in halts_written c.write_held.result _ _ _ (c.in_ok-tell_all.ensures.halts.sound (λ e. cc)) wrote.error wrote.rose wrote.sound
