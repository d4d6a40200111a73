use Rattle.std.proofs.Common.{subst}
use Rattle.std.proofs.lemmas.Result.{err_from_is_err_and}
use Rattle.mav_ports.specs.Puts.{SentPrefix}
use Rattle.decode_command.proofs.Halts.{halts_never, halts_there}
use Rattle.decode_command.specs.Tellings.{Telling}
use Rattle.decode_command.proofs.Telling.{told_all}
use Rattle.decode_command.proofs.running.tell_all.Goals as goal

pub returns-in-Need-clause-told : goal.returns-in-Need-clause-told
returns-in-Need-clause-told g c = λ ended taken before h.
    let inv = c.loop-span.invariant in let teller = c.loop-span.teller in
    let after = inv.told ended taken before h in
    told_all ended taken before (g.T.Teller.telling c.args.teller.now) (g.T.Teller.telling teller) (g.T.Teller.has_told teller) c.loop-span.text.items (g.K.Sink.sent c.loop-span.out)
    inv.same after (g.met.T.Teller.all_told teller ended taken after.told (c.in-Need.ensures.all ended taken after.told after.has))

pub returns-in-Need-clause-all : goal.returns-in-Need-clause-all
returns-in-Need-clause-all g c = λ ended taken told h. c.in-Need.ensures.all ended taken told h

pub returns-in-Need-clause-halts : goal.returns-in-Need-clause-halts
returns-in-Need-clause-halts g c = halts_never _ _ _ c.loop-span.invariant.refusals

pub returns-in_err-tell_more-in_default-clause-all : goal.returns-in_err-tell_more-in_default-clause-all
returns-in_err-tell_more-in_default-clause-all g c = let e = err_from_is_err_and c.from_residual.result c.from_residual.ensures.1 in rw e.1 (λ ended taken told h. tt)

pub returns-in_err-tell_more-in_default-clause-halted : goal.returns-in_err-tell_more-in_default-clause-halted
returns-in_err-tell_more-in_default-clause-halted g c =
    let inv = c.loop-span.invariant in
    let e = err_from_is_err_and c.from_residual.result c.from_residual.ensures.1 in
    rw e.1 (λ ended taken before h.
    subst (λ (t : Telling). SentPrefix before (g.K.Sink.sent c.tell_more.new.out) (t.told ended taken)) inv.same
    (c.in_err-tell_more-in_default.ensures.halted ended taken before (inv.told ended taken before h)))

pub returns-in_err-tell_more-in_default-clause-halts : goal.returns-in_err-tell_more-in_default-clause-halts
returns-in_err-tell_more-in_default-clause-halts g c =
    let e = err_from_is_err_and c.from_residual.result c.from_residual.ensures.1 in
    rw (e.1, e.2) (halts_there _ _ _ _ c.loop-span.invariant.refusals c.in_err-tell_more-in_default.ensures.halts)
