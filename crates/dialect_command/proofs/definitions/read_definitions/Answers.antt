use Rattle.std.proofs.lemmas.Result.{err_from_is_err_and}
use Rattle.dialect_command.proofs.Readings.{halts_unread, halts_refused, holds_read}
use Rattle.dialect_command.proofs.definitions.read_definitions.Goals as goal

pub returns-in_err-buf-clause-holds : goal.returns-in_err-buf-clause-holds
returns-in_err-buf-clause-holds g c =
    let e = err_from_is_err_and c.from_residual.result c.from_residual.ensures.1 in rw e.1 tt

pub returns-in_err-buf-clause-halts : goal.returns-in_err-buf-clause-halts
returns-in_err-buf-clause-halts g c =
    let e = err_from_is_err_and c.from_residual.result c.from_residual.ensures.1 in
    rw (e.1, e.2) (halts_unread _ (g.S.Source.left c.args.input.now))

pub returns-in_err-bytes-clause-holds : goal.returns-in_err-bytes-clause-holds
returns-in_err-bytes-clause-holds g c =
    let e = err_from_is_err_and c.from_residual-in_err-bytes.result c.from_residual-in_err-bytes.ensures.1 in rw e.1 tt

pub returns-in_err-bytes-clause-halts : goal.returns-in_err-bytes-clause-halts
returns-in_err-bytes-clause-halts g c =
    let e = err_from_is_err_and c.from_residual-in_err-bytes.result c.from_residual-in_err-bytes.ensures.1 in
    rw (e.1, e.2) c.in_err-bytes.ensures.halts

pub returns-in-Err-clause-halts : goal.returns-in-Err-clause-halts
returns-in-Err-clause-halts g c =
    rw c.halt_of.ensures (halts_refused _ (g.S.Source.left c.args.input.now) (g.S.Source.left c.read_all.new.input) c.in_ok-bytes.bytes.items c.in_ok-bytes.ensures.taken
    c.deref.result.now c.deref.ensures.value c.in-Err.fault c.in_ok-bytes.ensures.at_end c.in_ok-bytes.ensures.fits c.in-Err.ensures.fault)

pub returns-clause-holds : goal.returns-clause-holds
returns-clause-holds g c =
    holds_read _ (g.S.Source.left c.args.input.now) (g.S.Source.left c.read_all.new.input) c.in_ok-bytes.bytes.items c.deref.result.now c.in-Ok.dialect c.in_ok-bytes.ensures.taken
    c.deref.ensures.value c.in_ok-bytes.ensures.at_end c.in_ok-bytes.ensures.fits c.in-Ok.ensures.read
