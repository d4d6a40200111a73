use Rattle.std.proofs.Common.{refl}
use Rattle.std.proofs.lemmas.Result.{err_from_is_err_and}
use Rattle.run_status.proofs.RunsBeforeStatus.{before_status_nothing}
use Rattle.decode_command.specs.Tellings.{telling_spec}
use Rattle.decode_command.proofs.running.run_teller.Goals as goal

pub returns-in_err-text-clause-untold : goal.returns-in_err-text-clause-untold
returns-in_err-text-clause-untold g c =
    let e = err_from_is_err_and c.from_residual.result c.from_residual.ensures.1 in
    rw (e.1, e.2) (before_status_nothing (telling_spec (g.T.Teller.telling c.args.teller.now)) _ (g.S.Source.left c.args.main.now) (g.K.Sink.sent c.args.out.now))

pub returns-in_err-text-clause-sound : goal.returns-in_err-text-clause-sound
returns-in_err-text-clause-sound g c = λ other. refl

pub returns-in_err-buf-clause-untold : goal.returns-in_err-buf-clause-untold
returns-in_err-buf-clause-untold g c =
    let e = err_from_is_err_and c.from_residual-in_err-buf.result c.from_residual-in_err-buf.ensures.1 in
    rw (e.1, e.2) (before_status_nothing (telling_spec (g.T.Teller.telling c.args.teller.now)) _ (g.S.Source.left c.args.main.now) (g.K.Sink.sent c.args.out.now))

pub returns-in_err-buf-clause-sound : goal.returns-in_err-buf-clause-sound
returns-in_err-buf-clause-sound g c = λ other. refl

pub run_pieces-requires-clause-room : goal.run_pieces-requires-clause-room
run_pieces-requires-clause-room g c = c.requires.room

pub run_pieces-requires-clause-load : goal.run_pieces-requires-clause-load
run_pieces-requires-clause-load g c = c.requires.load

pub run_pieces-requires-clause-empty : goal.run_pieces-requires-clause-empty
run_pieces-requires-clause-empty g c = c.in_ok-text.ensures

pub run_pieces-requires-clause-new : goal.run_pieces-requires-clause-new
run_pieces-requires-clause-new g c = c.requires.new

pub run_pieces-requires-clause-nothing : goal.run_pieces-requires-clause-nothing
run_pieces-requires-clause-nothing g c = c.requires.nothing

pub returns-clause-untold : goal.returns-clause-untold
returns-clause-untold g c = c.run_pieces.ensures.untold

pub returns-clause-sound : goal.returns-clause-sound
returns-clause-sound g c = λ other. c.run_pieces.ensures.sound other
