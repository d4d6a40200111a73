use Rattle.std.proofs.Common.{refl, ap}
use Rattle.std.proofs.lemmas.Result.{err_from_is_err_and}
use Rattle.std.specs.Result.{result_err}
use Rattle.run_status.proofs.RunsBeforeStatus.{before_status_nothing}
use Rattle.decode_command.specs.Spec.{decode_telling, decode_spec}
use Rattle.decode_command.specs.Decodes.{Decoding}
use Rattle.decode_command.proofs.Ends.{same_run}
use Rattle.decode_command.proofs.Starts.{decode_new, decode_room, decode_load}
use Rattle.decode_command.proofs.commands.decode_by.Goals as goal

pub returns-in_err-decoder-clause-untold : goal.returns-in_err-decoder-clause-untold
returns-in_err-decoder-clause-untold g c =
    let e = err_from_is_err_and c.from_residual.result c.from_residual.ensures.1 in
    rw (e.1, e.2) (before_status_nothing (decode_spec c.args.known) _ (g.S.Source.left c.args.main.now) (g.K.Sink.sent c.args.out.now))

pub returns-in_err-decoder-clause-sound : goal.returns-in_err-decoder-clause-sound
returns-in_err-decoder-clause-sound g c = λ other. refl

pub run_teller-end-requires-clause-room : goal.run_teller-end-requires-clause-room
run_teller-end-requires-clause-room g c = decode_room c.args.known c.in_ok-decoder.decoder c.in_ok-decoder.ensures

pub run_teller-end-requires-clause-load : goal.run_teller-end-requires-clause-load
run_teller-end-requires-clause-load g c = decode_load c.args.known c.in_ok-decoder.decoder c.in_ok-decoder.ensures

pub run_teller-end-requires-clause-new : goal.run_teller-end-requires-clause-new
run_teller-end-requires-clause-new g c = decode_new c.args.known c.in_ok-decoder.decoder c.in_ok-decoder.ensures

pub run_teller-end-requires-clause-nothing : goal.run_teller-end-requires-clause-nothing
run_teller-end-requires-clause-nothing g c = refl

pub returns-clause-untold : goal.returns-clause-untold
returns-clause-untold g c =
    let d = c.in_ok-decoder.decoder in
    same_run (decode_telling d.known) (decode_telling c.args.known) _ (g.S.Source.left c.args.main.now) (g.S.Source.left c.run_teller-end.new.main) (g.K.Sink.sent c.args.out.now) (g.K.Sink.sent c.run_teller-end.new.out) (result_err c.run_teller-end.result)
    (ap (λ (z : Decoding). decode_telling z.known) c.in_ok-decoder.ensures) c.run_teller-end.ensures.untold

pub returns-clause-sound : goal.returns-clause-sound
returns-clause-sound g c = λ other. c.run_teller-end.ensures.sound other
