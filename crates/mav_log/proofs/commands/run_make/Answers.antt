use Rattle.std.proofs.Common.{refl, ap}
use Rattle.std.proofs.lemmas.Result.{err_from_is_err_and}
use Rattle.std.specs.Result.{result_err}
use Rattle.run_status.proofs.RunsBeforeStatus.{before_status_nothing}
use Rattle.decode_command.proofs.Ends.{same_run}
use Rattle.mav_log.specs.Spec.{make_telling, make_spec}
use Rattle.mav_log.specs.Tellers.{Making}
use Rattle.mav_log.proofs.Starts.{make_new, make_room, make_load}
use Rattle.mav_log.proofs.commands.run_make.Goals as goal

pub returns-in_err-make-clause-untold : goal.returns-in_err-make-clause-untold
returns-in_err-make-clause-untold g c =
    let e = err_from_is_err_and c.from_residual.result c.from_residual.ensures.1 in
    rw (e.1, e.2) (before_status_nothing (make_spec c.args.known c.args.start) _ (g.S.Source.left c.args.main.now) (g.K.Sink.sent c.args.out.now))

pub returns-in_err-make-clause-sound : goal.returns-in_err-make-clause-sound
returns-in_err-make-clause-sound g c = λ other. refl

pub run_teller-end-requires-clause-room : goal.run_teller-end-requires-clause-room
run_teller-end-requires-clause-room g c = make_room c.args.known c.args.start c.in_ok-make.make c.in_ok-make.ensures

pub run_teller-end-requires-clause-load : goal.run_teller-end-requires-clause-load
run_teller-end-requires-clause-load g c = make_load c.args.known c.args.start c.in_ok-make.make c.in_ok-make.ensures

pub run_teller-end-requires-clause-new : goal.run_teller-end-requires-clause-new
run_teller-end-requires-clause-new g c = make_new c.args.known c.args.start c.in_ok-make.make c.in_ok-make.ensures

pub run_teller-end-requires-clause-nothing : goal.run_teller-end-requires-clause-nothing
run_teller-end-requires-clause-nothing g c = refl

pub returns-clause-untold : goal.returns-clause-untold
returns-clause-untold g c =
    let m = c.in_ok-make.make in
    same_run (make_telling m.known m.start) (make_telling c.args.known c.args.start) _ (g.S.Source.left c.args.main.now) (g.S.Source.left c.run_teller-end.new.main) (g.K.Sink.sent c.args.out.now) (g.K.Sink.sent c.run_teller-end.new.out) (result_err c.run_teller-end.result)
    (ap (λ (z : Making). make_telling z.known z.start) c.in_ok-make.ensures) c.run_teller-end.ensures.untold

pub returns-clause-sound : goal.returns-clause-sound
returns-clause-sound g c = λ other. c.run_teller-end.ensures.sound other
