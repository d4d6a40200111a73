use Rattle.std.proofs.Common.{refl, ap}
use Rattle.std.proofs.lemmas.Result.{err_from_is_err_and}
use Rattle.std.specs.Result.{result_err}
use Rattle.run_status.proofs.RunsBeforeStatus.{before_status_nothing}
use Rattle.decode_command.proofs.Ends.{same_run}
use Rattle.mav_log.specs.Spec.{show_telling, show_spec}
use Rattle.mav_log.specs.Tellers.{Showing}
use Rattle.mav_log.proofs.Starts.{show_new, show_room, show_load}
use Rattle.mav_log.proofs.commands.run_show.Goals as goal

pub returns-in_err-show-clause-untold : goal.returns-in_err-show-clause-untold
returns-in_err-show-clause-untold g c =
    let e = err_from_is_err_and c.from_residual.result c.from_residual.ensures.1 in
    rw (e.1, e.2) (before_status_nothing (show_spec c.args.known) _ (g.S.Source.left c.args.main.now) (g.K.Sink.sent c.args.out.now))

pub returns-in_err-show-clause-sound : goal.returns-in_err-show-clause-sound
returns-in_err-show-clause-sound g c = λ other. refl

pub run_teller-end-requires-clause-room : goal.run_teller-end-requires-clause-room
run_teller-end-requires-clause-room g c = show_room c.args.known c.in_ok-show.show c.in_ok-show.ensures

pub run_teller-end-requires-clause-load : goal.run_teller-end-requires-clause-load
run_teller-end-requires-clause-load g c = show_load c.args.known c.in_ok-show.show c.in_ok-show.ensures

pub run_teller-end-requires-clause-new : goal.run_teller-end-requires-clause-new
run_teller-end-requires-clause-new g c = show_new c.args.known c.in_ok-show.show c.in_ok-show.ensures

pub run_teller-end-requires-clause-nothing : goal.run_teller-end-requires-clause-nothing
run_teller-end-requires-clause-nothing g c = refl

pub returns-clause-untold : goal.returns-clause-untold
returns-clause-untold g c =
    let s = c.in_ok-show.show in
    same_run (show_telling s.known) (show_telling c.args.known) _ (g.S.Source.left c.args.main.now) (g.S.Source.left c.run_teller-end.new.main) (g.K.Sink.sent c.args.out.now) (g.K.Sink.sent c.run_teller-end.new.out) (result_err c.run_teller-end.result)
    (ap (λ (z : Showing). show_telling z.known) c.in_ok-show.ensures) c.run_teller-end.ensures.untold

pub returns-clause-sound : goal.returns-clause-sound
returns-clause-sound g c = λ other. c.run_teller-end.ensures.sound other
