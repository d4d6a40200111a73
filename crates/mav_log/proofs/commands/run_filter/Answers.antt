use Rattle.std.proofs.Common.{refl, ap}
use Rattle.std.proofs.lemmas.Result.{err_from_is_err_and}
use Rattle.std.specs.Result.{result_err}
use Rattle.run_status.proofs.RunsBeforeStatus.{before_status_nothing}
use Rattle.decode_command.proofs.Ends.{same_run}
use Rattle.mav_log.specs.Spec.{filter_telling, filter_spec}
use Rattle.mav_log.specs.Tellers.{Filtering}
use Rattle.mav_log.proofs.Starts.{filter_new, filter_room}
use Rattle.mav_log.proofs.commands.run_filter.Goals as goal

pub returns-in_err-filter-clause-untold : goal.returns-in_err-filter-clause-untold
returns-in_err-filter-clause-untold g c =
    let e = err_from_is_err_and c.from_residual.result c.from_residual.ensures.1 in
    rw (e.1, e.2) (before_status_nothing (filter_spec c.args.known c.args.sys) _ (g.S.Source.left c.args.main.now) (g.K.Sink.sent c.args.out.now))

pub returns-in_err-filter-clause-sound : goal.returns-in_err-filter-clause-sound
returns-in_err-filter-clause-sound g c = λ other. refl

pub run_teller-end-requires-clause-room : goal.run_teller-end-requires-clause-room
run_teller-end-requires-clause-room g c = filter_room c.args.known c.args.sys c.in_ok-filter.filter c.in_ok-filter.ensures

pub run_teller-end-requires-clause-load : goal.run_teller-end-requires-clause-load
run_teller-end-requires-clause-load g c = refl

pub run_teller-end-requires-clause-new : goal.run_teller-end-requires-clause-new
run_teller-end-requires-clause-new g c = filter_new c.args.known c.args.sys c.in_ok-filter.filter c.in_ok-filter.ensures

pub run_teller-end-requires-clause-nothing : goal.run_teller-end-requires-clause-nothing
run_teller-end-requires-clause-nothing g c = refl

pub returns-clause-untold : goal.returns-clause-untold
returns-clause-untold g c =
    let f = c.in_ok-filter.filter in
    same_run (filter_telling f.known f.sys) (filter_telling c.args.known c.args.sys) _ (g.S.Source.left c.args.main.now) (g.S.Source.left c.run_teller-end.new.main) (g.K.Sink.sent c.args.out.now) (g.K.Sink.sent c.run_teller-end.new.out) (result_err c.run_teller-end.result)
    (ap (λ (z : Filtering). filter_telling z.known z.sys) c.in_ok-filter.ensures) c.run_teller-end.ensures.untold

pub returns-clause-sound : goal.returns-clause-sound
returns-clause-sound g c = λ other. c.run_teller-end.ensures.sound other
