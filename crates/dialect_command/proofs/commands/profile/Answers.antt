use Rattle.std.proofs.Common.{refl}
use Rattle.std.specs.Result.{result_err}
use Rattle.std.proofs.lemmas.Result.{err_from_is_err_and}
use Rattle.mav_profile.specs.Profile.{profile_definitions}
use Rattle.dialect_command.proofs.Endings.{untold_early, untold_known, sound_written}
use Rattle.dialect_command.proofs.commands.profile.Goals as goal

pub returns-in_err-dialect-clause-untold : goal.returns-in_err-dialect-clause-untold
returns-in_err-dialect-clause-untold g c =
    let e = err_from_is_err_and c.from_residual.result c.from_residual.ensures.1 in
    rw (e.1, e.2) (untold_early profile_definitions (g.K.Sink.faults c.args.out.now) (g.K.Sink.sent c.args.out.now))

pub returns-in_err-dialect-clause-sound : goal.returns-in_err-dialect-clause-sound
returns-in_err-dialect-clause-sound g c = λ other. refl

pub returns-clause-untold : goal.returns-clause-untold
returns-clause-untold g c =
    untold_known c.in_ok-dialect.dialect profile_definitions c.in_ok-dialect.ensures (g.K.Sink.faults c.args.out.now) (g.K.Sink.faults c.write_dialect.new.out)
    (g.K.Sink.sent c.args.out.now) (g.K.Sink.sent c.write_dialect.new.out) (result_err c.write_dialect.result) c.write_dialect.ensures

pub returns-clause-sound : goal.returns-clause-sound
returns-clause-sound g c =
    sound_written _ (g.K.Sink.faults c.args.out.now) (g.K.Sink.faults c.write_dialect.new.out) (g.K.Sink.sent c.args.out.now) (g.K.Sink.sent c.write_dialect.new.out) c.write_dialect.result c.write_dialect.ensures
