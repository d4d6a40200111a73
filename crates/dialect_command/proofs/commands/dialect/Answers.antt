use Rattle.std.proofs.Common.{refl, subst}
use Rattle.std.specs.Result.{result_err}
use Rattle.std.proofs.lemmas.Result.{err_from_is_err_and}
use Rattle.dialect_command.specs.Spec.{dialect_spec}
use Rattle.dialect_command.specs.Reads.{Halts}
use Rattle.dialect_command.proofs.Endings.{untold_unread, untold_written, told_written, sound_written, unstopped_written}
use Rattle.dialect_command.proofs.Refusals.{refused_at, long_at}
use Rattle.dialect_command.proofs.commands.dialect.Goals as goal

pub returns-in_err-dialect-clause-untold : goal.returns-in_err-dialect-clause-untold
returns-in_err-dialect-clause-untold g c =
    let refusals = g.K.Sink.faults c.args.out.now in
    let sent = g.K.Sink.sent c.args.out.now in
    let e = err_from_is_err_and c.from_residual.result c.from_residual.ensures.1 in
    rw (e.1, e.2) (untold_unread dialect_spec.closing _ (g.S.Source.faults c.args.definitions.now) (g.S.Source.faults c.read_definitions.new.input)
    (g.S.Source.idles c.args.definitions.now) (g.S.Source.idles c.read_definitions.new.input) refusals refusals
    (g.S.Source.left c.args.definitions.now) (g.S.Source.left c.read_definitions.new.input) sent sent c.in_err-dialect.field-0.0 refl c.in_err-dialect.ensures.halts)

pub returns-in_err-dialect-clause-sound : goal.returns-in_err-dialect-clause-sound
returns-in_err-dialect-clause-sound g c = λ other. refl

pub returns-clause-untold : goal.returns-clause-untold
returns-clause-untold g c =
    untold_written _ (g.S.Source.faults c.args.definitions.now) (g.S.Source.faults c.read_definitions.new.input)
    (g.S.Source.idles c.args.definitions.now) (g.S.Source.idles c.read_definitions.new.input) (g.K.Sink.faults c.args.out.now) (g.K.Sink.faults c.write_dialect.new.out)
    (g.S.Source.left c.args.definitions.now) (g.S.Source.left c.read_definitions.new.input) (g.K.Sink.sent c.args.out.now) (g.K.Sink.sent c.write_dialect.new.out)
    c.in_ok-dialect.dialect c.in_ok-dialect.ensures.holds (result_err c.write_dialect.result) c.write_dialect.ensures

pub returns-clause-sound : goal.returns-clause-sound
returns-clause-sound g c =
    sound_written _ (g.K.Sink.faults c.args.out.now) (g.K.Sink.faults c.write_dialect.new.out) (g.K.Sink.sent c.args.out.now) (g.K.Sink.sent c.write_dialect.new.out) c.write_dialect.result c.write_dialect.ensures

pub returns-in_err-dialect-clause-done : goal.returns-in_err-dialect-clause-done
returns-in_err-dialect-clause-done g c =
    let e = err_from_is_err_and c.from_residual.result c.from_residual.ensures.1 in rw e.1 tt

pub returns-in_err-dialect-clause-bad : goal.returns-in_err-dialect-clause-bad
returns-in_err-dialect-clause-bad g c =
    let sent = g.K.Sink.sent c.args.out.now in
    let e = err_from_is_err_and c.from_residual.result c.from_residual.ensures.1 in
    rw (e.1, e.2) (λ reason is. refused_at _ (g.S.Source.faults c.args.definitions.now) (g.S.Source.faults c.read_definitions.new.input)
    (g.S.Source.idles c.args.definitions.now) (g.S.Source.idles c.read_definitions.new.input)
    (g.S.Source.left c.args.definitions.now) (g.S.Source.left c.read_definitions.new.input) sent sent reason refl
    (subst (Halts _ (g.S.Source.left c.args.definitions.now) (g.S.Source.left c.read_definitions.new.input)) (cc is) c.in_err-dialect.ensures.halts))

pub returns-in_err-dialect-clause-limit : goal.returns-in_err-dialect-clause-limit
returns-in_err-dialect-clause-limit g c =
    let sent = g.K.Sink.sent c.args.out.now in
    let e = err_from_is_err_and c.from_residual.result c.from_residual.ensures.1 in
    rw (e.1, e.2) (λ limit is. long_at _ (g.S.Source.faults c.args.definitions.now) (g.S.Source.faults c.read_definitions.new.input)
    (g.S.Source.idles c.args.definitions.now) (g.S.Source.idles c.read_definitions.new.input)
    (g.S.Source.left c.args.definitions.now) (g.S.Source.left c.read_definitions.new.input) sent sent limit refl
    (subst (Halts _ (g.S.Source.left c.args.definitions.now) (g.S.Source.left c.read_definitions.new.input)) (cc is) c.in_err-dialect.ensures.halts))

pub returns-clause-done : goal.returns-clause-done
returns-clause-done g c =
    told_written _ (g.K.Sink.faults c.args.out.now) (g.K.Sink.faults c.write_dialect.new.out)
    (g.S.Source.left c.args.definitions.now) (g.S.Source.left c.read_definitions.new.input) (g.K.Sink.sent c.args.out.now) (g.K.Sink.sent c.write_dialect.new.out)
    c.in_ok-dialect.dialect c.write_dialect.result c.in_ok-dialect.ensures.holds c.write_dialect.ensures

pub returns-clause-bad : goal.returns-clause-bad
returns-clause-bad g c = λ reason is.
    unstopped_written _ (g.K.Sink.faults c.args.out.now) (g.K.Sink.faults c.write_dialect.new.out) (g.K.Sink.sent c.args.out.now) (g.K.Sink.sent c.write_dialect.new.out) c.write_dialect.result _ c.write_dialect.ensures is

pub returns-clause-limit : goal.returns-clause-limit
returns-clause-limit g c = λ limit is.
    unstopped_written _ (g.K.Sink.faults c.args.out.now) (g.K.Sink.faults c.write_dialect.new.out) (g.K.Sink.sent c.args.out.now) (g.K.Sink.sent c.write_dialect.new.out) c.write_dialect.result _ c.write_dialect.ensures is
