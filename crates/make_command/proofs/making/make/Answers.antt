use Rattle.std.proofs.Common.{◌∙◌}
use Rattle.std.proofs.lemmas.Result.{err_from_is_err_and}
use Rattle.run_status.proofs.RunsBeforeStatus.{before_status_nothing}
use Rattle.make_command.specs.Spec.{make_spec}
use Rattle.make_command.proofs.Theorem.{generated_theorem}
use Rattle.make_command.proofs.Runs.{made, unmade}
use Rattle.make_command.proofs.making.make.Goals as goal

pub returns-in_err-text-clause-before_status : goal.returns-in_err-text-clause-before_status
returns-in_err-text-clause-before_status g c =
    let e = err_from_is_err_and c.from_residual.result c.from_residual.ensures.1 in
    rw (e.1, e.2) (before_status_nothing (make_spec c.args.number) _ _ (g.K.Sink.sent c.args.out.now))

pub returns-in_err-text-clause-theorem : goal.returns-in_err-text-clause-theorem
returns-in_err-text-clause-theorem g c = generated_theorem c.args.number

pub returns-in_err-write_all-clause-before_status : goal.returns-in_err-write_all-clause-before_status
returns-in_err-write_all-clause-before_status g c =
    let e = err_from_is_err_and c.from_residual-in_err-write_all.result c.from_residual-in_err-write_all.ensures.1 in
    rw (e.1, e.2) (unmade c.args.number (g.K.Sink.faults c.args.out.now) (g.K.Sink.faults c.write_all.new.sink) c.deref.result.now (g.K.Sink.sent c.args.out.now) (g.K.Sink.sent c.write_all.new.sink)
    (c.deref.ensures.value ∙ c.in_ok-text.ensures) c.write_all.ensures.front c.in_err-write_all.ensures.rose)

pub returns-in_err-write_all-clause-theorem : goal.returns-in_err-write_all-clause-theorem
returns-in_err-write_all-clause-theorem g c = generated_theorem c.args.number

pub returns-clause-before_status : goal.returns-clause-before_status
returns-clause-before_status g c =
    made c.args.number (g.K.Sink.faults c.args.out.now) (g.K.Sink.faults c.write_all.new.sink) c.deref.result.now (g.K.Sink.sent c.args.out.now) (g.K.Sink.sent c.write_all.new.sink)
    (c.deref.ensures.value ∙ c.in_ok-text.ensures) c.in_ok-write_all.ensures.ok

pub returns-clause-theorem : goal.returns-clause-theorem
returns-clause-theorem g c = generated_theorem c.args.number
