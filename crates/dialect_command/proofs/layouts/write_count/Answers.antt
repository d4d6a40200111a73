use Rattle.std.proofs.lemmas.Result.{err_from_is_err_and}
use Rattle.dialect_command.specs.Writes.{count_line}
use Rattle.dialect_command.proofs.Writings.{wrote_nothing}
use Rattle.dialect_command.proofs.layouts.write_count.Goals as goal

pub returns-in_err-line : goal.returns-in_err-line
returns-in_err-line g c =
    let e = err_from_is_err_and c.from_residual.result c.from_residual.ensures.1 in
    rw (e.1, e.2) (wrote_nothing (count_line c.args.messages) (g.K.Sink.faults c.args.out.now) (g.K.Sink.sent c.args.out.now))
