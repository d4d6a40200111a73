use Rattle.std.proofs.lemmas.Result.{err_from_is_err_and}
use Rattle.dialect.proofs.laying.laid_out.Goals as goal

pub returns-in_err-fault-clause-faultless : goal.returns-in_err-fault-clause-faultless
returns-in_err-fault-clause-faultless c = rw (err_from_is_err_and c.from_residual.result c.from_residual.ensures.1).1 tt

pub returns-in_err-fault-clause-same : goal.returns-in_err-fault-clause-same
returns-in_err-fault-clause-same c = rw (err_from_is_err_and c.from_residual.result c.from_residual.ensures.1).1 tt
