use Rattle.std.proofs.lemmas.Result.{err_from_is_err_and}
use Rattle.mav_text.proofs.skip_block.SkipBlock.put.Goals as goal

pub returns-in_err-extend_from_slice-clause-ok : goal.returns-in_err-extend_from_slice-clause-ok
returns-in_err-extend_from_slice-clause-ok c = rw (err_from_is_err_and c.from_residual.result c.from_residual.ensures.1).1 tt
