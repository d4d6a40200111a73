use Rattle.std.proofs.lemmas.Result.{err_from_is_err_and}
use Rattle.mav_log.proofs.RowBytes.{row_made}
use Rattle.mav_log.proofs.make_teller.Make.make_row.Goals as goal

pub returns-in_err-extend_from_slice-clause-text : goal.returns-in_err-extend_from_slice-clause-text
returns-in_err-extend_from_slice-clause-text c = let e = err_from_is_err_and c.from_residual.result c.from_residual.ensures.1 in rw e.1 tt

pub returns-in_err-extend_from_slice-2-clause-text : goal.returns-in_err-extend_from_slice-2-clause-text
returns-in_err-extend_from_slice-2-clause-text c = let e = err_from_is_err_and c.from_residual-in_err-extend_from_slice-2.result c.from_residual-in_err-extend_from_slice-2.ensures.1 in rw e.1 tt

pub returns-clause-made : goal.returns-clause-made
returns-clause-made c =
    row_made c.args.self.now (record { known = c.self.inside.known; start = c.self.inside.start; reader = c.self.inside.reader; rows = c.self.inside.rows }) c.args.size c.consume.new.self c.self.view_is c.consume.ensures

pub returns-clause-unmade : goal.returns-clause-unmade
returns-clause-unmade c = tt
