use Rattle.std.proofs.Common.{◌≤◌, List, ℕ, true, length, sym, subst}
use Rattle.std.proofs.lemmas.Result.{err_from_is_err_and}
use Rattle.mav_frame.specs.Looks.{frame_size_at, is_old_at}
use Rattle.mav_log.proofs.RowLines.{row_put}
use Rattle.mav_log.proofs.show_teller.put_row_line.Goals as goal

pub returns-in_err-put_decimal : goal.returns-in_err-put_decimal
returns-in_err-put_decimal c = let e = err_from_is_err_and c.from_residual.result c.from_residual.ensures.1 in rw e.1 tt

pub returns-in_err-push : goal.returns-in_err-push
returns-in_err-push c = let e = err_from_is_err_and c.from_residual-in_err-push.result c.from_residual-in_err-push.ensures.1 in rw e.1 tt

pub put_line-requires-clause-whole : goal.put_line-requires-clause-whole
put_line-requires-clause-whole c = subst (λ (b : List ℕ). frame_size_at (is_old_at true b) b ≤ length b) (sym c.frame_of.ensures) c.requires.frame

pub returns : goal.returns
returns c = row_put c.args.templates.now c.args.offset c.args.bytes.now c.frame_of.result.now c.time_of-micros.result c.args.text.now.items c.put_decimal.new.out.items c.push.new.self.items c.put_line.new.out.items c.put_line.result c.frame_of.ensures c.time_of-micros.ensures c.in_ok-put_decimal.ensures.ok c.in_ok-push.ensures.items c.put_line.ensures.ok
