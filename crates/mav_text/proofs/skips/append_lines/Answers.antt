use Rattle.std.proofs.lemmas.List.{take_all}
use Rattle.std.proofs.lemmas.Result.{err_from_is_err_and}
use Rattle.std.proofs.Common.{ℕ, List, ◌+◌, ◌-◌, ◌++◌, drop, length, take, ap, ◌∙◌, arith}
use Rattle.mav_text.specs.FrameText.{skip_lines}
use Rattle.mav_text.proofs.SkipSteps.{skips_split}
use Rattle.mav_text.proofs.skips.append_lines.Goals as goal

pub returns-clause-ok : goal.returns-clause-ok
returns-clause-ok c =
    let small : ℕ = c.small_length-small.result in let bytes = c.args.bytes.now in
    c.in_ok-append_by_block.ensures.ok
    ∙ (ap (λ (t : List ℕ). t ++ skip_lines (c.args.offset + small) (take (length bytes - small) (drop small bytes)) c.args.why) c.in_ok-append_each.ensures.ok
    ∙ skips_split c.args.out.now.items c.args.offset small bytes c.args.why c.small_length-small.ensures.within)

pub returns-then-offset-bytes-ge-FAR_OFFSET-clause-ok : goal.returns-then-offset-bytes-ge-FAR_OFFSET-clause-ok
returns-then-offset-bytes-ge-FAR_OFFSET-clause-ok c = c.append_each.ensures.ok

pub returns-then-offset-bytes-ge-FAR_OFFSET-clause-err : goal.returns-then-offset-bytes-ge-FAR_OFFSET-clause-err
returns-then-offset-bytes-ge-FAR_OFFSET-clause-err c = c.append_each.ensures.err

pub returns-in_err-append_each-clause-ok : goal.returns-in_err-append_each-clause-ok
returns-in_err-append_each-clause-ok c = rw (err_from_is_err_and c.from_residual.result c.from_residual.ensures.1).1 tt

pub returns-in_err-append_each-clause-err : goal.returns-in_err-append_each-clause-err
returns-in_err-append_each-clause-err c = rw (err_from_is_err_and c.from_residual.result c.from_residual.ensures.1).1 c.in_err-append_each.ensures.err

pub returns-then-small-bytes-clause-ok : goal.returns-then-small-bytes-clause-ok
returns-then-small-bytes-clause-ok c = c.in_ok-append_each.ensures.ok ∙ ap (λ (bytes : List ℕ). c.args.out.now.items ++ skip_lines c.args.offset bytes c.args.why) (take_all c.small_length-small.result c.args.bytes.now (omega (arith, c.if-small-bytes.true)))

pub returns-in_err-append_by_block-clause-ok : goal.returns-in_err-append_by_block-clause-ok
returns-in_err-append_by_block-clause-ok c = rw (err_from_is_err_and c.from_residual-in_err-append_by_block.result c.from_residual-in_err-append_by_block.ensures.1).1 tt
