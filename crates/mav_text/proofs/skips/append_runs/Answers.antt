use Rattle.std.proofs.lemmas.Result.{err_from_is_err_and}
use Rattle.std.proofs.Common.{ℕ, ◌+◌, ◌++◌, slice_range, vec_len, ap, ◌∙◌, arith}
use Rattle.mav_frame.specs.declared.looks.Why.{Why}
use Rattle.mav_text.specs.FrameText.{skip_lines}
use Rattle.mav_text.proofs.SkipSteps.{kept_more, kept_prefix, skips_part}
use Rattle.mav_text.proofs.skips.append_runs.Goals as goal

pub loop-done-preserved : goal.loop-done-preserved
loop-done-preserved c =
    let l = c.loop-done in let first : ℕ = c.args.offset in let done : ℕ = l.done in let count : ℕ = c.run_length.result in
    let why = c.args.block.now.1 in let bytes = c.args.bytes.now in
    let within = c.run_length.ensures.within in
    let put = c.in_ok-append.ensures.ok ∙ ap (λ (w : Why). l.out.items ++ skip_lines (first + done) (slice_range bytes done (done + count)) w) l.invariant.why in
    record {
      within = omega arith;
      why = c.in_ok-append.ensures.why ∙ l.invariant.why;
      kept = kept_more c.args.out.now.items l.out.items c.append.new.out.items (vec_len c.args.out.now) (vec_len l.out) c.args.out.now.ok.0 l.out.ok.0 l.invariant.kept
          (kept_prefix l.out.items (skip_lines (first + done) (slice_range bytes done (done + count)) why) c.append.new.out.items (vec_len l.out) l.out.ok.0 put);
      text = skips_part l.out.items c.append.new.out.items first done (done + count) bytes why (omega arith) (omega arith) put ∙ l.invariant.text;
    }

pub returns-in_err-append-clause-ok : goal.returns-in_err-append-clause-ok
returns-in_err-append-clause-ok c = rw (err_from_is_err_and c.from_residual.result c.from_residual.ensures.1).1 tt
