use Rattle.std.proofs.Common.{ℕ, ◌<◌, List, ◌++◌, get_or, length, vec_len, sym, ap, ◌∙◌, arith, append-nil, drop_of_length-le}
use Rattle.std.proofs.lemmas.Result.{err_from_is_err_and}
use Rattle.mav_text.specs.FrameText.{skip_line, skip_lines}
use Rattle.mav_text.proofs.SkipSteps.{kept_same, kept_prefix, kept_more, skips_next}
use Rattle.mav_text.proofs.skips.append_each.Goals as goal

pub loop-byte-preserved : goal.loop-byte-preserved
loop-byte-preserved c =
    let l = c.loop-byte in let out = c.args.out.now in let after = c.put_skip.new.out in
    let bytes = c.args.bytes.now in let i : ℕ = l.byte-index in let why = c.args.why in
    let byte : ℕ = get_or bytes i 0 in
    let inside : i < length bytes = c.loop-byte-test.true in
    record {
      line_offset = omega (arith, l.invariant.line_offset);
      kept = kept_more out.items l.out.items after.items (vec_len out) (vec_len l.out) out.ok.0 l.out.ok.0 l.invariant.kept
          (kept_prefix l.out.items (skip_line l.line_offset byte why) after.items (vec_len l.out) l.out.ok.0 c.in_ok-put_skip.ensures.ok);
      text = skips_next l.out.items after.items l.line_offset i bytes why inside c.in_ok-put_skip.ensures.ok ∙ l.invariant.text;
    }

pub returns-in_err-put_skip-clause-ok : goal.returns-in_err-put_skip-clause-ok
returns-in_err-put_skip-clause-ok c =
    let e = err_from_is_err_and c.from_residual.result c.from_residual.ensures.1 in
    rw e.1 tt

pub returns-in_err-put_skip-clause-err : goal.returns-in_err-put_skip-clause-err
returns-in_err-put_skip-clause-err c =
    let e = err_from_is_err_and c.from_residual.result c.from_residual.ensures.1 in
    let l = c.loop-byte in let out = c.args.out.now in let after = c.put_skip.new.out in
    rw e.1 (kept_more out.items l.out.items after.items (vec_len out) (vec_len l.out) out.ok.0 l.out.ok.0 l.invariant.kept
    (kept_same l.out.items after.items (vec_len l.out) l.out.ok.0 c.in_err-put_skip.ensures.err))

pub returns-clause-ok : goal.returns-clause-ok
returns-clause-ok c =
    let l = c.loop-byte in
    sym (append-nil l.out.items)
    ∙ (ap (λ (bytes : List ℕ). l.out.items ++ skip_lines l.line_offset bytes c.args.why) (sym (drop_of_length-le c.args.bytes.now c.loop-byte-test.false)) ∙ l.invariant.text)
