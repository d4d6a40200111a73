use Rattle.std.proofs.Common.{◌≡◌, ℕ, ◌+◌, List, ◌++◌, codes, length, take, sym, ap, ◌∙◌, arith, length-take}
use Rattle.std.specs.Fmt.{decimal}
use Rattle.mav_text.specs.FrameText.{pair_text}
use Rattle.mav_text.specs.SkipBlocks.{blank_line, blank_lines}
use Rattle.mav_text.proofs.SkipBlockSteps.{blanks_next, blanks_prefix}
use Rattle.mav_text.proofs.skip_block.put_blanks.Goals as goal

pub loop-pair-preserved : goal.loop-pair-preserved
loop-pair-preserved c =
    let l = c.loop-pair in let t : ℕ = c.args.ten_thousands in let why = c.args.why in
    let put : take c.put_blank-at.result c.put_blank-at.new.bytes ≡ take l.at l.bytes ++ blank_line t l.pair why =
    c.put_blank-at.ensures.text ∙ ap (λ (e : List ℕ). take l.at l.bytes ++ (decimal t ++ (codes "00" ++ (pair_text l.pair ++ e)))) c.requires.ending in
    let lines : take c.put_blank-at.result c.put_blank-at.new.bytes ≡ blank_lines (l.pair + 1) t 0 why =
    blanks_next t why l.pair l.bytes l.at c.put_blank-at.result l.invariant.at l.invariant.lines c.put_blank-at.new.bytes put in
    record {
      room = omega (arith, l.invariant.room, c.put_blank-at.ensures.room);
      at = omega (arith, ap length lines, length-take c.put_blank-at.result c.put_blank-at.new.bytes, c.put_blank-at.array_long, c.put_blank-at.ensures.room, l.invariant.room);
      lines = lines;
    }

pub returns : goal.returns
returns c count h =
    let l = c.loop-pair in
    let whole = ap (λ (n : ℕ). take n l.bytes) (sym l.invariant.at) ∙ l.invariant.lines in
    blanks_prefix c.args.ten_thousands c.args.why l.pair count l.bytes (omega arith) whole
