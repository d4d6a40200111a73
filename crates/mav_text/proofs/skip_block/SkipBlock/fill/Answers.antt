use Rattle.std.proofs.Common.{◌≡◌, ℕ, ◌+◌, ◌-◌, ◌*◌, ◌/◌, ◌%◌, ◌<◌, ◌≤◌, List, [], ◌∷◌, ◌++◌, suc, get_or, length, take, set, slice_index, sym, ap, ◌∙◌, arith, length-append}
use Rattle.std.proofs.lemmas.List.{length-set}
use Rattle.std.specs.Fmt.{decimal}
use Rattle.mav_frame.specs.declared.looks.Why.{Why}
use Rattle.mav_text.specs.FrameText.{pair_text, byte_hex, skip_line, skip_lines}
use Rattle.mav_text.specs.SkipBlocks.{blank_line, blank_lines}
use Rattle.mav_text.proofs.SkipBlockSteps.{line_room, written, written_length, skips_more}
use Rattle.mav_text.proofs.skip_block.SkipBlock.fill.Goals as goal

-- the next line stands first among those that are left
next_first : (t pair count : ℕ) (why : Why) → 0 < count → blank_lines count t pair why ≡ blank_line t pair why ++ blank_lines (count - 1) t (suc pair) why
next_first t pair count why some =
    let more : count ≡ suc (count - 1) = omega arith in
    ap (λ (n : ℕ). blank_lines n t pair why) more

has_room : (t pair count at : ℕ) (why : Why) (lines done : List ℕ) → 0 < count → lines ≡ done ++ blank_lines count t pair why → at ≡ length done + length (decimal t) → at + 12 ≤ length lines
has_room t pair count at why lines done some is place =
    let rest : List ℕ = blank_lines (count - 1) t (suc pair) why in
    omega (arith, ap length is, length-append done (blank_lines count t pair why), ap length (next_first t pair count why some), length-append (blank_line t pair why) rest, line_room t why pair, place)

pub set_word-requires : goal.set_word-requires
set_word-requires c =
    let l = c.loop-byte in let bytes : List ℕ = c.args.bytes.now in
    let room = has_room c.args.self.now.0 (c.args.last_four % 100 + l.byte-index) (length bytes - l.byte-index) l.at c.args.self.now.1 l.lines _ (omega (arith, c.loop-byte-test.true)) l.invariant.lines l.invariant.at in
    omega (arith, room)

pub set_pair-requires : goal.set_pair-requires
set_pair-requires c =
    let l = c.loop-byte in let bytes : List ℕ = c.args.bytes.now in
    let room = has_room c.args.self.now.0 (c.args.last_four % 100 + l.byte-index) (length bytes - l.byte-index) l.at c.args.self.now.1 l.lines _ (omega (arith, c.loop-byte-test.true)) l.invariant.lines l.invariant.at in
    let tens : ℕ = c.pair_word-hundreds.result % 256 in let ones : ℕ = c.pair_word-hundreds.result / 256 in
    omega (arith, room, ap length c.set_word.ensures, length-set (set l.lines l.at tens) (l.at + 1) ones, length-set l.lines l.at tens)

pub loop-byte-preserved : goal.loop-byte-preserved
loop-byte-preserved c =
    let l = c.loop-byte in let i : ℕ = l.byte-index in let bytes : List ℕ = c.args.bytes.now in
    let inside = c.self.inside in let t : ℕ = c.args.self.now.0 in let why : Why = c.args.self.now.1 in
    let last_four : ℕ = c.args.last_four in let start : ℕ = 10000 * t + last_four in
    let at : ℕ = l.at in let hundreds : ℕ = last_four / 100 in let pair : ℕ = last_four % 100 + i in let byte : ℕ = get_or bytes i 0 in
    let is_inside : i < length bytes = c.loop-byte-test.true in
    let some : 0 < t = omega (arith, c.self.invariant.0, ap (λ (z : ℕ × Why). z.0) c.self.view_is) in
    let near : t < 1000000 = omega (arith, c.self.invariant.1, ap (λ (z : ℕ × Why). z.0) c.self.view_is) in
    let two : hundreds < 100 = omega (arith, c.requires.last_four) in
    let last : pair < 100 = omega (arith, c.requires.same, is_inside) in
    let tens : ℕ = c.pair_word-hundreds.result % 256 in let ones : ℕ = c.pair_word-hundreds.result / 256 in
    let high : ℕ = slice_index c.byte_digits.result 0 in let low : ℕ = slice_index c.byte_digits.result 1 in
    let hundreds_is : tens ∷ ones ∷ [] ≡ pair_text hundreds = c.pair_word-hundreds.ensures in
    let byte_is : high ∷ low ∷ [] ≡ byte_hex byte = ap (λ (d : List ℕ). slice_index d 0 ∷ slice_index d 1 ∷ []) c.byte_digits.ensures in
    let done : List ℕ = skip_lines start (take i bytes) why in
    let rest : List ℕ = blank_lines (length bytes - i - 1) t (suc pair) why in
    let here : 10000 * t + 100 * hundreds + pair ≡ start + i = omega arith in
    let fewer : length bytes - i - 1 ≡ length bytes - (i + 1) = omega arith in
    let next : suc pair ≡ last_four % 100 + (i + 1) = omega arith in
    let before : l.lines ≡ done ++ (blank_line t pair why ++ rest) =
    l.invariant.lines ∙ ap (λ (x : List ℕ). done ++ x) (next_first t pair (length bytes - i) why (omega (arith, is_inside))) in
    let more : skip_lines start (take (i + 1) bytes) why ≡ done ++ skip_line (10000 * t + 100 * hundreds + pair) byte why =
    skips_more start i bytes why is_inside ∙ ap (λ (n : ℕ). done ++ skip_line n byte why) (sym here) in
    let long : inside.line_len ≡ length (blank_line t 0 why) = c.self.invariant.4 ∙ ap (λ (z : ℕ × Why). length (blank_line z.0 0 z.1)) c.self.view_is in
    record {
      at = omega (arith, l.invariant.at, long, ap length more, length-append done (skip_line (10000 * t + 100 * hundreds + pair) byte why), written_length t why some near hundreds pair byte two last);
      lines =
          c.set_pair.ensures
          ∙ ((λ k. set (set (c.set_word.ensures k) (at + 10) high) (at + 10 + 1) low)
          ∙ ((λ k. set (set (set (set (before k) at tens) (at + 1) ones) (at + 10) high) (at + 10 + 1) low)
          ∙ (written t why some near hundreds pair byte two last done rest at tens ones high low l.invariant.at hundreds_is byte_is
          ∙ (λ k. sym more k ++ blank_lines (fewer k) t (next k) why))));
    }
