-- Blocks of lines: which lines they hold, and how their digits are written.
use Rattle.std.proofs.Common.{◌≡◌, ℕ, zero, suc, ◌+◌, ◌-◌, ◌*◌, ◌<◌, ◌≤◌, List, [], ◌∷◌, ◌++◌, codes, length, take, drop, get_or, set, sym, ap, ◌∙◌, arith, append_assoc, append-nil, take-take, take-append-drop, length-append, length-take}
use Rattle.std.proofs.Math.Nat.{suc-mul, zero-mul}
use Rattle.std.proofs.Math.Seq.{take-append_seam, drop-append_seam}
use Rattle.std.proofs.lemmas.List.{set-append_right, take_more}
use Rattle.std.specs.Fmt.{decimal}
use Rattle.mav_frame.specs.declared.looks.Why.{Why}
use Rattle.mav_text.specs.FrameText.{pair_text, byte_hex, why_text, skip_line, skip_lines}
use Rattle.mav_text.specs.SkipBlocks.{blank_line, blank_lines}
use Rattle.mav_text.proofs.SkipSteps.{digits_by_pair, line_by_pair, skips_append}

set_at : (front rest : List ℕ) (at k x : ℕ) → length front ≡ at → set (front ++ rest) (at + k) x ≡ front ++ set rest k x
set_at front rest at k x long =
    let here : at + k - at ≡ k = omega arith in
    set-append_right front rest at (at + k) x long (omega arith) ∙ ap (λ (n : ℕ). front ++ set rest n x) here

module _ (t : ℕ) (why : Why) where
  -- ---- the lines of a block

  -- what stands behind the last digit of a line's offset
  abbrev ending : List ℕ
  ending = codes " skip 00 " ++ why_text why ++ 10 ∷ []

  pub line_length : (pair : ℕ) → length (blank_line t pair why) ≡ length (blank_line t 0 why)
  line_length pair =
      length-append (decimal t) (codes "00" ++ (pair_text pair ++ ending)) ∙ sym (length-append (decimal t) (codes "00" ++ (pair_text 0 ++ ending)))

  pub line_room : (pair : ℕ) → length (decimal t) + 12 ≤ length (blank_line t pair why)
  line_room pair = omega (arith, length-append (decimal t) (codes "00" ++ (pair_text pair ++ ending)))

  pub blanks_append : (n m pair : ℕ) → blank_lines (n + m) t pair why ≡ blank_lines n t pair why ++ blank_lines m t (pair + n) why
  blanks_append zero m pair =
      let none : zero + m ≡ m = omega arith in let here : pair ≡ pair + zero = omega arith in
      ap (λ (k : ℕ). blank_lines k t pair why) none ∙ ap (λ (k : ℕ). blank_lines m t k why) here
  blanks_append (suc n) m pair =
      let more : suc n + m ≡ suc (n + m) = omega arith in let next : suc pair + n ≡ pair + suc n = omega arith in
      ap (λ (k : ℕ). blank_lines k t pair why) more
      ∙ (ap (λ (l : List ℕ). blank_line t pair why ++ l) (blanks_append n m (suc pair) ∙ ap (λ (k : ℕ). blank_lines n t (suc pair) why ++ blank_lines m t k why) next)
      ∙ sym (append_assoc (blank_line t pair why) (blank_lines n t (suc pair) why) (blank_lines m t (pair + suc n) why)))

  pub blanks_length : (n pair : ℕ) → length (blank_lines n t pair why) ≡ n * length (blank_line t 0 why)
  blanks_length zero pair = sym (zero-mul (length (blank_line t 0 why)))
  blanks_length (suc n) pair =
      omega (arith, length-append (blank_line t pair why) (blank_lines n t (suc pair) why), line_length pair, blanks_length n (suc pair), suc-mul n (length (blank_line t 0 why)))

  -- one more line is put
  pub blanks_next : (n : ℕ) (bytes : List ℕ) (at end : ℕ) → at ≡ length (blank_lines n t 0 why) → take at bytes ≡ blank_lines n t 0 why → (new : List ℕ) → take end new ≡ take at bytes ++ blank_line t n why → take end new ≡ blank_lines (n + 1) t 0 why
  blanks_next n bytes at end long held new put =
      let here : n ≡ 0 + n = omega arith in
      put ∙ ((λ i. held i ++ blank_line t (here i) why)
      ∙ (ap (λ (l : List ℕ). blank_lines n t 0 why ++ l) (sym (append-nil (blank_line t (0 + n) why))) ∙ sym (blanks_append n 1 0)))

  -- fewer lines
  pub blanks_prefix : (n count : ℕ) (bytes : List ℕ) → count ≤ n → take (length (blank_lines n t 0 why)) bytes ≡ blank_lines n t 0 why → take (length (blank_lines count t 0 why)) bytes ≡ blank_lines count t 0 why
  blanks_prefix n count bytes within held =
      let first : List ℕ = blank_lines count t 0 why in let rest : List ℕ = blank_lines (n - count) t (0 + count) why in
      let parts : n ≡ count + (n - count) = omega arith in
      let whole : blank_lines n t 0 why ≡ first ++ rest = ap (λ (k : ℕ). blank_lines k t 0 why) parts ∙ blanks_append count (n - count) 0 in
      sym (take-take (length first) (length (blank_lines n t 0 why)) bytes (omega (arith, ap length whole, length-append first rest)))
      ∙ (ap (take (length first)) (held ∙ whole) ∙ take-append_seam first rest)

  -- lines in the middle
  pub blanks_part : (pair n start end : ℕ) (bytes : List ℕ) → take (length (blank_lines (pair + n) t 0 why)) bytes ≡ blank_lines (pair + n) t 0 why → start ≡ length (blank_lines pair t 0 why) → end ≡ length (blank_lines (pair + n) t 0 why) → take (end - start) (drop start bytes) ≡ blank_lines n t pair why
  blanks_part pair n start end bytes held from to =
      let first : List ℕ = blank_lines pair t 0 why in let lines : List ℕ = blank_lines n t (0 + pair) why in
      let behind : List ℕ = drop (length (blank_lines (pair + n) t 0 why)) bytes in
      let here : 0 + pair ≡ pair = omega arith in
      let whole : blank_lines (pair + n) t 0 why ≡ first ++ lines = blanks_append pair n 0 in
      let all : bytes ≡ first ++ (lines ++ behind) =
      sym (take-append-drop (length (blank_lines (pair + n) t 0 why)) bytes) ∙ (ap (λ (l : List ℕ). l ++ behind) (held ∙ whole) ∙ append_assoc first lines behind) in
      let long : end - start ≡ length lines = omega (arith, from, to, ap length whole, length-append first lines) in
      (λ i. take (long i) (drop (from i) (all i)))
      ∙ (ap (take (length lines)) (drop-append_seam first (lines ++ behind))
      ∙ (take-append_seam lines behind ∙ ap (λ (k : ℕ). blank_lines n t k why) here))

  -- ---- the digits of a line

  -- a line, by the ten thousands of its offset, the hundreds and the last two digits
  module _ (some : 0 < t) (near : t < 1000000) (hundreds pair byte : ℕ) (two : hundreds < 100) (last : pair < 100) where
    abbrev digits : List ℕ
    digits = pair_text hundreds ++ (pair_text pair ++ (codes " skip " ++ (byte_hex byte ++ (32 ∷ why_text why ++ 10 ∷ []))))

    pub line_by_four : decimal t ++ digits ≡ skip_line (10000 * t + 100 * hundreds + pair) byte why
    line_by_four =
        let behind : List ℕ = pair_text pair ++ (codes " skip " ++ (byte_hex byte ++ (32 ∷ why_text why ++ 10 ∷ []))) in
        let number : 100 * (100 * t + hundreds) + pair ≡ 10000 * t + 100 * hundreds + pair = omega arith in
        sym (append_assoc (decimal t) (pair_text hundreds) behind)
        ∙ (ap (λ (l : List ℕ). l ++ behind) (sym (digits_by_pair t hundreds some (omega arith) two))
        ∙ (line_by_pair (100 * t + hundreds) pair byte why (omega arith) (omega arith) last
        ∙ ap (λ (n : ℕ). skip_line n byte why) number))

    pub written_length : length (skip_line (10000 * t + 100 * hundreds + pair) byte why) ≡ length (blank_line t 0 why)
    written_length =
        ap length (sym line_by_four) ∙ (length-append (decimal t) digits ∙ sym (length-append (decimal t) (codes "00" ++ (pair_text 0 ++ ending))))

    -- they are written over those of a line without them
    pub written : (front rest : List ℕ) (at tens ones high low : ℕ) → at ≡ length front + length (decimal t) → tens ∷ ones ∷ [] ≡ pair_text hundreds → high ∷ low ∷ [] ≡ byte_hex byte → set (set (set (set (front ++ (blank_line t pair why ++ rest)) at tens) (at + 1) ones) (at + 10) high) (at + 10 + 1) low ≡ (front ++ skip_line (10000 * t + 100 * hundreds + pair) byte why) ++ rest
    written front rest at tens ones high low place first second =
        let before : List ℕ = front ++ decimal t in
        let long : length before ≡ at = omega (arith, length-append front (decimal t), place) in
        let tail : List ℕ = 32 ∷ why_text why ++ 10 ∷ [] in
        let zeros : List ℕ = (codes "00" ++ (pair_text pair ++ ending)) ++ rest in
        let one : List ℕ = set zeros 0 tens in let both : List ℕ = set one 1 ones in let third : List ℕ = set both 10 high in
        let here : at ≡ at + 0 = omega arith in
        let eleven : at + 10 + 1 ≡ at + 11 = omega arith in
        let apart : front ++ (blank_line t pair why ++ rest) ≡ before ++ zeros =
        ap (λ (l : List ℕ). front ++ l) (append_assoc (decimal t) (codes "00" ++ (pair_text pair ++ ending)) rest) ∙ sym (append_assoc front (decimal t) zeros) in
        (λ i. set (set (set (set (apart i) (here i) tens) (at + 1) ones) (at + 10) high) (eleven i) low)
        ∙ (ap (λ (l : List ℕ). set (set (set l (at + 1) ones) (at + 10) high) (at + 11) low) (set_at before zeros at 0 tens long)
        ∙ (ap (λ (l : List ℕ). set (set l (at + 10) high) (at + 11) low) (set_at before one at 1 ones long)
        ∙ (ap (λ (l : List ℕ). set l (at + 11) low) (set_at before both at 10 high long)
        ∙ (set_at before third at 11 low long
        ∙ ((λ i. before ++ ((first i ++ (pair_text pair ++ (codes " skip " ++ (second i ++ tail)))) ++ rest))
        ∙ (append_assoc front (decimal t) (digits ++ rest)
        ∙ (ap (λ (l : List ℕ). front ++ l) (sym (append_assoc (decimal t) digits rest))
        ∙ (sym (append_assoc front (decimal t ++ digits) rest)
        ∙ ap (λ (l : List ℕ). (front ++ l) ++ rest) line_by_four))))))))

-- the lines of one byte more
pub skips_more : (start i : ℕ) (bytes : List ℕ) (why : Why) → i < length bytes → skip_lines start (take (i + 1) bytes) why ≡ skip_lines start (take i bytes) why ++ skip_line (start + i) (get_or bytes i 0) why
skips_more start i bytes why inside =
    let byte : ℕ = get_or bytes i 0 in
    let long : length (take i bytes) ≡ i = omega (arith, length-take i bytes) in
    ap (λ (l : List ℕ). skip_lines start l why) (take_more bytes i 0 inside)
    ∙ (skips_append start (take i bytes) (byte ∷ []) why
    ∙ ap (λ (l : List ℕ). skip_lines start (take i bytes) why ++ l) (append-nil (skip_line (start + length (take i bytes)) byte why) ∙ ap (λ (n : ℕ). skip_line (start + n) byte why) long))
