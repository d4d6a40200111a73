-- Lines of skipped bytes, one after another.
use Rattle.std.proofs.Common.{◌≡◌, ℕ, suc, ◌+◌, ◌-◌, ◌*◌, ◌/◌, ◌%◌, ◌<◌, ◌≤◌, List, [], ◌∷◌, ◌++◌, codes, length, take, drop, get_or, sym, ap, ◌∙◌, arith, append_assoc, drop-cons, take-take, take-append-drop, length-take}
use Rattle.std.proofs.lemmas.List.{take_all, take-append-le, length-drop}
use Rattle.std.specs.Fmt.{decimal}
use Rattle.std.specs.List.{slice_range}
use Rattle.std.proofs.lemmas.List.Folds.{drop_split}
use Rattle.itoa.proofs.Decimal.{decimal_pair}
use Rattle.mav_frame.specs.declared.looks.Why.{Why}
use Rattle.mav_text.specs.FrameText.{pair_text, byte_hex, why_text, skip_line, skip_lines}

-- one more line is put
pub skips_next : (now next : List ℕ) (start i : ℕ) (bytes : List ℕ) (why : Why) → i < length bytes → next ≡ now ++ skip_line start (get_or bytes i 0) why → next ++ skip_lines (start + 1) (drop (i + 1) bytes) why ≡ now ++ skip_lines start (drop i bytes) why
skips_next now next start i bytes why inside put =
    let rest = skip_lines (start + 1) (drop (i + 1) bytes) why in
    let behind : suc i ≡ i + 1 = omega arith in
    let split : drop i bytes ≡ get_or bytes i 0 ∷ drop (i + 1) bytes = drop-cons bytes i 0 inside ∙ ap (λ (n : ℕ). get_or bytes i 0 ∷ drop n bytes) behind in
    ap (λ (t : List ℕ). t ++ rest) put
    ∙ (append_assoc now (skip_line start (get_or bytes i 0) why) rest
    ∙ ap (λ (xs : List ℕ). now ++ skip_lines start xs why) (sym split))

-- the lines of two runs
pub skips_append : (start : ℕ) (xs ys : List ℕ) (why : Why) → skip_lines start (xs ++ ys) why ≡ skip_lines start xs why ++ skip_lines (start + length xs) ys why
skips_append start [] ys why = ap (λ (n : ℕ). skip_lines n ys why) (omega arith)
skips_append start (x ∷ xs) ys why =
    let further : start + 1 + length xs ≡ start + suc (length xs) = omega arith in
    ap (λ (t : List ℕ). skip_line start x why ++ t) (skips_append (start + 1) xs ys why ∙ ap (λ (n : ℕ). skip_lines (start + 1) xs why ++ skip_lines n ys why) further)
    ∙ sym (append_assoc (skip_line start x why) (skip_lines (start + 1) xs why) (skip_lines (start + suc (length xs)) ys why))

-- the digits of a number, by its hundreds and the last two
pub digits_by_pair : (hundreds pair : ℕ) → 0 < hundreds → hundreds < 100000000 → pair < 100 → decimal (100 * hundreds + pair) ≡ decimal hundreds ++ pair_text pair
digits_by_pair hundreds pair some near two =
    let number : ℕ = 100 * hundreds + pair in
    let quotient : number / 100 ≡ hundreds = omega arith in
    let remainder : number % 100 ≡ pair = omega arith in
    decimal_pair number (omega arith) (omega arith) ∙ (λ i. decimal (quotient i) ++ pair_text (remainder i))

-- a line, by the hundreds of its offset and the last two digits
pub line_by_pair : (hundreds pair byte : ℕ) (why : Why) → 0 < hundreds → hundreds < 100000000 → pair < 100 → decimal hundreds ++ (pair_text pair ++ (codes " skip " ++ (byte_hex byte ++ (32 ∷ why_text why ++ 10 ∷ [])))) ≡ skip_line (100 * hundreds + pair) byte why
line_by_pair hundreds pair byte why some near two =
    let number : ℕ = 100 * hundreds + pair in
    let whole : decimal number ≡ decimal hundreds ++ pair_text pair = digits_by_pair hundreds pair some near two in
    let behind : List ℕ = byte_hex byte ++ (32 ∷ why_text why ++ 10 ∷ []) in
    sym (append_assoc (decimal hundreds) (pair_text pair) (codes " skip " ++ behind))
    ∙ (ap (λ (t : List ℕ). t ++ (codes " skip " ++ behind)) (sym whole)
    ∙ (sym (append_assoc (decimal number) (codes " skip ") behind)
    ∙ (sym (append_assoc (decimal number ++ codes " skip ") (byte_hex byte) (32 ∷ why_text why ++ 10 ∷ []))
    ∙ sym (append_assoc (decimal number ++ codes " skip " ++ byte_hex byte) (32 ∷ why_text why) (10 ∷ [])))))

-- a line, whose offset is put together with what stands after it
pub line_joined : (offset byte : ℕ) (why : Why) (skip_ending : List ℕ) → skip_ending ≡ codes " skip 00 " ++ why_text why ++ 10 ∷ [] → decimal offset ++ (take 6 skip_ending ++ byte_hex byte ++ drop 8 skip_ending) ≡ skip_line offset byte why
line_joined offset byte why skip_ending back =
    let last : List ℕ = 32 ∷ why_text why ++ 10 ∷ [] in
    ap (λ (t : List ℕ). decimal offset ++ (take 6 t ++ byte_hex byte ++ drop 8 t)) back
    ∙ (sym (append_assoc (decimal offset) (codes " skip " ++ byte_hex byte) last)
    ∙ (ap (λ (t : List ℕ). t ++ last) (sym (append_assoc (decimal offset) (codes " skip ") (byte_hex byte)))
    ∙ sym (append_assoc (decimal offset ++ codes " skip " ++ byte_hex byte) (32 ∷ why_text why) (10 ∷ []))))

-- nothing was appended, or a piece
pub kept_same : (start after : List ℕ) (n : ℕ) → n ≡ length start → after ≡ start → take n after ≡ start
kept_same start after n long is = ap (take n) is ∙ take_all n start (omega arith)

pub kept_prefix : (start piece after : List ℕ) (n : ℕ) → n ≡ length start → after ≡ start ++ piece → take n after ≡ start
kept_prefix start piece after n long is = ap (take n) is ∙ (take-append-le n start piece (omega arith) ∙ take_all n start (omega arith))

-- what is kept of a prefix is kept
pub kept_more : (start out after : List ℕ) (n m : ℕ) → n ≡ length start → m ≡ length out → take n out ≡ start → take m after ≡ out → take n after ≡ start
kept_more start out after n m first second kept grown =
    let long = ap length kept in
    sym (take-take n m after (omega (arith, long, length-take n out))) ∙ (ap (take n) grown ∙ kept)

-- a part of the lines is put
pub skips_part : (now put : List ℕ) (first done next : ℕ) (bytes : List ℕ) (why : Why) → done ≤ next → next ≤ length bytes → put ≡ now ++ skip_lines (first + done) (slice_range bytes done next) why → put ++ skip_lines (first + next) (drop next bytes) why ≡ now ++ skip_lines (first + done) (drop done bytes) why
skips_part now put first done next bytes why after within is =
    let part : List ℕ = slice_range bytes done next in
    let rest : List ℕ = drop next bytes in
    let long : length part ≡ next - done = omega (arith, length-take (next - done) (drop done bytes), length-drop done bytes) in
    let start : first + next ≡ first + done + length part = omega arith in
    (λ i. is i ++ skip_lines (start i) rest why)
    ∙ (append_assoc now (skip_lines (first + done) part why) (skip_lines (first + done + length part) rest why)
    ∙ (ap (λ (t : List ℕ). now ++ t) (sym (skips_append (first + done) part rest why))
    ∙ ap (λ (xs : List ℕ). now ++ skip_lines (first + done) xs why) (sym (drop_split bytes done next after))))

-- the lines of a prefix, and those of the rest
pub skips_split : (out : List ℕ) (start small : ℕ) (bytes : List ℕ) (why : Why) → small ≤ length bytes → (out ++ skip_lines start (take small bytes) why) ++ skip_lines (start + small) (take (length bytes - small) (drop small bytes)) why ≡ out ++ skip_lines start bytes why
skips_split out start small bytes why within =
    let all : take (length bytes - small) (drop small bytes) ≡ drop small bytes = take_all (length bytes - small) (drop small bytes) (omega (arith, length-drop small bytes)) in
    let long : small ≡ length (take small bytes) = omega (arith, length-take small bytes) in
    ap (λ (xs : List ℕ). (out ++ skip_lines start (take small bytes) why) ++ skip_lines (start + small) xs why) all
    ∙ (append_assoc out (skip_lines start (take small bytes) why) (skip_lines (start + small) (drop small bytes) why)
    ∙ ap (λ (t : List ℕ). out ++ t) (
    ap (λ (n : ℕ). skip_lines start (take small bytes) why ++ skip_lines (start + n) (drop small bytes) why) long
    ∙ (sym (skips_append start (take small bytes) (drop small bytes) why)
    ∙ ap (λ (xs : List ℕ). skip_lines start xs why) (take-append-drop small bytes))))
