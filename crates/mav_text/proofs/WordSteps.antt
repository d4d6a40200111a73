-- Words that are read one after another, and their texts.
use Rattle.std.proofs.Common.{◌≡◌, ◌≢◌, ℕ, zero, suc, ◌+◌, ◌-◌, ◌*◌, ◌<◌, ◌==◌, Bool, true, false, if◌then◌else◌, List, [], ◌∷◌, ◌++◌, map, refl, sym, ap, ◌∙◌, arith, append_assoc, append-nil}
use Rattle.std.specs.List.{range_with_len}
use Rattle.std.proofs.lemmas.Bool.Decides.{nat_tests}
use Rattle.field_layout.specs.declared.ty.Ty.{Ty}
use Rattle.field_layout.specs.Reading.{word_from, words_from}
use Rattle.mav_text.specs.FrameText.{number_text, char_text, chars_text, further_text, values_text}

-- words an index further are those a word further
shifted : (payload : List ℕ) (at size first count : ℕ) → map (λ k. word_from payload (at + size * k) size) (range_with_len (first + 1) count) ≡ map (λ k. word_from payload ((at + size) + size * k) size) (range_with_len first count)
shifted payload at size first zero = refl
shifted payload at size first (suc count) =
    let e : at + size * (first + 1) ≡ (at + size) + size * first = omega arith in
    λ i. word_from payload (e i) size ∷ shifted payload at size (first + 1) count i

-- the first word, and those after it
pub words_next : (payload : List ℕ) (at size count : ℕ) → 0 < count → words_from payload at size count ≡ word_from payload at size ∷ words_from payload (at + size) size (count - 1)
words_next payload at size zero some = absurd (omega arith)
words_next payload at size (suc count) some =
    let e : at + size * 0 ≡ at = omega arith in
    let fewer : suc count - 1 ≡ count = omega arith in
    (λ i. word_from payload (e i) size ∷ shifted payload at size 0 count i)
    ∙ ap (λ (n : ℕ). word_from payload at size ∷ words_from payload (at + size) size n) (sym fewer)

pub chars_next : (payload : List ℕ) (at count : ℕ) (text : List ℕ) → 0 < count → word_from payload at 1 ≢ 0 → text ++ chars_text (words_from payload at 1 count) ≡ (text ++ char_text (word_from payload at 1)) ++ chars_text (words_from payload (at + 1) 1 (count - 1))
chars_next payload at count text some other =
    let byte = word_from payload at 1 in
    let rest = chars_text (words_from payload (at + 1) 1 (count - 1)) in
    let test : (byte == 0) ≡ false = grind (arith, nat_tests) in
    ap (λ (ws : List ℕ). text ++ chars_text ws) (words_next payload at 1 count some)
    ∙ (ap (λ (t : Bool). text ++ (if t then [] else char_text byte ++ rest)) test
    ∙ sym (append_assoc text (char_text byte) rest))

pub chars_end : (payload : List ℕ) (at count : ℕ) (text : List ℕ) → 0 < count → word_from payload at 1 ≡ 0 → text ++ chars_text (words_from payload at 1 count) ≡ text
chars_end payload at count text some zero_here =
    let byte = word_from payload at 1 in
    let test : (byte == 0) ≡ true = grind (arith, nat_tests) in
    ap (λ (ws : List ℕ). text ++ chars_text ws) (words_next payload at 1 count some)
    ∙ (ap (λ (t : Bool). text ++ (if t then [] else char_text byte ++ chars_text (words_from payload (at + 1) 1 (count - 1)))) test
    ∙ append-nil text)

pub further_next : (ty : Ty) (payload : List ℕ) (at size count : ℕ) (text : List ℕ) → 0 < count → text ++ further_text ty (words_from payload at size count) ≡ ((text ++ 44 ∷ []) ++ number_text ty (word_from payload at size)) ++ further_text ty (words_from payload (at + size) size (count - 1))
further_next ty payload at size count text some =
    let number = number_text ty (word_from payload at size) in
    let rest = further_text ty (words_from payload (at + size) size (count - 1)) in
    ap (λ (ws : List ℕ). text ++ further_text ty ws) (words_next payload at size count some)
    ∙ (sym (append_assoc text (44 ∷ []) (number ++ rest))
    ∙ sym (append_assoc (text ++ 44 ∷ []) number rest))

pub values_first : (ty : Ty) (payload : List ℕ) (at size count : ℕ) (text : List ℕ) → 0 < count → text ++ values_text ty (words_from payload at size count) ≡ (text ++ number_text ty (word_from payload at size)) ++ further_text ty (words_from payload (at + size) size (count - 1))
values_first ty payload at size count text some =
    ap (λ (ws : List ℕ). text ++ values_text ty ws) (words_next payload at size count some)
    ∙ sym (append_assoc text (number_text ty (word_from payload at size)) (further_text ty (words_from payload (at + size) size (count - 1))))

pub one_less : (size left : ℕ) → 0 < left → size * left ≡ size * (left - 1) + size
one_less size zero some = absurd (omega arith)
one_less size (suc left) some = let e : suc left - 1 ≡ left = omega arith in rw e (omega arith)
