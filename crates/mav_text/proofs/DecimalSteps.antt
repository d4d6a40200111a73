-- Digits that are put one part after another.
use Rattle.std.proofs.Common.{◌≡◌, ℕ, ◌/◌, ◌%◌, ◌^◌, ◌<◌, ◌≤◌, List, ◌++◌, sym, ap, ◌∙◌, arith, append_assoc}
use Rattle.std.specs.Fmt.{decimal}
use Rattle.itoa.proofs.Decimal.{decimal_four}
use Rattle.mav_text.specs.FrameText.{pair_text, byte_hex, word_hex}

-- one text after another
pub two_put : (start first last a b whole : List ℕ) → first ≡ start ++ a → last ≡ first ++ b → whole ≡ a ++ b → last ≡ start ++ whole
two_put start first last a b whole prefix back both =
    back ∙ (ap (λ (t : List ℕ). t ++ b) prefix ∙ (append_assoc start a b ∙ ap (λ (t : List ℕ). start ++ t) (sym both)))

-- the last eight digits
pub decimal_eight : (number : ℕ) → 100000000 ≤ number → number < 2 ^ 64 → decimal number ≡ decimal (number / 100000000) ++ ((pair_text (number % 100000000 / 10000 / 100) ++ pair_text (number % 100000000 / 10000 % 100)) ++ (pair_text (number % 100000000 % 10000 / 100) ++ pair_text (number % 100000000 % 10000 % 100)))
decimal_eight number low fits =
    let prefix : number / 10000 / 10000 ≡ number / 100000000 = omega arith in
    let third : number / 10000 % 10000 ≡ number % 100000000 / 10000 = omega arith in
    let last : number % 10000 ≡ number % 100000000 % 10000 = omega arith in
    let four : List ℕ = pair_text (number % 10000 / 100) ++ pair_text (number % 10000 % 100) in
    decimal_four number (omega arith) fits
    ∙ (ap (λ (t : List ℕ). t ++ four) (decimal_four (number / 10000) (omega arith) (omega arith))
    ∙ (append_assoc (decimal (number / 10000 / 10000)) (pair_text (number / 10000 % 10000 / 100) ++ pair_text (number / 10000 % 10000 % 100)) four
    ∙ (λ i. decimal (prefix i) ++ ((pair_text (third i / 100) ++ pair_text (third i % 100)) ++ (pair_text (last i / 100) ++ pair_text (last i % 100))))))

-- the two halves of a word
pub long_word : (word : ℕ) → word_hex 8 word ≡ word_hex 4 (word / 2 ^ 32) ++ word_hex 4 (word % 2 ^ 32)
long_word word =
    let low : ℕ = word % 2 ^ 32 in
    let high : word / 256 / 256 / 256 / 256 ≡ word / 2 ^ 32 = omega arith in
    let a : word / 256 / 256 / 256 % 256 ≡ low / 256 / 256 / 256 % 256 = omega arith in
    let b : word / 256 / 256 % 256 ≡ low / 256 / 256 % 256 = omega arith in
    let c : word / 256 % 256 ≡ low / 256 % 256 = omega arith in
    let d : word % 256 ≡ low % 256 = omega arith in
    λ i. (((word_hex 4 (high i) ++ byte_hex (a i)) ++ byte_hex (b i)) ++ byte_hex (c i)) ++ byte_hex (d i)
