-- Decimal numbers as words of a line.
use Rattle.std.proofs.Common.{◌≡◌, ◌∙◌, ℕ, ◌+◌, ◌-◌, ◌*◌, ◌/◌, ◌%◌, ◌^◌, ◌<◌, ◌≤◌, Bool, true, false, not, ◌==◌, ◌&&◌, nat_lt, List, [], ◌∷◌, ◌++◌, Some, pos, refl, ap, arith}
use Rattle.std.specs.Prelude.{nat_le, All}
use Rattle.std.specs.Fmt.{decimal}
use Rattle.std.specs.List.{list_all}
use Rattle.std.proofs.lemmas.Fmt.{decimal_by_steps}
use Rattle.std.proofs.lemmas.Bool.{cond-true, cond-false}
use Rattle.std.proofs.lemmas.List.Elements.{All-nil, All-cons}
use Rattle.std.proofs.lemmas.List.Splits.{slice_split_none, slice_split_at}
use Rattle.scenario_lines.specs.Words.{is_space, words_of, is_digit, is_numeral, digits_onto, digits_value, number_in, positive_of, integer_of}
use Rattle.fleet_invariants.proofs.Tests.{both_true}

-- the first digit isn't 0
abbrev starts : List ℕ → Bool
starts [] = false
starts (d ∷ ds) = not (d == 48)

digit_is : (n : ℕ) → n < 10 → is_digit (48 + n) ≡ true
digit_is n h = grind arith

digit_not_zero : (n : ℕ) → 1 ≤ n → not (48 + n == 48) ≡ true
digit_not_zero n h = grind arith

onto_append : (ds : List ℕ) (n d : ℕ) → digits_onto n (ds ++ d ∷ []) ≡ digits_onto n ds * 10 + (d - 48)
onto_append [] n d = refl
onto_append (x ∷ xs) n d = onto_append xs (n * 10 + (x - 48)) d

pub and_is : (a b : Bool) → a ≡ true → b ≡ true → (a && b) ≡ true
and_is true true e f = refl
and_is true false e f = f
and_is false b e f = e

pub all_append : (p : ℕ → Bool) (xs ys : List ℕ) → list_all p xs ≡ true → list_all p ys ≡ true → list_all p (xs ++ ys) ≡ true
all_append p [] ys h k = k
all_append p (x ∷ xs) ys h k = let z = both_true (p x) (list_all p xs) h in and_is _ _ z.0 (all_append p xs ys z.1 k)

-- what is known of a number's digits
record Digits (n : ℕ) (ds : List ℕ) : Type 0 where
  value : digits_value ds ≡ n
  digits : list_all is_digit ds ≡ true
  numeral : is_numeral ds ≡ true
  first : 1 ≤ n → starts ds ≡ true

longer : (ds : List ℕ) (d : ℕ) → list_all is_digit ds ≡ true → starts ds ≡ true → is_digit d ≡ true → is_numeral (ds ++ d ∷ []) ≡ true
longer [] d h s e = e
longer (x ∷ []) d h s e = let z = both_true _ _ h in and_is _ _ (and_is _ _ z.0 s) (and_is _ _ e refl)
longer (x ∷ y ∷ ys) d h s e = let z = both_true _ _ h in and_is _ _ (and_is _ _ z.0 s) (all_append is_digit (y ∷ ys) (d ∷ []) z.1 (and_is _ _ e refl))

starts_append : (ds : List ℕ) (d : ℕ) → starts ds ≡ true → starts (ds ++ d ∷ []) ≡ true
starts_append [] d e = absurd (cc)
starts_append (x ∷ xs) d e = e

one_digit : (n : ℕ) → n < 10 → Digits n ((48 + n) ∷ [])
one_digit n h = record {
  value = omega arith;
  digits = and_is _ _ (digit_is n h) refl;
  numeral = digit_is n h;
  first = λ some. digit_not_zero n some;
}

more_digits : (n : ℕ) (ds : List ℕ) → 10 ≤ n → Digits (n / 10) ds → Digits n (ds ++ ((48 + n % 10) ∷ []))
more_digits n ds big h =
    let d = 48 + n % 10 in
    let low : n % 10 < 10 = omega arith in
    let some : 1 ≤ n / 10 = omega (arith, big) in
    let begun = h.first some in
    let digit = digit_is (n % 10) low in
    let value = h.value in
    let onto = onto_append ds 0 d in
    record {
      value = omega (arith, value, onto);
      digits = all_append is_digit ds (d ∷ []) h.digits (and_is _ _ digit refl);
      numeral = longer ds d h.digits begun digit;
      first = λ _. starts_append ds d begun;
    }

digits_are : (n : ℕ) → n < 2 ^ 64 → Digits n (decimal n)
digits_are n h = decimal_by_steps Digits one_digit more_digits n h

-- a number within a range is one
le_is : (a b : ℕ) → a ≤ b → nat_le a b ≡ true
le_is a b h = grind arith

pub number_is : (low high n : ℕ) → low ≤ n → n ≤ high → n < 2 ^ 64 → number_in low high (decimal n) ≡ Some n
number_is low high n least most small =
    let d = digits_are n small in
    cond-true _ _ _ (and_is _ _ d.numeral (and_is _ _ (ap (nat_le low) d.value ∙ le_is low n least) (ap (λ v. nat_le v high) d.value ∙ le_is n high most)))
    ∙ ap Some d.value

-- its digits hold no space, are no sign, and can be printed
pub digits_of : (n : ℕ) → n < 2 ^ 64 → list_all is_digit (decimal n) ≡ true
digits_of n h = (digits_are n h).digits

numeral_some : (low high n : ℕ) → number_in low high [] ≡ Some n → ⊥
numeral_some low high n e = absurd (cc)

no_sign : (b : ℕ) → is_digit b ≡ true → (b == 45) ≡ false
no_sign b e = grind arith

integer_from : (ds : List ℕ) (n : ℕ) → list_all is_digit ds ≡ true → number_in 0 (2 ^ 31 - 1) ds ≡ Some n → integer_of ds ≡ Some (pos n)
integer_from [] n h e = absurd (numeral_some 0 (2 ^ 31 - 1) n e)
integer_from (b ∷ bs) n h e = cond-false (b == 45) _ _ (no_sign b (both_true _ _ h).0) ∙ ap positive_of e

pub integer_is : (n : ℕ) → n < 2 ^ 31 → integer_of (decimal n) ≡ Some (pos n)
integer_is n h = integer_from (decimal n) n (digits_of n (omega (arith, h))) (number_is 0 (2 ^ 31 - 1) n (omega arith) (omega (arith, h)) (omega (arith, h)))

abbrev pub is_printable : ℕ → Bool
is_printable b = nat_lt 13 b

digit_printed : (b : ℕ) → is_digit b ≡ true → is_printable b ≡ true
digit_printed b e = grind arith

pub digits_printed : (ds : List ℕ) → list_all is_digit ds ≡ true → list_all is_printable ds ≡ true
digits_printed [] h = refl
digits_printed (b ∷ bs) h = let z = both_true (is_digit b) (list_all is_digit bs) h in and_is _ _ (digit_printed b z.0) (digits_printed bs z.1)

no_space : (b : ℕ) → is_digit b ≡ true → is_space b ≡ false
no_space b e = grind arith

no_spaces : (ds : List ℕ) → list_all is_digit ds ≡ true → All (λ b. is_space b ≡ false) ds
no_spaces [] h = All-nil (λ b. is_space b ≡ false)
no_spaces (b ∷ bs) h = let z = both_true (is_digit b) (list_all is_digit bs) h in All-cons (λ b. is_space b ≡ false) b bs (no_space b z.0) (no_spaces bs z.1)

-- a number is a word
pub word_then : (ds rest : List ℕ) → list_all is_digit ds ≡ true → words_of (ds ++ 32 ∷ rest) ≡ ds ∷ words_of rest
word_then ds rest h = slice_split_at is_space ds 32 rest (no_spaces ds h) refl

pub word_last : (ds : List ℕ) → list_all is_digit ds ≡ true → words_of ds ≡ ds ∷ []
word_last ds h = slice_split_none is_space ds (no_spaces ds h)
