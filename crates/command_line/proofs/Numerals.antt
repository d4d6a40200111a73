-- A word is a number exactly if it is how its value is written.
use Rattle.std.proofs.Common.{◌≡◌, ◌∙◌, ◌≤◌, ◌<◌, ◌^◌, ◌&&◌, nat_le, ℕ, true, List, refl, sym, ap, subst, arith, Option, Some, None, is_some, inl, inr}
use Rattle.std.proofs.lemmas.Bool.{cases_Bool, cond-true, cond-false, and_parts, and_from, leb-true, le-leb}
use Rattle.std.proofs.lemmas.Slice.Eq.{bytes_eq-Decides}
use Rattle.std.proofs.lemmas.Fmt.{decimal_is_IsNumeral}
use Rattle.std.specs.Fmt.{decimal}
use Rattle.std.specs.Str.{bytes_eq}
use Rattle.std.specs.Str.Parse.{digits_value}
use Rattle.command_line.specs.Numbers.{IsNumber, number_within, number_in}

-- a value in its range
within_is : (low high n m : ℕ) → number_within low high n ≡ Some m → (m ≡ n) × (low ≤ n) × (n ≤ high)
within_is low high n m e = elim (cases_Bool (nat_le low n && nat_le n high)) [
  | inl holds ↦
      let (least, most) = and_parts (nat_le low n) (nat_le n high) holds in
      let same : Some n ≡ Some m = sym (cond-true (nat_le low n && nat_le n high) (Some n) None holds) ∙ e in
      ((let is : m ≡ n = cc same in is), leb-true low n least, leb-true n high most)
  | inr fails ↦ absurd (let never : None ≡ Some m = sym (cond-false (nat_le low n && nat_le n high) (Some n) None fails) ∙ e in cc never)
]

is_within : (low high n : ℕ) → low ≤ n → n ≤ high → number_within low high n ≡ Some n
is_within low high n least most = cond-true (nat_le low n && nat_le n high) (Some n) None (and_from (nat_le low n) (nat_le n high) (le-leb low n least) (le-leb n high most))

-- a word as its value is written
pub number_written : (low high n : ℕ) (word : List ℕ) → n < 2 ^ 64 → word ≡ decimal n → number_in low high word ≡ number_within low high n
number_written low high n word small is =
    let value : digits_value 10 word ≡ n = ap (digits_value 10) is ∙ (decimal_is_IsNumeral n small).1 in
    cond-true (bytes_eq (decimal (digits_value 10 word)) word) (number_within low high (digits_value 10 word)) None ((bytes_eq-Decides (decimal (digits_value 10 word)) word).1 (ap decimal value ∙ sym is))
    ∙ ap (number_within low high) value

pub number_is : (low high n : ℕ) (word : List ℕ) → number_in low high word ≡ Some n → (word ≡ decimal n) × (low ≤ n) × (n ≤ high)
number_is low high n word e = elim (cases_Bool (bytes_eq (decimal (digits_value 10 word)) word)) [
  | inl same ↦
      let (is, least, most) = within_is low high (digits_value 10 word) n (sym (cond-true (bytes_eq (decimal (digits_value 10 word)) word) (number_within low high (digits_value 10 word)) None same) ∙ e) in
      (sym ((bytes_eq-Decides (decimal (digits_value 10 word)) word).0 same) ∙ ap decimal (sym is), subst (λ k. low ≤ k) (sym is) least, subst (λ k. k ≤ high) (sym is) most)
  | inr other ↦ absurd (let never : None ≡ Some n = sym (cond-false (bytes_eq (decimal (digits_value 10 word)) word) (number_within low high (digits_value 10 word)) None other) ∙ e in cc never)
]

-- a word that no number is written as
none_found : (found : Option ℕ) → ((n : ℕ) → found ≡ Some n → ⊥) → None ≡ found
none_found None never = refl
none_found (Some n) never = absurd (never n refl)

pub number_unwritten : (low high : ℕ) (word : List ℕ) → high < 2 ^ 64 → ((n : ℕ) → n < 2 ^ 64 → word ≡ decimal n → ⊥) → None ≡ number_in low high word
number_unwritten low high word few never =
    none_found (number_in low high word) (λ n e. let (is, least, most) = number_is low high n word e in never n (omega (arith, most, few)) is)

-- the test and the form
pub some_found : {X : Type 0} (found : Option X) → is_some found ≡ true → (x : X) × (found ≡ Some x)
some_found None e = absurd (cc e)
some_found (Some n) e = (n, refl)

pub number_form : (low high : ℕ) (word : List ℕ) → is_some (number_in low high word) ≡ true → IsNumber low high word
number_form low high word e =
    let (n, found) = some_found (number_in low high word) e in
    let (is, least, most) = number_is low high n word found in
    (n, is, least, most)

pub number_found : (low high : ℕ) (word : List ℕ) → high < 2 ^ 64 → IsNumber low high word → (n : ℕ) × (number_in low high word ≡ Some n)
number_found low high word few (n, is, least, most) = (n, number_written low high n word (omega (arith, most, few)) is ∙ is_within low high n least most)

pub form_number : (low high : ℕ) (word : List ℕ) → high < 2 ^ 64 → IsNumber low high word → is_some (number_in low high word) ≡ true
form_number low high word few is = let (n, found) = number_found low high word few is in ap is_some found
