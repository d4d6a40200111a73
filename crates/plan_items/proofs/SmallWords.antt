-- Words and numbers are inverse to each other.
use Rattle.std.proofs.Common.{◌≡◌, ℕ, zero, suc, ◌+◌, ◌-◌, ◌*◌, ◌/◌, ◌%◌, ◌^◌, ◌<◌, ◌≤◌, ◌==◌, ◌&&◌, ◌||◌, not, Bool, true, false, if◌then◌else◌, nat_le, nat_lt, refl, sym, ◌∙◌, ap, subst, arith}
use Rattle.std.specs.Prelude.{Option, Some, None, unwrap_or}
use Rattle.std.proofs.lemmas.Bool.Decides.{nat_tests}
use Rattle.plan_items.specs.Words.{small_word_of, number_up_to, word_number}
use Rattle.plan_items.proofs.Tables.{all_below, below, both, eq_of}

-- the whole part of the single with this word
abbrev pub whole_part : ℕ → ℕ
whole_part word = if word == 0 then 0 else (word % 8388608 + 8388608) / 2 ^ (23 - (word / 8388608 - 127))

-- the word of k gives k back, by its whole part and by the table
unfoldable agrees : ℕ → Bool
agrees k = (whole_part (small_word_of k) == k) && (unwrap_or (word_number (small_word_of k)) 71 == k)

all_agree : all_below agrees 71 ≡ true
unfolding agrees small_word_of word_number
all_agree = refl

-- the whole part of the word of k is k
pub whole_part-small_word_of : (k : ℕ) → k ≤ 70 → whole_part (small_word_of k) ≡ k
unfolding agrees
whole_part-small_word_of k h = eq_of _ _ (both _ _ (below agrees 71 k all_agree (omega arith))).0

some_of : (o : Option ℕ) (k : ℕ) → k ≤ 70 → unwrap_or o 71 ≡ k → o ≡ Some k
some_of None k h e = absurd (omega arith)
some_of (Some x) k h e = ap Some e

-- the number of the word of k is k
pub word_number-small_word_of : (k : ℕ) → k ≤ 70 → word_number (small_word_of k) ≡ Some k
unfolding agrees
word_number-small_word_of k h = some_of _ k h (eq_of _ _ (both _ _ (below agrees 71 k all_agree (omega arith))).1)

up_to : (most word k : ℕ) → number_up_to most word ≡ Some k → (k ≤ most) × (small_word_of k ≡ word)
up_to zero word k e = elim (small_word_of 0 == word) as (λ b. (small_word_of 0 == word) ≡ b → (if b then Some 0 else None) ≡ Some k → (k ≤ 0) × (small_word_of k ≡ word)) [
  | true ↦ λ test is. let zero_is : 0 ≡ k = cc in (omega arith, subst (λ (z : ℕ). small_word_of z ≡ word) zero_is (eq_of _ _ test))
  | false ↦ λ test is. absurd (cc)
] refl e
up_to (suc most) word k e = elim (small_word_of (suc most) == word) as (λ b. (small_word_of (suc most) == word) ≡ b → (if b then Some (suc most) else number_up_to most word) ≡ Some k → (k ≤ suc most) × (small_word_of k ≡ word)) [
  | true ↦ λ test is. let same : suc most ≡ k = cc in (omega arith, subst (λ (z : ℕ). small_word_of z ≡ word) same (eq_of _ _ test))
  | false ↦ λ test is. let rest = up_to most word k is in (omega (arith, rest.0), rest.1)
] refl e

-- a word that has a number is that number's word, and the number is at most 70
pub small_word_of-word_number : (word k : ℕ) → word_number word ≡ Some k → (k ≤ 70) × (small_word_of k ≡ word)
unfolding word_number
small_word_of-word_number word k e = up_to 70 word k e

none_of : (o : Option ℕ) → ((k : ℕ) → o ≡ Some k → ⊥) → None ≡ o
none_of None h = refl
none_of (Some k) h = absurd (h k refl)

-- a word that is none of the table's has no number
pub word_number-none : (word : ℕ) → ((k : ℕ) → k ≤ 70 → small_word_of k ≡ word → ⊥) → None ≡ word_number word
word_number-none word no_word = none_of (word_number word) (λ k is. let known = small_word_of-word_number word k is in no_word k known.0 known.1)

-- the word of k by shifts of 32 bits, where e is the exponent of the power of two below it
abbrev pub shifted : ℕ → ℕ → ℕ
shifted k e = (127 + e) * 8388608 % 4294967296 + (k - 1 * 2 ^ e % 4294967296) * 2 ^ (23 - e) % 4294967296

unfoldable is_shifted : ℕ → ℕ → Bool
is_shifted k e =
    not (nat_le (2 ^ e) k && nat_lt k (2 * 2 ^ e)) || ((shifted k e == small_word_of k) && nat_lt (shifted k e) 4294967296)

unfoldable all_shifted : ℕ → Bool
all_shifted k = (k == 0) || all_below (is_shifted k) 8

shifts_agree : all_below all_shifted 71 ≡ true
unfolding all_shifted is_shifted small_word_of
shifts_agree = refl

at_exponent : (low high same fits : Bool) → (not (low && high) || (same && fits)) ≡ true → low ≡ true → high ≡ true → (same ≡ true) × (fits ≡ true)
at_exponent true true same fits h l g = both same fits h
at_exponent true false same fits h l g = absurd (cc)
at_exponent false high same fits h l g = absurd (cc)

above_zero : (k : ℕ) (rest : Bool) → ((k == 0) || rest) ≡ true → 0 < k → rest ≡ true
above_zero k rest h positive = grind (arith, nat_tests)

le_test : (a b : ℕ) → a ≤ b → nat_le a b ≡ true
le_test a b h = grind (arith, nat_tests)

lt_test : (a b : ℕ) → a < b → nat_lt a b ≡ true
lt_test a b h = grind (arith, nat_tests)

lt_of : (a b : ℕ) → nat_lt a b ≡ true → a < b
lt_of a b h = grind (arith, nat_tests)

-- the shifts give the word of k, in 32 bits
pub shifted-small_word_of : (k e : ℕ) → 0 < k → k ≤ 70 → e < 8 → 2 ^ e ≤ k → k < 2 * 2 ^ e → (shifted k e ≡ small_word_of k) × (shifted k e < 4294967296)
unfolding all_shifted is_shifted
shifted-small_word_of k e positive small in_range low high =
    let at_k : all_below (is_shifted k) 8 ≡ true = above_zero k _ (below all_shifted 71 k shifts_agree (omega arith)) positive in
    let at_e : is_shifted k e ≡ true = below (is_shifted k) 8 e at_k in_range in
    let parts = at_exponent _ _ _ _ at_e (le_test _ _ low) (lt_test _ _ high) in
    (eq_of _ _ parts.0, lt_of _ _ parts.1)

nonzero_test : (word : ℕ) → (word ≡ 0 → ⊥) → (word == 0) ≡ false
nonzero_test word h = grind (arith, nat_tests)

-- a word that is the word of k, taken apart by its exponent and its shift, gives k
pub parts-small_word_of : (word k exponent shift : ℕ) → (word ≡ 0 → ⊥) → k ≤ 70 → word ≡ small_word_of k → exponent ≡ word / 8388608 - 127 → shift ≡ 23 - exponent → (word % 8388608 + 8388608) / 2 ^ shift ≡ k
parts-small_word_of word k exponent shift nonzero small is exponent_is shift_is =
    let shift_at : shift ≡ 23 - (word / 8388608 - 127) = shift_is ∙ ap (λ (z : ℕ). 23 - z) exponent_is in
    ap (λ (z : ℕ). (word % 8388608 + 8388608) / 2 ^ z) shift_at
    ∙ (sym (ap (λ b. if b then 0 else (word % 8388608 + 8388608) / 2 ^ (23 - (word / 8388608 - 127))) (nonzero_test word nonzero))
    ∙ (ap whole_part is ∙ whole_part-small_word_of k small))
