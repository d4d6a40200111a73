-- What `{:08x}` writes of a word of 32 bits is its text.
use Rattle.std.proofs.Common.{◌≡◌, ℕ, zero, suc, ◌+◌, ◌-◌, ◌*◌, ◌/◌, ◌%◌, ◌^◌, ◌<◌, ◌≤◌, ◌==◌, Bool, true, false, ◌&&◌, List, [], ◌∷◌, ◌++◌, length, refl, sym, ap, ◌∙◌, arith, append-nil, inl, inr}
use Rattle.std.specs.Prelude.{slice_index}
use Rattle.std.specs.Fmt.{digits, digits_onto, digit_glyph, padded_integral, format_spec, char_count}
use Rattle.std.proofs.lemmas.Bool.{and_parts, cases_lt, eqb-true, ne_eqb}
use Rattle.std.proofs.Math.ListN.{replicate}
use Rattle.hex.specs.Hex.{encode_with, lower_digits}
use Rattle.field_layout.specs.CharText.{byte_hex}
use Rattle.fleet_report.specs.Texts.{word_text}

-- ---- the digits of `fmt` and of `hex`

abbrev agree_below : ℕ → Bool
agree_below zero = true
agree_below (suc n) = (slice_index lower_digits n == digit_glyph false n) && agree_below n

agree_at : (n d : ℕ) → agree_below n ≡ true → d < n → slice_index lower_digits d ≡ digit_glyph false d
agree_at zero d h lt = absurd (omega arith)
agree_at (suc n) d h lt =
    let parts = and_parts (slice_index lower_digits n == digit_glyph false n) (agree_below n) h in
    elim (cases_lt d n) [
      | inl below ↦ agree_at n d parts.1 below
      | inr top ↦
          let e : d ≡ n = omega arith in
          rw e (eqb-true _ _ parts.0)
    ]

digit_agrees : (d : ℕ) → d < 16 → digit_glyph false d ≡ slice_index lower_digits d
digit_agrees d small = sym (agree_at 16 d refl small)

-- ---- a fixed number of digits

-- the last k digits of a number, before more digits
abbrev last_digits : ℕ → ℕ → List ℕ → List ℕ
last_digits zero n more = more
last_digits (suc k) n more = last_digits k (n / 16) (digit_glyph false (n % 16) ∷ more)

zeros_move : (k : ℕ) (more : List ℕ) → replicate k 48 ++ 48 ∷ more ≡ 48 ∷ replicate k 48 ++ more
zeros_move zero more = refl
zeros_move (suc k) more = ap (λ ds. 48 ∷ ds) (zeros_move k more)

last_digits-zero : (k : ℕ) (more : List ℕ) → last_digits k 0 more ≡ replicate k 48 ++ more
last_digits-zero zero more = refl
last_digits-zero (suc k) more = last_digits-zero k (48 ∷ more) ∙ zeros_move k more

-- the two digits of the last byte
last_digits-byte : (k n : ℕ) (more : List ℕ)
    → last_digits (suc (suc k)) n more ≡ last_digits k (n / 256) (encode_with lower_digits (n % 256 ∷ []) ++ more)
unfolding encode_with
last_digits-byte k n more =
    let rest : n / 16 / 16 ≡ n / 256 = omega arith in
    let high : n / 16 % 16 ≡ n % 256 / 16 = omega arith in
    let low : n % 16 ≡ n % 256 % 16 = omega arith in
    rw (rest, high, low, digit_agrees (n % 256 / 16) (omega arith), digit_agrees (n % 256 % 16) (omega arith))

-- the digits of a number before more digits, with zeros up to a width
abbrev with_zeros : ℕ → List ℕ → List ℕ
with_zeros width ds = replicate (width - length ds) 48 ++ ds

-- 16 ^ (m + 1)
abbrev past : ℕ → ℕ
past zero = 16
past (suc m) = 16 * past m

onto-last : (k n : ℕ) (more : List ℕ) → n < 16 → digits_onto (suc k) 16 false n more ≡ digit_glyph false (n % 16) ∷ more
onto-last k n more small =
    let none : n / 16 ≡ 0 = omega arith in
    rw none

onto-step : (k n : ℕ) (more : List ℕ) → 16 ≤ n
    → digits_onto (suc k) 16 false n more ≡ digits_onto k 16 false (n / 16) (digit_glyph false (n % 16) ∷ more)
onto-step k n more large = rw (ne_eqb (n / 16) 0 (λ none. omega arith))

padded_is-last : (m k n : ℕ) (more : List ℕ) → n < 16
    → with_zeros (suc m + length more) (digits_onto (suc k) 16 false n more) ≡ last_digits (suc m) n more
padded_is-last m k n more small =
    let none : n / 16 ≡ 0 = omega arith in
    let width : suc m + length more - suc (length more) ≡ m = omega arith in
    rw (onto-last k n more small, width, none) (sym (last_digits-zero m (digit_glyph false (n % 16) ∷ more)))

padded_is : (m k n : ℕ) (more : List ℕ) → n < past m → m < k
    → with_zeros (suc m + length more) (digits_onto k 16 false n more) ≡ last_digits (suc m) n more
padded_is m zero n more small room = absurd (omega arith)
padded_is zero (suc k) n more small room = padded_is-last zero k n more small
padded_is (suc m) (suc k) n more small room = elim (cases_lt n 16) [
  | inl one ↦ padded_is-last (suc m) k n more one
  | inr large ↦
      let width : suc (suc m) + length more ≡ suc m + suc (length more) = omega arith in
      rw (onto-step k n more large, width) (padded_is m k (n / 16) (digit_glyph false (n % 16) ∷ more) (omega arith) (omega arith))
]

last_digits-word : (w : ℕ) → w < 2 ^ 32 → last_digits 8 w [] ≡ word_text w
unfolding encode_with
last_digits-word w small =
    let top : w / 256 / 256 / 256 % 256 ≡ w / 16777216 = omega arith in
    let second : w / 256 / 256 % 256 ≡ w / 65536 % 256 = omega arith in
    rw (last_digits-byte 6 w [], last_digits-byte 4 (w / 256) _, last_digits-byte 2 (w / 256 / 256) _, last_digits-byte 0 (w / 256 / 256 / 256) _, top, second)

digits_are : (n : ℕ) → digits_onto 64 16 false n [] ≡ digits 16 false n
unfolding digits
digits_are n = refl

padded_zeros : (ds : List ℕ) → padded_integral (format_spec 32 0 4 8 (2 ^ 64 - 1)) false [] ds ≡ with_zeros 8 ds
unfolding padded_integral char_count
padded_zeros ds = let width : 8 - length ds - 0 - 0 ≡ 8 - length ds = omega arith in rw (width, append-nil ds)

padded_word : (k w : ℕ) (ds : List ℕ) → digits_onto k 16 false w [] ≡ ds → w < 2 ^ 32 → 7 < k → with_zeros 8 ds ≡ word_text w
padded_word k w ds e small room = rw (← e) (padded_is 7 k w [] small room ∙ last_digits-word w small)

-- a word that is padded to eight digits
pub word_padded : (w : ℕ) → w < 2 ^ 32
    → padded_integral (format_spec 32 0 4 8 (2 ^ 64 - 1)) false [] (digits 16 false w) ≡ word_text w
word_padded w small = padded_zeros (digits 16 false w) ∙ padded_word 64 w (digits 16 false w) (digits_are w) small (omega arith)

-- ---- two digits

digits_of_byte : (b : ℕ) → b < 256 → last_digits 2 b [] ≡ byte_hex b
digits_of_byte b small =
    let high : b / 16 % 16 ≡ b / 16 = omega arith in
    rw high refl

padded_pair : (ds : List ℕ) → padded_integral (format_spec 32 0 4 2 (2 ^ 64 - 1)) false [] ds ≡ with_zeros 2 ds
unfolding padded_integral char_count
padded_pair ds = let width : 2 - length ds - 0 - 0 ≡ 2 - length ds = omega arith in rw (width, append-nil ds)

padded_byte : (k b : ℕ) (ds : List ℕ) → digits_onto k 16 false b [] ≡ ds → b < 256 → 1 < k → with_zeros 2 ds ≡ byte_hex b
padded_byte k b ds e small room = rw (← e) (padded_is 1 k b [] small room ∙ digits_of_byte b small)

-- a byte that is padded to two digits
pub byte_padded : (b : ℕ) → b < 256
    → padded_integral (format_spec 32 0 4 2 (2 ^ 64 - 1)) false [] (digits 16 false b) ≡ byte_hex b
byte_padded b small = padded_pair (digits 16 false b) ∙ padded_byte 64 b (digits 16 false b) (digits_are b) small (omega arith)
