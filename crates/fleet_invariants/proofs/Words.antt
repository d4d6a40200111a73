-- The numbers of words are in the ranges of their types.
use Rattle.std.proofs.Common.{◌≡◌, ℕ, ℤ, pos, ◌+◌, ◌-◌, ◌*◌, ◌%◌, ◌^◌, ◌<◌, ◌≤◌, Bool, true, false, if◌then◌else◌, ◌==◌, ◌&&◌, nat_lt, List, [], ◌∷◌, length, Option, Some, None, IfSome, Ok, Err, is_some, unwrap_or, refl, arith}
use Rattle.std.specs.Prelude.{All, FitsSigned, IfOk, nat_le}
use Rattle.std.specs.Int.{w32}
use Rattle.std.specs.declared.result.Result.{Result}
use Rattle.std.specs.Result.{result_ok}
use Rattle.std.proofs.lemmas.Int.{ints}
use Rattle.std.proofs.lemmas.List.Elements.{All-nil, All-cons, All-head, All-tail}
use Rattle.hex.specs.Hex.{hex_digit_value, digit_or_error, ◌>>=◌, pair_value, decode_pairs, decode_of}
use Rattle.hex.specs.declared.error.FromHexError.{FromHexError}
use Rattle.hex.specs.declared.error.FromHexError.TheVariants.{OddLength}
use Rattle.plan_ranges.specs.Ranges.{Is8, Is32, ItemInRange}
use Rattle.scenario_lines.specs.Words.{word_at, is_numeral, digits_value, number_in, negative_of, positive_of, integer_of, four_bytes, decoded, wire_word, bytes_word}
use Rattle.scenario_lines.specs.Grammar.{most_whole, wire_at, whole_at, signed_at, item_at, bytes_at}
use Rattle.fleet_invariants.proofs.Tests.{by_test, both_true, at_most}

-- ---- hexadecimal digits

letters : (c low high least : ℕ) → (nat_le low c && nat_le c high) ≡ true → high ≤ least + 15 → c - least < 16
letters c low high least e h = let both = both_true _ _ e in let a = at_most low c both.0 in let b = at_most c high both.1 in omega arith

digit_small : (c : ℕ) → IfSome (hex_digit_value c) (λ v. v < 16)
digit_small c =
    by_test (λ (o : Option ℕ). IfSome o (λ v. v < 16)) (nat_le 65 c && nat_le c 70) _ _ (λ e. letters c 65 70 55 e (omega arith)) (λ _.
    by_test (λ (o : Option ℕ). IfSome o (λ v. v < 16)) (nat_le 97 c && nat_le c 102) _ _ (λ e. letters c 97 102 87 e (omega arith)) (λ _.
    by_test (λ (o : Option ℕ). IfSome o (λ v. v < 16)) (nat_le 48 c && nat_le c 57) _ _ (λ e. letters c 48 57 48 e (omega arith)) (λ _. tt)))

two_digits : (c d i j : ℕ) (a b : Option ℕ) → IfSome a (λ v. v < 16) → IfSome b (λ v. v < 16) → IfOk (digit_or_error c i a >>= (λ h. digit_or_error d j b >>= (λ l. Ok (h * 16 + l)))) Is8
two_digits c d i j None b h k = tt
two_digits c d i j (Some v) None h k = tt
two_digits c d i j (Some v) (Some w) h k = omega (arith, h, k)

pair_small : (high low i : ℕ) → IfOk (pair_value high low i) Is8
pair_small high low i = two_digits high low i (i + 1) (hex_digit_value high) (hex_digit_value low) (digit_small high) (digit_small low)

one_more : (r : Result ℕ FromHexError) (rest : Result (List ℕ) FromHexError) → IfOk r Is8 → IfOk rest (All Is8) → IfOk (r >>= (λ byte. rest >>= (λ bytes. Ok (byte ∷ bytes)))) (All Is8)
one_more (Err e) rest h k = tt
one_more (Ok byte) (Err e) h k = tt
one_more (Ok byte) (Ok bytes) h k = All-cons Is8 byte bytes h k

pairs_small : (i : ℕ) (text : List ℕ) → IfOk (decode_pairs i text) (All Is8)
unfolding decode_pairs
pairs_small i [] = All-nil Is8
pairs_small i (digit ∷ []) = tt
pairs_small i (high ∷ low ∷ rest) = one_more (pair_value high low i) (decode_pairs (i + 2) rest) (pair_small high low i) (pairs_small (i + 2) rest)

decoded_small : (text : List ℕ) → IfOk (decode_of text) (All Is8)
decoded_small text =
    by_test (λ (r : Result (List ℕ) FromHexError). IfOk r (All Is8)) (length text % 2 == 1) (Err OddLength) (decode_pairs 0 text) (λ _. tt) (λ _. pairs_small 0 text)

-- ---- four bytes, and some

four_small : (bytes : List ℕ) → All Is8 bytes → IfSome (four_bytes bytes) Is32
four_small [] h = tt
four_small (a ∷ []) h = tt
four_small (a ∷ b ∷ []) h = tt
four_small (a ∷ b ∷ c ∷ []) h = tt
four_small (a ∷ b ∷ c ∷ d ∷ []) h =
    let h1 = All-tail Is8 a (b ∷ c ∷ d ∷ []) h in
    let h2 = All-tail Is8 b (c ∷ d ∷ []) h1 in
    let h3 = All-tail Is8 c (d ∷ []) h2 in
    let a1 : a < 256 = All-head Is8 a (b ∷ c ∷ d ∷ []) h in
    let b1 : b < 256 = All-head Is8 b (c ∷ d ∷ []) h1 in
    let c1 : c < 256 = All-head Is8 c (d ∷ []) h2 in
    let d1 : d < 256 = All-head Is8 d [] h3 in
    omega arith
four_small (a ∷ b ∷ c ∷ d ∷ e ∷ more) h = tt

decoded_word : (r : Result (List ℕ) FromHexError) → IfOk r (All Is8) → IfSome (decoded r) Is32
decoded_word (Ok bytes) h = four_small bytes h
decoded_word (Err e) h = tt

or_none : {A : Type 0} (P : A → Type 0) (o : Option A) (d : A) → IfSome o P → P d → P (unwrap_or o d)
or_none P None d h k = k
or_none P (Some x) d h k = h

pub wire_small : (words : List (List ℕ)) (k : ℕ) → Is32 (wire_at words k)
wire_small words k =
    or_none Is32 (wire_word (word_at words k)) 0 (decoded_word (decode_of (word_at words k)) (decoded_small (word_at words k))) (omega arith)

bytes_of : (r : Result (List ℕ) FromHexError) → IfOk r (All Is8) → IfSome (result_ok r) (All Is8)
bytes_of (Ok bytes) h = h
bytes_of (Err e) h = tt

pub bytes_small : (words : List (List ℕ)) (k : ℕ) → All Is8 (bytes_at words k)
bytes_small words k =
    let word = word_at words k in
    or_none (All Is8) (bytes_word word) []
    (by_test (λ (o : Option (List ℕ)). IfSome o (All Is8)) (nat_lt 0 (length word)) (result_ok (decode_of word)) None (λ _. bytes_of (decode_of word) (decoded_small word)) (λ _. tt))
    (All-nil Is8)

-- ---- decimal numbers

abbrev Within : ℕ → ℕ → ℕ → Type 0
Within low high n = (low ≤ n) × (n ≤ high)

number_within : (low high : ℕ) (word : List ℕ) → IfSome (number_in low high word) (Within low high)
number_within low high word =
    by_test (λ (o : Option ℕ). IfSome o (Within low high)) (is_numeral word && (nat_le low (digits_value word) && nat_le (digits_value word) high)) _ None
    (λ e. let range = both_true _ _ (both_true _ _ e).1 in (at_most _ _ range.0, at_most _ _ range.1)) (λ _. tt)

-- a whole number that a narrower range has
same_number : (t u : Bool) (v high : ℕ) → (t ≡ true → v ≤ high) → is_some (if t then Some v else None) ≡ true → unwrap_or (if u then Some v else None) 0 ≤ high
same_number true true v high h e = h refl
same_number true false v high h e = omega arith
same_number false u v high h e = absurd (let wrong : false ≡ true = e in cc)

pub whole_within : (low high : ℕ) (words : List (List ℕ)) (k : ℕ) → is_some (number_in low high (word_at words k)) ≡ true → whole_at words k ≤ high
whole_within low high words k e =
    let word = word_at words k in
    same_number (is_numeral word && (nat_le low (digits_value word) && nat_le (digits_value word) high)) (is_numeral word && (nat_le 0 (digits_value word) && nat_le (digits_value word) most_whole)) (digits_value word) high
    (λ t. at_most _ _ (both_true _ _ (both_true _ _ t).1).1) e

negative : (o : Option ℕ) → IfSome o (Within 1 (2 ^ 31)) → IfSome (negative_of o) (FitsSigned w32)
negative None h = tt
negative (Some n) h = let a = h.0 in let b = h.1 in omega (arith, ints)

positive : (o : Option ℕ) → IfSome o (Within 0 (2 ^ 31 - 1)) → IfSome (positive_of o) (FitsSigned w32)
positive None h = tt
positive (Some n) h = let b = h.1 in omega (arith, ints)

integer_small : (word : List ℕ) → IfSome (integer_of word) (FitsSigned w32)
integer_small [] = tt
integer_small (b ∷ bs) =
    by_test (λ (o : Option ℤ). IfSome o (FitsSigned w32)) (b == 45) (negative_of (number_in 1 (2 ^ 31) bs)) (positive_of (number_in 0 (2 ^ 31 - 1) (b ∷ bs)))
    (λ _. negative (number_in 1 (2 ^ 31) bs) (number_within 1 (2 ^ 31) bs))
    (λ _. positive (number_in 0 (2 ^ 31 - 1) (b ∷ bs)) (number_within 0 (2 ^ 31 - 1) (b ∷ bs)))

zero_fits : FitsSigned w32 (pos 0)
zero_fits = omega (arith, ints)

pub signed_small : (words : List (List ℕ)) (k : ℕ) → FitsSigned w32 (signed_at words k)
signed_small words k = or_none (FitsSigned w32) (integer_of (word_at words k)) (pos 0) (integer_small (word_at words k)) zero_fits

-- ---- an item

pub item_in_range : (words : List (List ℕ)) (k : ℕ) → whole_at words k ≤ 255 → whole_at words (k + 1) ≤ 65535 → ItemInRange (item_at words k)
item_in_range words k frame command =
    let w = wire_at words in
    record {
      frame = omega (arith, frame);
      command = omega (arith, command);
      current = omega arith;
      autocontinue = omega arith;
      four = refl;
      words = All-cons Is32 (w (k + 5)) (w (k + 6) ∷ w (k + 7) ∷ w (k + 8) ∷ []) (wire_small words (k + 5)) (All-cons Is32 (w (k + 6)) (w (k + 7) ∷ w (k + 8) ∷ []) (wire_small words (k + 6)) (All-cons Is32 (w (k + 7)) (w (k + 8) ∷ []) (wire_small words (k + 7)) (All-cons Is32 (w (k + 8)) [] (wire_small words (k + 8)) (All-nil Is32))));
      x = signed_small words (k + 2);
      y = signed_small words (k + 3);
      z = wire_small words (k + 4);
    }
