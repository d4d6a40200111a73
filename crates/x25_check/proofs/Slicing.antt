-- Bytes that are checked several at a time: what each of them makes of a register that was 0, put together.
use Rattle.std.proofs.Common.{◌≡◌, ℕ, zero, suc, ◌+◌, ◌*◌, ◌/◌, ◌%◌, ◌^◌, ◌<◌, ◌==◌, List, [], ◌∷◌, length, bit_xor, fold, replicate, refl, ap, sym, ◌∙◌, arith}
use lib.Bits.{xor_zero_r, xor_zero_l, xor_assoc, xor_comm, xor_shifted}
use Rattle.x25_check.specs.Check.{after_bit, after_byte, check_from}
use Rattle.x25_check.specs.Eights.{zero_byte, zeros}
use Rattle.x25_check.proofs.BitSteps.{stepped, half_xor, low_xor, bits_first, zeros_above}

-- ---- a register that is the sum of two

zero_bit : (u : ℕ) → after_bit u 0 ≡ stepped (u % 2 == 1) (u / 2)
zero_bit u = ap (λ z. stepped (z % 2 == 1) (u / 2)) (xor_zero_r u)

both : (a b : ℕ) (h w : ℕ) → a < 2 → b < 2 → stepped (bit_xor a b == 1) (bit_xor h w) ≡ bit_xor (stepped (a == 1) h) (stepped (b == 1) w)
both zero zero h w p q = refl
both zero (suc zero) h w p q = xor_assoc h w 0x8408
both zero (suc (suc b)) h w p q = absurd (omega arith)
both (suc zero) zero h w p q = xor_assoc h w 0x8408 ∙ (ap (λ z. bit_xor h z) (xor_comm w 0x8408) ∙ sym (xor_assoc h 0x8408 w))
both (suc zero) (suc zero) h w p q =
    sym (xor_assoc h 0x8408 (bit_xor w 0x8408)
    ∙ (ap (λ z. bit_xor h z) (ap (λ z. bit_xor 0x8408 z) (xor_comm w 0x8408) ∙ (sym (xor_assoc 0x8408 0x8408 w) ∙ xor_zero_l w))))
both (suc zero) (suc (suc b)) h w p q = absurd (omega arith)
both (suc (suc a)) b h w p q = absurd (omega arith)

bit_sum : (u v : ℕ) → after_bit (bit_xor u v) 0 ≡ bit_xor (after_bit u 0) (after_bit v 0)
bit_sum u v =
    zero_bit (bit_xor u v)
    ∙ ((λ i. stepped (low_xor u v i == 1) (half_xor u v i))
    ∙ (both (u % 2) (v % 2) (u / 2) (v / 2) (omega arith) (omega arith)
    ∙ (λ i. bit_xor (sym (zero_bit u) i) (sym (zero_bit v) i))))

bits_sum : (k u v : ℕ) → fold after_bit (bit_xor u v) (replicate k 0) ≡ bit_xor (fold after_bit u (replicate k 0)) (fold after_bit v (replicate k 0))
bits_sum zero u v = refl
bits_sum (suc k) u v = ap (λ z. fold after_bit z (replicate k 0)) (bit_sum u v) ∙ bits_sum k (after_bit u 0) (after_bit v 0)

byte_sum : (u v : ℕ) → zero_byte (bit_xor u v) ≡ bit_xor (zero_byte u) (zero_byte v)
unfolding zero_byte
byte_sum u v = bits_sum 8 u v

pub zeros_sum : (k u v : ℕ) → zeros k (bit_xor u v) ≡ bit_xor (zeros k u) (zeros k v)
zeros_sum zero u v = refl
zeros_sum (suc k) u v = ap (zeros k) (byte_sum u v) ∙ zeros_sum k (zero_byte u) (zero_byte v)

-- ---- bytes in turn

by_zeros : (r n : ℕ) → n < 256 → after_byte r n ≡ zero_byte (bit_xor r n)
unfolding after_byte zero_byte
by_zeros r n h = bits_first 8 r n h

-- the high byte of a register is shifted down
comes_down : (w : ℕ) → zero_byte (w * 2 ^ 8) ≡ w
unfolding zero_byte
comes_down w = ap (λ z. fold after_bit z (replicate 8 0)) (sym (xor_zero_l (w * 2 ^ 8))) ∙ (zeros_above 8 0 w ∙ xor_zero_l w)

-- what bytes make of a register that was 0
abbrev pub spread : List ℕ → ℕ
spread [] = 0
spread (byte ∷ bytes) = bit_xor (zeros (suc (length bytes)) byte) (spread bytes)

abbrev pub AreBytes : List ℕ → Type 0
AreBytes [] = Unit {0}
AreBytes (byte ∷ bytes) = (byte < 256) × AreBytes bytes

pub spreads_out : (r : ℕ) (bytes : List ℕ) → AreBytes bytes → check_from r bytes ≡ bit_xor (zeros (length bytes) r) (spread bytes)
spreads_out r [] all = sym (xor_zero_r r)
spreads_out r (byte ∷ bytes) all =
    let n = length bytes in
    spreads_out (after_byte r byte) bytes all.1
    ∙ (ap (λ z. bit_xor (zeros n z) (spread bytes)) (by_zeros r byte all.0)
    ∙ (ap (λ z. bit_xor z (spread bytes)) (zeros_sum (suc n) r byte)
    ∙ xor_assoc (zeros (suc n) r) (zeros (suc n) byte) (spread bytes)))

-- ---- a register's two bytes

-- a register is its high byte, shifted up, with its low one
halves : (r : ℕ) → r ≡ bit_xor (r / 256 * 2 ^ 8) (r % 256)
halves r =
    let whole : r ≡ r / 256 * 256 + r % 256 = omega arith in
    whole ∙ sym (xor_shifted (r / 256) 8 (r % 256) (omega arith))

parted : (k r : ℕ) → zeros (suc k) r ≡ bit_xor (zeros k (r / 256)) (zeros (suc k) (r % 256))
parted k r =
    ap (zeros (suc k)) (halves r)
    ∙ (zeros_sum (suc k) (r / 256 * 2 ^ 8) (r % 256)
    ∙ ap (λ z. bit_xor (zeros k z) (zeros (suc k) (r % 256))) (comes_down (r / 256)))

pub one_byte : (r n : ℕ) → n < 256 → bit_xor (r / 2 ^ 8) (zeros 1 (bit_xor n (r % 256))) ≡ after_byte r n
one_byte r n h =
    let high : ℕ = r / 256 in let low : ℕ = zeros 1 (r % 256) in let byte : ℕ = zeros 1 n in
    ap (bit_xor high) (zeros_sum 1 n (r % 256) ∙ xor_comm byte low)
    ∙ (sym (xor_assoc high low byte)
    ∙ (ap (λ z. bit_xor z byte) (sym (parted 0 r))
    ∙ (sym (zeros_sum 1 r n) ∙ sym (by_zeros r n h))))

-- ---- four bytes, and eight

four_terms : (a l b h : ℕ) → bit_xor (bit_xor a l) (bit_xor b h) ≡ bit_xor (bit_xor h l) (bit_xor a b)
four_terms a l b h =
    xor_assoc a l (bit_xor b h)
    ∙ (ap (λ z. bit_xor a z) (sym (xor_assoc l b h) ∙ (xor_comm (bit_xor l b) h ∙ sym (xor_assoc h l b)))
    ∙ (xor_comm a (bit_xor (bit_xor h l) b)
    ∙ (xor_assoc (bit_xor h l) b a ∙ ap (λ z. bit_xor (bit_xor h l) z) (xor_comm b a))))

-- the register's two bytes, in the first two of several
first_two : (k r a b rest : ℕ) → bit_xor (bit_xor (zeros (suc k) (bit_xor a (r % 256))) (zeros k (bit_xor b (r / 256)))) rest ≡ bit_xor (zeros (suc k) r) (bit_xor (zeros (suc k) a) (bit_xor (zeros k b) rest))
first_two k r a b rest =
    let low : ℕ = zeros (suc k) (r % 256) in let high : ℕ = zeros k (r / 256) in
    let first : ℕ = zeros (suc k) a in let second : ℕ = zeros k b in
    (λ i. bit_xor (bit_xor (zeros_sum (suc k) a (r % 256) i) (zeros_sum k b (r / 256) i)) rest)
    ∙ (ap (λ z. bit_xor z rest) (four_terms first low second high)
    ∙ (xor_assoc (bit_xor high low) (bit_xor first second) rest
    ∙ (λ i. bit_xor (sym (parted k r) i) (xor_assoc first second rest i))))

pub four_bytes : (r a b c d : ℕ) → AreBytes (a ∷ b ∷ c ∷ d ∷ []) → bit_xor (bit_xor (zeros 4 (bit_xor a (r % 256))) (zeros 3 (bit_xor b (r / 256)))) (bit_xor (zeros 2 c) (zeros 1 d)) ≡ check_from r (a ∷ b ∷ c ∷ d ∷ [])
four_bytes r a b c d all =
    let last : zeros 1 d ≡ bit_xor (zeros 1 d) 0 = sym (xor_zero_r (zeros 1 d)) in
    ap (λ z. bit_xor (bit_xor (zeros 4 (bit_xor a (r % 256))) (zeros 3 (bit_xor b (r / 256)))) (bit_xor (zeros 2 c) z)) last
    ∙ (first_two 3 r a b (bit_xor (zeros 2 c) (bit_xor (zeros 1 d) 0))
    ∙ sym (spreads_out r (a ∷ b ∷ c ∷ d ∷ []) all))

pub eight_bytes : (r a b c d e f g h : ℕ) → AreBytes (a ∷ b ∷ c ∷ d ∷ e ∷ f ∷ g ∷ h ∷ []) → bit_xor (bit_xor (zeros 8 (bit_xor a (r % 256))) (zeros 7 (bit_xor b (r / 256)))) (bit_xor (zeros 6 c) (bit_xor (zeros 5 d) (bit_xor (zeros 4 e) (bit_xor (zeros 3 f) (bit_xor (zeros 2 g) (zeros 1 h)))))) ≡ check_from r (a ∷ b ∷ c ∷ d ∷ e ∷ f ∷ g ∷ h ∷ [])
eight_bytes r a b c d e f g h all =
    let last : zeros 1 h ≡ bit_xor (zeros 1 h) 0 = sym (xor_zero_r (zeros 1 h)) in
    let rest = λ (z : ℕ). bit_xor (zeros 6 c) (bit_xor (zeros 5 d) (bit_xor (zeros 4 e) (bit_xor (zeros 3 f) (bit_xor (zeros 2 g) z)))) in
    ap (λ z. bit_xor (bit_xor (zeros 8 (bit_xor a (r % 256))) (zeros 7 (bit_xor b (r / 256)))) (rest z)) last
    ∙ (first_two 7 r a b (rest (bit_xor (zeros 1 h) 0))
    ∙ sym (spreads_out r (a ∷ b ∷ c ∷ d ∷ e ∷ f ∷ g ∷ h ∷ []) all))
