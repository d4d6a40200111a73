-- Bits in turn: what a register makes of them is what it makes of zeros once they were xored into it.
use Rattle.std.proofs.Common.{◌≡◌, ℕ, zero, suc, ◌*◌, ◌/◌, ◌%◌, ◌^◌, ◌<◌, ◌==◌, Bool, true, false, if◌then◌else◌, bit_xor, fold, replicate, refl, ap, sym, ◌∙◌, arith}
use Rattle.std.proofs.Math.Nat.{pow-suc}
use lib.Bits.{xor_mod, xor_shr, xor_zero_r, xor_assoc, xor_comm}
use Rattle.x25_check.specs.Check.{after_bit, bits_of}

abbrev pub poly : ℕ
poly = 0x8408

-- the step, on the outcome of its test
abbrev pub stepped : Bool → ℕ → ℕ
stepped f h = if f then bit_xor h poly else h

stepped_xor : (f : Bool) (h w : ℕ) → stepped f (bit_xor h w) ≡ bit_xor (stepped f h) w
stepped_xor true h w = xor_assoc h w poly ∙ (ap (λ z. bit_xor h z) (xor_comm w poly) ∙ sym (xor_assoc h poly w))
stepped_xor false h w = refl

pub half_xor : (u n : ℕ) → bit_xor u n / 2 ≡ bit_xor (u / 2) (n / 2)
half_xor u n = xor_shr u n 1

pub low_xor : (u n : ℕ) → bit_xor u n % 2 ≡ bit_xor (u % 2) (n % 2)
low_xor u n = xor_mod u n 1

-- feeding the lowest bit of n, and then xoring the rest of n into the register, is xoring n first
bit_first : (u n : ℕ) → after_bit (bit_xor u n) 0 ≡ bit_xor (after_bit u (n % 2)) (n / 2)
bit_first u n =
    let test : bit_xor (bit_xor u n) 0 % 2 ≡ bit_xor u (n % 2) % 2 = ap (λ z. z % 2) (xor_zero_r (bit_xor u n)) ∙ (low_xor u n ∙ (ap (λ z. bit_xor (u % 2) z) (omega arith) ∙ sym (low_xor u (n % 2)))) in
    ap (λ z. stepped (z == 1) (bit_xor u n / 2)) test ∙ (ap (λ z. stepped (bit_xor u (n % 2) % 2 == 1) z) (half_xor u n) ∙ stepped_xor (bit_xor u (n % 2) % 2 == 1) (u / 2) (n / 2))

-- k bits of n are k zero bits on the register xor n
pub bits_first : (k u n : ℕ) → n < 2 ^ k → fold after_bit u (bits_of k n) ≡ fold after_bit (bit_xor u n) (replicate k 0)
bits_first zero u n h = let z : n ≡ 0 = omega arith in sym (ap (λ (m : ℕ). bit_xor u m) z ∙ xor_zero_r u)
bits_first (suc k) u n h = bits_first k (after_bit u (n % 2)) (n / 2) (omega arith) ∙ ap (λ z. fold after_bit z (replicate k 0)) (sym (bit_first u n))

bit_first_zero : (u n : ℕ) → n % 2 ≡ 0 → after_bit (bit_xor u n) 0 ≡ bit_xor (after_bit u 0) (n / 2)
bit_first_zero u n e = bit_first u n ∙ ap (λ z. bit_xor (after_bit u z) (n / 2)) e

-- what is above the k lowest bits is shifted down unchanged
pub zeros_above : (k u w : ℕ) → fold after_bit (bit_xor u (w * 2 ^ k)) (replicate k 0) ≡ bit_xor (fold after_bit u (replicate k 0)) w
zeros_above zero u w = ap (λ (m : ℕ). bit_xor u m) (omega arith)
zeros_above (suc k) u w =
    let p = pow-suc 2 k in
    let whole : w * 2 ^ suc k ≡ (w * 2 ^ k) * 2 = ap (λ (m : ℕ). w * m) p ∙ omega arith in
    let low : w * 2 ^ suc k % 2 ≡ 0 = omega arith in
    let half : w * 2 ^ suc k / 2 ≡ w * 2 ^ k = omega arith in
    ap (λ z. fold after_bit z (replicate k 0)) (bit_first_zero u (w * 2 ^ suc k) low ∙ ap (λ (m : ℕ). bit_xor (after_bit u 0) m) half) ∙ zeros_above k (after_bit u 0) w
