-- Bytes that are put together from parts, and cut into them again.
use Rattle.std.proofs.Common.{◌≡◌, ℕ, zero, suc, ◌+◌, ◌<◌, List, [], ◌∷◌, ◌++◌, length, take, drop, slice_index, refl, sym, ap, ◌∙◌, append_assoc, arith}
use Rattle.std.proofs.Math.Seq.{take-add}

-- one part more of the bytes that are written
onto : (start xs more now next : List ℕ) → now ≡ start ++ xs → next ≡ now ++ more → next ≡ start ++ (xs ++ more)
onto start xs more now next so_far written = written ∙ ap (λ l. l ++ more) so_far ∙ append_assoc start xs more

-- ten parts, written one after another
pub ten_parts : (b0 b1 b2 b3 b4 b5 b6 b7 b8 b9 b10 p1 p2 p3 p4 p5 p6 p7 p8 p9 p10 : List ℕ)
    → b1 ≡ b0 ++ p1 → b2 ≡ b1 ++ p2 → b3 ≡ b2 ++ p3 → b4 ≡ b3 ++ p4 → b5 ≡ b4 ++ p5
    → b6 ≡ b5 ++ p6 → b7 ≡ b6 ++ p7 → b8 ≡ b7 ++ p8 → b9 ≡ b8 ++ p9 → b10 ≡ b9 ++ p10
    → b10 ≡ b0 ++ (p1 ++ p2 ++ p3 ++ p4 ++ p5 ++ p6 ++ p7 ++ p8 ++ p9 ++ p10)
ten_parts b0 b1 b2 b3 b4 b5 b6 b7 b8 b9 b10 p1 p2 p3 p4 p5 p6 p7 p8 p9 p10 e1 e2 e3 e4 e5 e6 e7 e8 e9 e10 =
    onto b0 _ p10 b9 b10 (onto b0 _ p9 b8 b9 (onto b0 _ p8 b7 b8 (onto b0 _ p7 b6 b7 (onto b0 _ p6 b5 b6
    (onto b0 _ p5 b4 b5 (onto b0 _ p4 b3 b4 (onto b0 _ p3 b2 b3 (onto b0 p1 p2 b1 b2 e1 e2) e3) e4) e5) e6) e7) e8) e9) e10

-- one part more of the bytes that are read
pub joined : (at size : ℕ) (bytes : List ℕ) {xs ys : List ℕ} → xs ≡ take at bytes → ys ≡ take size (drop at bytes) → xs ++ ys ≡ take (at + size) bytes
joined at size bytes {xs} {ys} before here = ap (λ l. l ++ ys) before ∙ ap (λ l. take at bytes ++ l) here ∙ sym (take-add at size bytes)

-- one byte, and two
pub one_byte : (at : ℕ) (bytes : List ℕ) → at < length bytes → slice_index bytes at ∷ [] ≡ take 1 (drop at bytes)
one_byte zero [] inside = absurd (omega arith)
one_byte (suc at) [] inside = absurd (omega arith)
one_byte zero (b ∷ bytes) inside = refl
one_byte (suc at) (b ∷ bytes) inside = one_byte at bytes (omega arith)

pub two_bytes : (at : ℕ) (bytes : List ℕ) → suc at < length bytes → slice_index bytes at ∷ slice_index bytes (suc at) ∷ [] ≡ take 2 (drop at bytes)
two_bytes zero [] inside = absurd (omega arith)
two_bytes (suc at) [] inside = absurd (omega arith)
two_bytes zero (a ∷ []) inside = absurd (omega arith)
two_bytes zero (a ∷ b ∷ bytes) inside = refl
two_bytes (suc at) (b ∷ bytes) inside = two_bytes at bytes (omega arith)

-- all of them
pub take_all : (n : ℕ) (bytes : List ℕ) → length bytes ≡ n → take n bytes ≡ bytes
take_all zero [] is = refl
take_all zero (b ∷ bytes) is = absurd (omega (arith, is))
take_all (suc n) [] is = refl
take_all (suc n) (b ∷ bytes) is = ap (λ l. b ∷ l) (take_all n bytes (omega (arith, is)))
