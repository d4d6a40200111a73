-- The first line of some bytes, and how long what tells of lost lines is.
use Rattle.std.proofs.Common.{◌≡◌, ◌∙◌, ◌<◌, ◌≤◌, ℕ, zero, suc, ◌^◌, ◌==◌, nat_lt, Bool, true, false, if◌then◌else◌}
use Rattle.std.proofs.Common.{List, [], ◌∷◌, length, take, codes, slice_index, refl, sym, ap, arith, length-append}
use Rattle.std.specs.Fmt.{decimal}
use Rattle.std.proofs.lemmas.Bool.Decides.{nat_tests}
use Rattle.std.proofs.lemmas.Fmt.{length-decimal-le}
use Rattle.relay_lines.specs.Lines.{first_line, lost_before, lost_line}

-- a condition's two cases
pub by_cases : {A : Type 0} (P : A → Type 0) (b : Bool) (x y : A) → (b ≡ true → P x) → (b ≡ false → P y)
    → P (if b then x else y)
by_cases P true x y f g = f refl
by_cases P false x y f g = g refl

pub is_below : (m n : ℕ) → nat_lt m n ≡ true → m < n
is_below m n e = grind (arith, nat_tests, e)

pub is_zero : (n : ℕ) → nat_lt 0 n ≡ false → n ≡ 0
is_zero n e = grind (arith, nat_tests, e)

pub is_none : (n : ℕ) → (n == 0) ≡ true → n ≡ 0
is_none n e = grind (arith, nat_tests, e)

take_none : (xs : List ℕ) → take 0 xs ≡ []
take_none [] = refl
take_none (x ∷ xs) = refl

-- it ends at the first end of a line
pub first_at : (bytes : List ℕ) (at : ℕ) → at < length bytes
    → ((k : ℕ) → 0 ≤ k → k < at → (slice_index bytes k == 10) ≡ true → ⊥) → (slice_index bytes at == 10) ≡ true
    → take (suc at) bytes ≡ first_line bytes
first_at [] at within before ends = absurd (omega (arith, within))
first_at (b ∷ bs) zero within before ends =
    ap (λ (l : List ℕ). b ∷ l) (take_none bs) ∙ ap (λ (t : Bool). if t then b ∷ [] else b ∷ first_line bs) (sym ends)
first_at (b ∷ bs) (suc at) within before ends =
    by_cases (λ (l : List ℕ). b ∷ take (suc at) bs ≡ l) (b == 10) (b ∷ []) (b ∷ first_line bs)
    (λ is. absurd (before 0 (omega arith) (omega arith) is))
    (λ none. ap (λ (l : List ℕ). b ∷ l)
    (first_at bs at (omega (arith, within)) (λ k low less. before (suc k) (omega arith) (omega (arith, less))) ends))

-- without an end of a line it is all of them
pub first_none : (bytes : List ℕ)
    → ((k : ℕ) → 0 ≤ k → k < length bytes → (slice_index bytes k == 10) ≡ true → ⊥) → bytes ≡ first_line bytes
first_none [] before = refl
first_none (b ∷ bs) before =
    by_cases (λ (l : List ℕ). b ∷ bs ≡ l) (b == 10) (b ∷ []) (b ∷ first_line bs)
    (λ is. absurd (before 0 (omega arith) (omega arith) is))
    (λ none. ap (λ (l : List ℕ). b ∷ l)
    (first_none bs (λ k low less. before (suc k) (omega arith) (omega (arith, less)))))

pub first_short : (bytes : List ℕ) → length (first_line bytes) ≤ length bytes
first_short [] = omega arith
first_short (b ∷ bs) =
    let rest = first_short bs in
    by_cases (λ (l : List ℕ). length l ≤ suc (length bs)) (b == 10) (b ∷ []) (b ∷ first_line bs)
    (λ is. omega arith) (λ none. omega (arith, rest))

-- some of its bytes are the first of all
pub first_takes : (count : ℕ) (bytes : List ℕ) → count ≤ length (first_line bytes)
    → take count (first_line bytes) ≡ take count bytes
first_takes zero bytes few = take_none (first_line bytes) ∙ sym (take_none bytes)
first_takes (suc count) [] few = refl
first_takes (suc count) (b ∷ bs) few =
    by_cases (λ (l : List ℕ). suc count ≤ length l → take (suc count) l ≡ take (suc count) (b ∷ bs)) (b == 10)
    (b ∷ []) (b ∷ first_line bs)
    (λ is short. let none : count ≡ 0 = omega (arith, short) in
    ap (λ (l : List ℕ). b ∷ l) (ap (λ (n : ℕ). take n []) none
    ∙ (sym (take_none bs) ∙ ap (λ (n : ℕ). take n bs) (sym none))))
    (λ none short. ap (λ (l : List ℕ). b ∷ l) (first_takes count bs (omega (arith, short)))) few

-- what tells of lost lines is short
pub lost_few : (lost : ℕ) → lost < 2 ^ 64 → length (lost_before lost) ≤ 32
lost_few lost small =
    let digits = length-decimal-le 20 lost (omega arith) (omega (arith, small)) small in
    let long = length-append (decimal lost) (codes "\n") in
    by_cases (λ (l : List ℕ). length l ≤ 32) (nat_lt 0 lost) (lost_line lost) []
    (λ some. omega (arith, digits, long)) (λ none. omega arith)
