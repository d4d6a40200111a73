-- How many numbers from 0 on pass a test.
use Rattle.std.proofs.Common.{◌≡◌, ℕ, zero, suc, ◌<◌, ◌≤◌, Bool, true, false, if◌then◌else◌, refl, sym, ap, subst, arith}
use Rattle.mav_stream.specs.Skips.{count_while}

-- as many as were tested, if the next one isn't one of them
pub counted : (test : ℕ → Bool) (n most : ℕ) → n ≤ most → ((k : ℕ) → k < n → test k ≡ true) → (n < most → test n ≡ false) → n ≡ count_while test most
counted test zero zero within each ends = refl
counted test zero (suc most) within each ends =
    subst (λ (t : Bool). 0 ≡ (if t then suc (count_while (λ k. test (suc k)) most) else 0)) (sym (ends (omega arith))) refl
counted test (suc n) zero within each ends = absurd (omega arith)
counted test (suc n) (suc most) within each ends =
    let rest = counted (λ k. test (suc k)) n most (omega arith) (λ k h. each (suc k) (omega arith)) (λ h. ends (omega arith)) in
    subst (λ (t : Bool). suc n ≡ (if t then suc (count_while (λ k. test (suc k)) most) else 0)) (sym (each 0 (omega arith))) (ap (λ (k : ℕ). suc k) rest)

-- each of them passes
by_first : (test : ℕ → Bool) (most : ℕ) → ((k : ℕ) → k < count_while (λ i. test (suc i)) most → test (suc k) ≡ true) → (t : Bool) → test 0 ≡ t → (j : ℕ) → j < (if t then suc (count_while (λ i. test (suc i)) most) else 0) → test j ≡ true
by_first test most rest false e j h = absurd (omega arith)
by_first test most rest true e zero h = e
by_first test most rest true e (suc j) h = rest j (omega arith)

pub passes : (test : ℕ → Bool) (most k : ℕ) → k < count_while test most → test k ≡ true
passes test zero k h = absurd (omega arith)
passes test (suc most) k h = by_first test most (λ i l. passes (λ n. test (suc n)) most i l) (test 0) refl k h

at_most : (t : Bool) (count most : ℕ) → count ≤ most → (if t then suc count else 0) ≤ suc most
at_most true count most h = omega arith
at_most false count most h = omega arith

pub within : (test : ℕ → Bool) (most : ℕ) → count_while test most ≤ most
within test zero = omega arith
within test (suc most) = at_most (test 0) (count_while (λ k. test (suc k)) most) most (within (λ k. test (suc k)) most)
