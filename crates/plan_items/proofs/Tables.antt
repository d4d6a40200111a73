-- A test that holds of each number below a bound, as it computes.
use Rattle.std.proofs.Common.{◌≡◌, ℕ, zero, suc, ◌<◌, ◌==◌, ◌&&◌, Bool, true, false, refl, sym, subst, arith}
use Rattle.std.proofs.lemmas.Bool.Decides.{nat_tests}
use mathlib.Core.Logic.{dite}
use native.Mathlib.Decide.{ℕ_discrete}

-- the test holds of each number below n
abbrev pub all_below : (ℕ → Bool) → ℕ → Bool
all_below test zero = true
all_below test (suc n) = test n && all_below test n

-- what holds of each number below n holds of k
pub below : (test : ℕ → Bool) (n k : ℕ) → all_below test n ≡ true → k < n → test k ≡ true
below test zero k e h = absurd (omega arith)
below test (suc n) k e h = elim (test n) as (λ b. test n ≡ b → (b && all_below test n) ≡ true → test k ≡ true) [
  | true ↦ λ here rest. dite (ℕ_discrete k n) (λ same. subst (λ (z : ℕ). test z ≡ true) (sym same) here) (λ other. below test n k rest (omega arith))
  | false ↦ λ here rest. absurd (let bad : false ≡ true = rest in cc)
] refl e

-- both parts of a test hold
pub both : (a b : Bool) → (a && b) ≡ true → (a ≡ true) × (b ≡ true)
both true b h = (refl, h)
both false b h = absurd (let bad : false ≡ true = h in cc)

-- a test of equality holds
pub eq_of : (a b : ℕ) → (a == b) ≡ true → a ≡ b
eq_of a b h = grind (arith, nat_tests)
