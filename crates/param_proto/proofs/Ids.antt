-- Ids: what is after the first zero byte doesn't count.
use Rattle.std.proofs.Common.{◌≡◌, ℕ, suc, zero, ◌+◌, ◌-◌, ◌<◌, ◌≤◌, true, false, cond, nat_eq, List, [], ◌∷◌, ◌++◌, length, map, take, get_or, replicate, refl, ap, sym, ◌∙◌, arith}
use Rattle.std.proofs.Math.ListN.{set}
use Rattle.std.proofs.lemmas.Bool.Decides.{nat_tests}
use Rattle.param_proto.specs.Params.{cleaned}

zeros : (bs : List ℕ) → map {B = ℕ} (λ (byte : ℕ). 0) bs ≡ replicate (length bs) 0
zeros [] = refl
zeros (b ∷ bs) = ap (λ l. 0 ∷ l) (zeros bs)

not_zero : (b : ℕ) → (b ≡ 0 → ⊥) → nat_eq b 0 ≡ false
not_zero b apart = grind (arith, nat_tests)

-- the first bytes, none of which is a zero, and then zeros
pub cleaned_at : (id : List ℕ) (n : ℕ) → n ≤ length id → ((k : ℕ) → k < n → get_or id k 0 ≡ 0 → ⊥) → (n < length id → get_or id n 0 ≡ 0) → take n id ++ replicate (length id - n) 0 ≡ cleaned id
cleaned_at [] zero within below here = refl
cleaned_at [] (suc n) within below here = absurd (omega arith)
cleaned_at (b ∷ bs) zero within below here =
    let first : b ≡ 0 = here (omega arith) in
    let all : length (b ∷ bs) - 0 ≡ suc (length bs) = omega arith in
    rw (all, first) (ap (λ l. 0 ∷ l) (sym (zeros bs)))
cleaned_at (b ∷ bs) (suc n) within below here =
    let first : nat_eq b 0 ≡ false = not_zero b (below 0 (omega arith)) in
    let left : length (b ∷ bs) - suc n ≡ length bs - n = omega arith in
    rw (left, first) (ap (λ l. b ∷ l) (cleaned_at bs n (omega arith) (λ k h. below (suc k) (omega arith)) (λ h. here (omega arith))))

-- one byte more of them is copied over a zero
pub copied_more : (id : List ℕ) (n : ℕ) → n < length id → set (take n id ++ replicate (length id - n) 0) n (get_or id n 0) ≡ take (n + 1) id ++ replicate (length id - (n + 1)) 0
copied_more [] n inside = absurd (omega arith)
copied_more (b ∷ bs) zero inside =
    let all : length (b ∷ bs) - 0 ≡ suc (length bs) = omega arith in
    let one : length (b ∷ bs) - 1 ≡ length bs = omega arith in
    rw (all, one) refl
copied_more (b ∷ bs) (suc n) inside =
    let now : length (b ∷ bs) - suc n ≡ length bs - n = omega arith in
    let next : length (b ∷ bs) - (suc n + 1) ≡ length bs - (n + 1) = omega arith in
    let more : suc n + 1 ≡ suc (n + 1) = omega arith in
    rw (now, next, more) (ap (λ l. b ∷ l) (copied_more bs n (omega arith)))

-- ---- a loop that copies them

pub cleaned_so_far : (id clean : List ℕ) (n : ℕ) → length id ≡ 16 → clean ≡ take n id ++ replicate (16 - n) 0 → n ≤ 16 → ((k : ℕ) → k < n → get_or id k 0 ≡ 0 → ⊥) → (n < 16 → get_or id n 0 ≡ 0) → clean ≡ cleaned id
cleaned_so_far id clean n full copied within below here =
    copied ∙ (ap (λ m. take n id ++ replicate (m - n) 0) (sym full) ∙ cleaned_at id n (omega arith) below (λ h. here (omega arith)))

pub copied_next : (id clean : List ℕ) (n : ℕ) → length id ≡ 16 → clean ≡ take n id ++ replicate (16 - n) 0 → n < 16 → set clean n (get_or id n 0) ≡ take (n + 1) id ++ replicate (16 - (n + 1)) 0
copied_next id clean n full copied inside =
    let more : set (take n id ++ replicate (length id - n) 0) n (get_or id n 0) ≡ take (n + 1) id ++ replicate (length id - (n + 1)) 0 = copied_more id n (omega arith) in
    ap (λ l. set l n (get_or id n 0)) copied ∙ (rw full at more)

-- ---- a cleaned id

zeros_again : (bs : List ℕ) → map {B = ℕ} (λ (byte : ℕ). 0) (map {B = ℕ} (λ (byte : ℕ). 0) bs) ≡ map {B = ℕ} (λ (byte : ℕ). 0) bs
zeros_again [] = refl
zeros_again (b ∷ bs) = ap (λ l. 0 ∷ l) (zeros_again bs)

pub cleaned_twice : (id : List ℕ) → cleaned (cleaned id) ≡ cleaned id
cleaned_twice [] = refl
cleaned_twice (b ∷ bs) =
    elim (nat_eq b 0) as (λ t. nat_eq b 0 ≡ t → cleaned (cond t (map {B = ℕ} (λ (byte : ℕ). 0) (b ∷ bs)) (b ∷ cleaned bs)) ≡ cond t (map {B = ℕ} (λ (byte : ℕ). 0) (b ∷ bs)) (b ∷ cleaned bs)) [
      | true ↦ λ e. ap (λ l. 0 ∷ l) (zeros_again bs)
      | false ↦ λ e. rw e (ap (λ l. b ∷ l) (cleaned_twice bs))
    ] refl
