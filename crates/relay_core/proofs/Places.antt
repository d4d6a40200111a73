-- What stands at a place of a list.
use Rattle.std.proofs.Common.{◌≡◌, ◌∙◌, ◌<◌, ◌⊎◌, inl, inr, ℕ, zero, suc, ◌+◌, List, [], ◌∷◌, ◌++◌, length, set, Some, slice_get, refl, sym, ap, arith}
use Rattle.std.specs.List.{remove}
use Rattle.relay_rules.proofs.Numbering.{got_less}
use Rattle.relay_core.specs.Flows.{each_from}

pub same_some : {A : Type 0} {x y : A} → Some x ≡ Some y → x ≡ y
same_some {A} {x} {y} e = cc

pub nothing_there : {A : Type 0} {x : A} (k : ℕ) → slice_get [] k ≡ Some x → ⊥
nothing_there k e = absurd (cc)

-- ---- one item more

pub more_first : {A : Type 0} (xs : List A) (y : A) (k : ℕ) → k < length xs → slice_get (xs ++ y ∷ []) k ≡ slice_get xs k
more_first [] y k l = absurd (omega (arith, l))
more_first (x ∷ xs) y zero l = refl
more_first (x ∷ xs) y (suc k) l = more_first xs y k (omega (arith, l))

pub more_last : {A : Type 0} (xs : List A) (y : A) (k : ℕ) → k ≡ length xs → slice_get (xs ++ y ∷ []) k ≡ Some y
more_last [] y zero e = refl
more_last [] y (suc k) e = absurd (omega (arith, e))
more_last (x ∷ xs) y zero e = absurd (omega (arith, e))
more_last (x ∷ xs) y (suc k) e = more_last xs y k (omega (arith, e))

-- ---- an item that is set

pub set_there : {A : Type 0} (xs : List A) (at : ℕ) (x : A) → at < length xs → slice_get (set xs at x) at ≡ Some x
set_there [] at x l = absurd (omega (arith, l))
set_there (y ∷ xs) zero x l = refl
set_there (y ∷ xs) (suc at) x l = set_there xs at x (omega (arith, l))

pub set_elsewhere : {A : Type 0} (xs : List A) (at k : ℕ) (x : A) → (k ≡ at → ⊥) → slice_get (set xs at x) k ≡ slice_get xs k
set_elsewhere [] zero k x apart = refl
set_elsewhere [] (suc at) k x apart = refl
set_elsewhere (y ∷ xs) zero zero x apart = absurd (apart refl)
set_elsewhere (y ∷ xs) zero (suc k) x apart = refl
set_elsewhere (y ∷ xs) (suc at) zero x apart = refl
set_elsewhere (y ∷ xs) (suc at) (suc k) x apart = set_elsewhere xs at k x (λ e. apart (ap suc e))

same_or : (m n : ℕ) → (m ≡ n) ⊎ (m ≡ n → ⊥)
same_or zero zero = inl refl
same_or zero (suc n) = inr (λ e. absurd (omega (arith, e)))
same_or (suc m) zero = inr (λ e. absurd (omega (arith, e)))
same_or (suc m) (suc n) = elim (same_or m n) [ inl e ↦ inl (ap suc e) | inr d ↦ inr (λ e. d (omega (arith, e))) ]

pub is_same_or : (m n : ℕ) → (m ≡ n) ⊎ (m ≡ n → ⊥)
is_same_or m n = same_or m n

-- ---- items that are each changed by their number

pub each_got : {A : Type 0} (f : ℕ → A → A) (n k : ℕ) (xs : List A) (y : A) → slice_get (each_from f n xs) k ≡ Some y → (x : A) × (slice_get xs k ≡ Some x) × (y ≡ f (n + k) x)
each_got {A} f n k [] y e = absurd (nothing_there k e)
each_got {A} f n zero (x ∷ xs) y e = let same : n ≡ n + 0 = omega arith in (x, refl, sym (same_some e) ∙ ap (λ (m : ℕ). f m x) same)
each_got {A} f n (suc k) (x ∷ xs) y e =
    let h = each_got f (n + 1) k xs y e in
    let same : n + 1 + k ≡ n + suc k = omega arith in
    (h.0, h.1, h.2 ∙ ap (λ (m : ℕ). f m h.0) same)

pub each_length : {A : Type 0} (f : ℕ → A → A) (n : ℕ) (xs : List A) → length (each_from f n xs) ≡ length xs
each_length {A} f n [] = refl
each_length {A} f n (x ∷ xs) = ap suc (each_length f (n + 1) xs)

-- ---- one item less

pub still_there : {A : Type 0} (xs : List A) (at k : ℕ) (x : A) → (k ≡ at → ⊥) → slice_get xs k ≡ Some x → (i : ℕ) × (slice_get (remove xs at) i ≡ Some x)
still_there [] at k x apart e = absurd (nothing_there k e)
still_there (y ∷ xs) zero zero x apart e = absurd (apart refl)
still_there (y ∷ xs) zero (suc k) x apart e = (k, e)
still_there (y ∷ xs) (suc at) zero x apart e = (0, e)
still_there (y ∷ xs) (suc at) (suc k) x apart e =
    let h = still_there xs at k x (λ s. apart (ap suc s)) e in
    (suc h.0, h.1)

-- the same item before and after the one that goes, in two lists
pub less_place : {A B : Type 0} (xs : List A) (ys : List B) (at k : ℕ) (x : A) (y : B) → slice_get (remove xs at) k ≡ Some x → slice_get (remove ys at) k ≡ Some y → (j : ℕ) × (slice_get xs j ≡ Some x) × (slice_get ys j ≡ Some y)
less_place {A} {B} xs ys at k x y e f = elim (got_less xs at k x e) [
  | inl h ↦ elim (got_less ys at k y f) [
    | inl g ↦ (k, h.1, g.1)
    | inr g ↦ absurd (omega (arith, h.0, g.0))
  ]
  | inr h ↦ elim (got_less ys at k y f) [
    | inl g ↦ absurd (omega (arith, h.0, g.0))
    | inr g ↦ (suc k, h.1, g.1)
  ]
]
