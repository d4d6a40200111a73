-- Lists: an element replaced, and one more at the end; and choices by a test.
use Rattle.std.proofs.Common.{◌≡◌, ◌≢◌, ℕ, zero, suc, ◌⊎◌, inl, inr, Bool, true, false, if◌then◌else◌, List, [], ◌∷◌, ◌++◌, length, slice_get, slice_set, Some, refl, sym, ap}

-- two choices by one test
pub by_both : {A B : Type 0} (P : A → B → Type 0) (b : Bool) (x y : A) (u v : B) → P x u → P y v → P (if b then x else y) (if b then u else v)
by_both P true x y u v f g = f
by_both P false x y u v f g = g

pub some_is : {A : Type 0} {x y : A} → Some x ≡ Some y → x ≡ y
some_is e = cc

-- an element of a list with one more is one of the list, or the last
pub at_end : {A : Type 0} (xs : List A) (x y : A) (i : ℕ) → slice_get (xs ++ x ∷ []) i ≡ Some y → (slice_get xs i ≡ Some y) ⊎ ((i ≡ length xs) × (x ≡ y))
at_end [] x y zero e = inr (refl, cc)
at_end [] x y (suc i) e = absurd (cc)
at_end (z ∷ zs) x y zero e = inl e
at_end (z ∷ zs) x y (suc i) e = elim (at_end zs x y i e) [ inl h ↦ inl h | inr h ↦ inr (ap suc h.0, h.1) ]

-- a list with one element replaced
pub set_there : {A : Type 0} (xs : List A) (k : ℕ) (x y : A) → slice_get xs k ≡ Some x → slice_get (slice_set xs k y) k ≡ Some y
set_there [] k x y e = absurd (nowhere k e)
  where
    nowhere : (k : ℕ) → slice_get [] k ≡ Some x → ⊥
    nowhere zero e = absurd (cc)
    nowhere (suc k) e = absurd (cc)
set_there (z ∷ zs) zero x y e = refl
set_there (z ∷ zs) (suc k) x y e = set_there zs k x y e

pub set_elsewhere : {A : Type 0} (xs : List A) (k i : ℕ) (y : A) → i ≢ k → slice_get (slice_set xs k y) i ≡ slice_get xs i
set_elsewhere [] k i y h = nothing k
  where
    nothing : (k : ℕ) → slice_get (slice_set [] k y) i ≡ slice_get [] i
    nothing zero = refl
    nothing (suc k) = refl
set_elsewhere (z ∷ zs) zero zero y h = absurd (h refl)
set_elsewhere (z ∷ zs) zero (suc i) y h = refl
set_elsewhere (z ∷ zs) (suc k) zero y h = refl
set_elsewhere (z ∷ zs) (suc k) (suc i) y h = set_elsewhere zs k i y (λ e. h (ap suc e))

-- and one of the list is one of the longer list
pub more_there : {A : Type 0} (xs : List A) (y x : A) (i : ℕ) → slice_get xs i ≡ Some x → slice_get (xs ++ y ∷ []) i ≡ Some x
more_there [] y x i e = absurd (nowhere i e)
  where
    nowhere : (i : ℕ) → slice_get [] i ≡ Some x → ⊥
    nowhere zero e = absurd (cc)
    nowhere (suc i) e = absurd (cc)
more_there (z ∷ zs) y x zero e = e
more_there (z ∷ zs) y x (suc i) e = more_there zs y x i e

-- the same element replaced twice
pub set_twice : {A : Type 0} (xs : List A) (k : ℕ) (x y : A) → slice_set (slice_set xs k x) k y ≡ slice_set xs k y
set_twice [] k x y = nothing k
  where
    nothing : (k : ℕ) → slice_set (slice_set [] k x) k y ≡ slice_set [] k y
    nothing zero = refl
    nothing (suc k) = refl
set_twice (z ∷ zs) zero x y = refl
set_twice (z ∷ zs) (suc k) x y = ap (λ ws. z ∷ ws) (set_twice zs k x y)

-- an element replaced by itself
pub set_same : {A : Type 0} (xs : List A) (k : ℕ) (x : A) → slice_get xs k ≡ Some x → slice_set xs k x ≡ xs
set_same [] k x e = absurd (nowhere k e)
  where
    nowhere : (k : ℕ) → slice_get [] k ≡ Some x → ⊥
    nowhere zero e = absurd (cc)
    nowhere (suc k) e = absurd (cc)
set_same (z ∷ zs) zero x e = ap (λ y. y ∷ zs) (sym (some_is e))
set_same (z ∷ zs) (suc k) x e = ap (λ ys. z ∷ ys) (set_same zs k x e)

-- an element of a list is one of the list with more after it
pub still_there : {A : Type 0} (xs ys : List A) (x : A) (i : ℕ) → slice_get xs i ≡ Some x → slice_get (xs ++ ys) i ≡ Some x
still_there [] ys x i e = absurd (nowhere i e)
  where
    nowhere : (i : ℕ) → slice_get [] i ≡ Some x → ⊥
    nowhere zero e = absurd (cc)
    nowhere (suc i) e = absurd (cc)
still_there (z ∷ zs) ys x zero e = e
still_there (z ∷ zs) ys x (suc i) e = still_there zs ys x i e
