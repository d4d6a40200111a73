-- Lists: an element replaced, and more at the end.
use Rattle.std.proofs.Common.{◌≡◌, ◌≢◌, ℕ, zero, suc, ◌<◌, ◌⊎◌, inl, inr, List, [], ◌∷◌, ◌++◌, length, slice_get, slice_set, map, Some, refl, sym, ap, arith, ◌∙◌}

pub some_is : {A : Type 0} {x y : A} → Some x ≡ Some y → x ≡ y
some_is e = cc

pub nowhere : {A : Type 0} (k : ℕ) (x : A) → slice_get [] k ≡ Some x → ⊥
nowhere zero x e = absurd (cc)
nowhere (suc k) x e = absurd (cc)

-- a list with one element replaced
pub set_there : {A : Type 0} (xs : List A) (k : ℕ) (x y : A) → slice_get xs k ≡ Some x → slice_get (slice_set xs k y) k ≡ Some y
set_there [] k x y e = absurd (nowhere k x e)
set_there (z ∷ zs) zero x y e = refl
set_there (z ∷ zs) (suc k) x y e = set_there zs k x y e

pub set_elsewhere : {A : Type 0} (xs : List A) (k i : ℕ) (y : A) → i ≢ k → slice_get (slice_set xs k y) i ≡ slice_get xs i
set_elsewhere [] k i y h = nothing k
  where
    nothing : (k : ℕ) → slice_get (slice_set [] k y) i ≡ slice_get [] i
    nothing zero = refl
    nothing (suc k) = refl
set_elsewhere (z ∷ zs) zero zero y h = absurd (h refl)
set_elsewhere (z ∷ zs) zero (suc i) y h = refl
set_elsewhere (z ∷ zs) (suc k) zero y h = refl
set_elsewhere (z ∷ zs) (suc k) (suc i) y h = set_elsewhere zs k i y (λ e. h (ap suc e))

pub set_twice : {A : Type 0} (xs : List A) (k : ℕ) (x y : A) → slice_set (slice_set xs k x) k y ≡ slice_set xs k y
set_twice [] zero x y = refl
set_twice [] (suc k) x y = refl
set_twice (z ∷ zs) zero x y = refl
set_twice (z ∷ zs) (suc k) x y = ap (λ u. z ∷ u) (set_twice zs k x y)

pub set_length : {A : Type 0} (xs : List A) (k : ℕ) (x : A) → length (slice_set xs k x) ≡ length xs
set_length [] zero x = refl
set_length [] (suc k) x = refl
set_length (z ∷ zs) zero x = refl
set_length (z ∷ zs) (suc k) x = ap suc (set_length zs k x)

-- the element there again
pub set_same : {A : Type 0} (xs : List A) (k : ℕ) (x : A) → slice_get xs k ≡ Some x → slice_set xs k x ≡ xs
set_same [] k x e = absurd (nowhere k x e)
set_same (z ∷ zs) zero x e = let same : z ≡ x = cc in ap (λ u. u ∷ zs) (sym same)
set_same (z ∷ zs) (suc k) x e = ap (λ u. z ∷ u) (set_same zs k x e)

-- a function of the elements that the new one has like the old one
pub map_set : {A B : Type 0} (f : A → B) (xs : List A) (k : ℕ) (x y : A) → slice_get xs k ≡ Some x → f y ≡ f x → map f (slice_set xs k y) ≡ map f xs
map_set f [] k x y e same = absurd (nowhere k x e)
map_set f (z ∷ zs) zero x y e same = let is : z ≡ x = cc in ap (λ u. u ∷ map f zs) (same ∙ sym (ap f is))
map_set f (z ∷ zs) (suc k) x y e same = ap (λ u. f z ∷ u) (map_set f zs k x y e same)

-- the index that an element of a list with one replaced had
pub which : {A : Type 0} (xs : List A) (k : ℕ) (x y : A) → slice_get xs k ≡ Some x → (i : ℕ) (a : A) → slice_get (slice_set xs k y) i ≡ Some a → ((i ≡ k) × (a ≡ y)) ⊎ ((i ≢ k) × (slice_get xs i ≡ Some a))
which [] k x y here i a e = absurd (nowhere k x here)
which (z ∷ zs) zero x y here zero a e = inl (refl, sym (some_is e))
which (z ∷ zs) zero x y here (suc i) a e = inr ((λ is. absurd (cc)), e)
which (z ∷ zs) (suc k) x y here zero a e = inr ((λ is. absurd (cc)), e)
which (z ∷ zs) (suc k) x y here (suc i) a e = elim (which zs k x y here i a e) [
  | inl h ↦ inl (ap suc h.0, h.1)
  | inr h ↦ inr ((λ is. h.0 (let z : i ≡ k = omega arith in z)), h.1)
]

-- and the other way
pub stays_where : {A : Type 0} (xs : List A) (k : ℕ) (x y : A) → slice_get xs k ≡ Some x → (i : ℕ) (a : A) → slice_get xs i ≡ Some a → ((i ≡ k) × ((a ≡ x) × (slice_get (slice_set xs k y) i ≡ Some y))) ⊎ (slice_get (slice_set xs k y) i ≡ Some a)
stays_where [] k x y here i a e = absurd (nowhere k x here)
stays_where (z ∷ zs) zero x y here zero a e = inl (refl, (some_is (sym e ∙ here), refl))
stays_where (z ∷ zs) zero x y here (suc i) a e = inr e
stays_where (z ∷ zs) (suc k) x y here zero a e = inr e
stays_where (z ∷ zs) (suc k) x y here (suc i) a e = elim (stays_where zs k x y here i a e) [
  | inl h ↦ inl (ap suc h.0, (h.1.0, h.1.1))
  | inr h ↦ inr h
]

-- more at the end
pub more_there : {A : Type 0} (xs ys : List A) (x : A) (i : ℕ) → slice_get xs i ≡ Some x → slice_get (xs ++ ys) i ≡ Some x
more_there [] ys x i e = absurd (nowhere i x e)
more_there (z ∷ zs) ys x zero e = e
more_there (z ∷ zs) ys x (suc i) e = more_there zs ys x i e

pub record IsAt {A : Type 0} (xs : List A) (x : A) : Type 0 where
  pub index : ℕ
  pub found : slice_get xs index ≡ Some x

pub behind_there : {A : Type 0} (xs ys : List A) (x : A) → IsAt ys x → IsAt (xs ++ ys) x
behind_there [] ys x h = h
behind_there (z ∷ zs) ys x h = let r = behind_there zs ys x h in record { index = suc r.index; found = r.found }

pub in_either : {A : Type 0} (xs ys : List A) (x : A) (i : ℕ) → slice_get (xs ++ ys) i ≡ Some x → (slice_get xs i ≡ Some x) ⊎ IsAt ys x
in_either [] ys x i e = inr (record { index = i; found = e })
in_either (z ∷ zs) ys x zero e = inl e
in_either (z ∷ zs) ys x (suc i) e = in_either zs ys x i e

pub last_there : {A : Type 0} (xs : List A) (x : A) → slice_get (xs ++ x ∷ []) (length xs) ≡ Some x
last_there [] x = refl
last_there (z ∷ zs) x = last_there zs x

-- an element of a list with one more is one of the list, or the last
pub at_end : {A : Type 0} (xs : List A) (x y : A) (i : ℕ) → slice_get (xs ++ x ∷ []) i ≡ Some y → (slice_get xs i ≡ Some y) ⊎ ((i ≡ length xs) × (x ≡ y))
at_end [] x y zero e = inr (refl, some_is e)
at_end [] x y (suc i) e = absurd (nowhere i y e)
at_end (z ∷ zs) x y zero e = inl e
at_end (z ∷ zs) x y (suc i) e = elim (at_end zs x y i e) [ inl h ↦ inl h | inr h ↦ inr (ap suc h.0, h.1) ]

-- an index of a list
pub within : {A : Type 0} (xs : List A) (i : ℕ) (x : A) → slice_get xs i ≡ Some x → i < length xs
within [] i x e = absurd (nowhere i x e)
within (y ∷ ys) zero x e = omega arith
within (y ∷ ys) (suc i) x e = let z = within ys i x e in omega arith
