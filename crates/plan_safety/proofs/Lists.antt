-- Fronts of lists.
use Rattle.std.proofs.Common.{◌≡◌, ℕ, zero, suc, ◌+◌, ◌<◌, List, [], ◌∷◌, ◌++◌, length, take, Some, sym, ap, arith, ◌∙◌, length-append, add-one}
use Rattle.std.specs.Prelude.{slice_get}

-- one element more, counted from one
take_suc : {A : Type 0} (xs : List A) (i : ℕ) (x : A) → slice_get xs i ≡ Some x → take (suc i) xs ≡ take i xs ++ x ∷ []
take_suc [] i x e = absurd (cc)
take_suc (y ∷ ys) zero x e = let z : y ≡ x = cc in ap (λ u. u ∷ []) z
take_suc (y ∷ ys) (suc i) x e = ap (λ u. y ∷ u) (take_suc ys i x e)

-- one element more
pub take_next : {A : Type 0} (xs : List A) (i : ℕ) (x : A) → slice_get xs i ≡ Some x → take (i + 1) xs ≡ take i xs ++ x ∷ []
take_next xs i x e = rw add-one (take_suc xs i x e)

-- an index that has an element is in range, and one in range has an element
pub in_range : {A : Type 0} (xs : List A) (i : ℕ) (x : A) → slice_get xs i ≡ Some x → i < length xs
in_range [] i x e = absurd (cc)
in_range (y ∷ ys) zero x e = omega arith
in_range (y ∷ ys) (suc i) x e = let z = in_range ys i x e in omega arith

-- a prefix with its next element is a prefix
pub next_front : {A : Type 0} (xs front : List A) (x : A) → front ≡ take (length front) xs → slice_get xs (length front) ≡ Some x → front ++ x ∷ [] ≡ take (length (front ++ x ∷ [])) xs
next_front xs front x e is =
    let len : length (front ++ x ∷ []) ≡ length front + 1 = length-append front (x ∷ []) in
    ap (λ y. y ++ x ∷ []) e ∙ sym (take_next xs (length front) x is) ∙ ap (λ n. take n xs) (sym len)
