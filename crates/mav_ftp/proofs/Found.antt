-- The first element of a list that passes a test, after one is written or added that does.
use Rattle.std.proofs.Common.{◌≡◌, ◌<◌, ℕ, nat_lt, not, Bool, true, cond, List, [], ◌∷◌, ◌++◌, length, Some, None, refl, ap, sym, ◌∙◌, position, arith}
use Rattle.std.specs.Prelude.{slice_get}
use Rattle.std.specs.List.{position_or_len}
use Rattle.std.proofs.Math.ListN.{set}
use Rattle.std.proofs.lemmas.List.{get_or-set_same, length-set, get_or_push, length-append}
use Rattle.std.proofs.lemmas.List.Folds.{position_or_len-set, position_or_len_push}
use Rattle.std.proofs.lemmas.List.Sums.{prefix_len-le-length}
use Rattle.std.proofs.lemmas.List.Quantifiers.{position-Some}
use Rattle.std.proofs.lemmas.Option.{slice_get-get_or}

less : (m n : ℕ) → m < n → nat_lt m n ≡ true
less m n h = grind arith

index_is : {X : Type 0} (p : X → Bool) (xs : List X) (i : ℕ) → position_or_len p xs ≡ i → i < length xs → position p xs ≡ Some i
index_is p xs i is inside =
    ap (λ n. cond (nat_lt n (length xs)) (Some n) None) is ∙ ap (λ t. cond t (Some i) None) (less i (length xs) inside)

none_before : {X : Type 0} (p : X → Bool) (xs : List X) → position p xs ≡ None → position_or_len p xs ≡ length xs
none_before p xs none = grind (arith, prefix_len-le-length (λ x. not (p x)) xs)

index_of : {X : Type 0} (p : X → Bool) (xs : List X) (i : ℕ) → position p xs ≡ Some i → position_or_len p xs ≡ i
index_of p xs i some = grind arith

longer : {X : Type 0} (xs : List X) (y : X) → length xs < length (xs ++ y ∷ [])
longer xs y = omega (arith, length-append xs (y ∷ []))

-- added at the end
pub found_last : {X : Type 0} (p : X → Bool) (xs : List X) (y : X) → position p xs ≡ None → p y ≡ true → position p (xs ++ y ∷ []) ≡ Some (length xs)
found_last p xs y none passes =
    let end : position_or_len p (xs ++ y ∷ []) ≡ length xs = position_or_len_push p xs y ∙ rw (none_before p xs none, passes) (grind arith) in
    index_is p (xs ++ y ∷ []) (length xs) end (longer xs y)

pub last_is : {X : Type 0} (xs : List X) (y : X) → slice_get (xs ++ y ∷ []) (length xs) ≡ Some y
last_is xs y = slice_get-get_or (xs ++ y ∷ []) (length xs) y (longer xs y) ∙ ap (λ x. Some x) (get_or_push xs y y (length xs) refl)

-- written over the first
pub found_set : {X : Type 0} (p : X → Bool) (xs : List X) (i : ℕ) (y : X) → position p xs ≡ Some i → p y ≡ true → position p (set xs i y) ≡ Some i
found_set p xs i y some passes =
    let at = position-Some p xs i y some in
    let same : position_or_len p (set xs i y) ≡ i = position_or_len-set p xs i y y (passes ∙ sym at.1) ∙ index_of p xs i some in
    index_is p (set xs i y) i same (rw (length-set xs i y) at.0)

pub set_is : {X : Type 0} (xs : List X) (i : ℕ) (y : X) → i < length xs → slice_get (set xs i y) i ≡ Some y
set_is xs i y inside =
    slice_get-get_or (set xs i y) i y (rw (length-set xs i y) inside) ∙ ap (λ x. Some x) (get_or-set_same xs i y y inside)

pub inside_by : {X : Type 0} (p : X → Bool) (xs : List X) (i : ℕ) (d : X) → position p xs ≡ Some i → i < length xs
inside_by p xs i d some = (position-Some p xs i d some).0
