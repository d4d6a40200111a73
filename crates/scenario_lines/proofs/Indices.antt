-- The index of the first element that passes a test.
use Rattle.std.proofs.Common.{◌≡◌, ℕ, suc, ◌+◌, ◌||◌, not, Bool, true, false, cond, List, [], ◌∷◌, length, refl, arith, sym, ◌∙◌, ltb, Some, inl, inr}
use Rattle.std.specs.List.{list_any, position, position_or_len}
use Rattle.std.proofs.lemmas.Bool.{lt-ltb, le-ltb, cases_lt}

same_test : (n m : ℕ) → ltb n m ≡ ltb (1 + n) (suc m)
same_test n m =
    elim (cases_lt n m) [
      | inl below ↦ lt-ltb n m below ∙ sym (lt-ltb (1 + n) (suc m) (omega arith))
      | inr above ↦ le-ltb n m above ∙ sym (le-ltb (1 + n) (suc m) (omega arith))
    ]

step : (b r : Bool) (n m : ℕ) → r ≡ ltb n m → (b || r) ≡ ltb (cond (not b) (1 + n) 0) (suc m)
step true r n m e = sym (lt-ltb 0 (suc m) (omega arith))
step false r n m e = e ∙ same_test n m

-- some element passes if the index of the first that does is in range
pub list_any-inside : {X : Type 0} (p : X → Bool) (xs : List X) → list_any p xs ≡ ltb (position_or_len p xs) (length xs)
list_any-inside p [] = refl
list_any-inside p (x ∷ xs) = step (p x) (list_any p xs) (position_or_len p xs) (length xs) (list_any-inside p xs)

-- so a node that was named in a role has an index
pub place_found : {X : Type 0} (p : X → Bool) (xs : List X) → list_any p xs ≡ true → position p xs ≡ Some (position_or_len p xs)
place_found p xs h = rw (sym (list_any-inside p xs) ∙ h) refl
