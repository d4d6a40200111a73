-- The entries with a label are those of its participant.
use Rattle.std.proofs.Common.{◌≡◌, ℕ, zero, suc, ◌<◌, ◌≤◌, ◌≢◌, ◌⊎◌, ◌==◌, List, [], ◌∷◌, length, drop, Bool, true, false, if◌then◌else◌, Some, None, refl, sym, ap, ◌∙◌, subst, inl, inr, ⊎_elim, arith}
use Rattle.std.specs.List.{filter, slice_get}
use Rattle.std.proofs.lemmas.Bool.Decides.{nat_tests}
use mathlib.Core.Logic.{dite}
use native.Mathlib.Decide.{ℕ_discrete}
use Rattle.turnstile.specs.Journals.{StandAt}
use Rattle.turnstile.specs.Labels.{EachPasses, summed, EachLabelHasItsOwn}

is_eq : (a b : ℕ) → a ≡ b → (a == b) ≡ true
is_eq a b h = grind (arith, nat_tests)

not_eq : (a b : ℕ) → a ≢ b → (a == b) ≡ false
not_eq a b h = grind (arith, nat_tests)

sum_le : (n : ℕ) (f g : ℕ → ℕ) → ((i : ℕ) → i < n → f i ≤ g i) → summed n f ≤ summed n g
sum_le zero f g h = omega arith
sum_le (suc n) f g h = let a = sum_le n f g (λ i l. h i (omega arith)) in let b = h n (omega arith) in omega arith

sum_same : (n : ℕ) (f g : ℕ → ℕ) → ((i : ℕ) → i < n → f i ≤ g i) → summed n g ≤ summed n f → (i : ℕ) → i < n → f i ≡ g i
sum_same zero f g h t i l = absurd (omega arith)
sum_same (suc n) f g h t i l =
    let a = sum_le n f g (λ j m. h j (omega arith)) in
    let b = h n (omega arith) in
    dite (ℕ_discrete i n) (λ e. subst (λ (z : ℕ). f z ≡ g z) (sym e) (omega arith)) (λ ne. sum_same n f g (λ j m. h j (omega arith)) (omega arith) i (omega arith))

module _ {E : Type 0} where
  -- es are some of xs, in their order
  abbrev Sub : List E → List E → Type 0
  Sub [] xs = Unit {0}
  Sub (e ∷ es) [] = ⊥
  Sub (e ∷ es) (x ∷ xs) = ((e ≡ x) × Sub es xs) ⊎ Sub (e ∷ es) xs

  sub_more : (es : List E) (x : E) (xs : List E) → Sub es xs → Sub es (x ∷ xs)
  sub_more [] x xs s = tt
  sub_more (e ∷ es) x xs s = inr s

  -- what stands from a position on is among what comes after it
  stands_sub : (history : List E) (low : ℕ) (ks : List ℕ) (es : List E) → StandAt history low ks es → Sub es (drop low history)
  stands_sub history low [] [] h = tt
  stands_sub history low [] (e ∷ es) h = absurd h
  stands_sub history low (k ∷ ks) [] h = absurd h
  stands_sub history low (k ∷ ks) (e ∷ es) h = from history low k (e ∷ es) h.0 (at history k e es h.1 (stands_sub history (suc k) ks es h.2))
    where
      at : (history : List E) (k : ℕ) (e : E) (es : List E) → slice_get history k ≡ Some e → Sub es (drop (suc k) history) → Sub (e ∷ es) (drop k history)
      at [] k e es h s = absurd (let bad : None ≡ Some e = h in cc)
      at (x ∷ xs) zero e es h s = inl ((let t : Some x ≡ Some e = h in let u : e ≡ x = cc in u), s)
      at (x ∷ xs) (suc k) e es h s = at xs k e es h s

      empty : (k : ℕ) (es : List E) → Sub es (drop k []) → Sub es []
      empty zero es s = s
      empty (suc k) es s = s

      from : (history : List E) (low k : ℕ) (es : List E) → low ≤ k → Sub es (drop k history) → Sub es (drop low history)
      from history zero zero es l s = s
      from [] zero (suc k) es l s = s
      from (x ∷ xs) zero (suc k) es l s = sub_more es x xs (from xs zero k es (omega arith) s)
      from [] (suc low) k es l s = empty k es s
      from (x ∷ xs) (suc low) zero es l s = absurd (omega arith)
      from (x ∷ xs) (suc low) (suc k) es l s = from xs low k es (omega arith) s

  module _ (p : E → Bool) where
    kept : (b : Bool) (x : E) (xs : List E) → p x ≡ b → filter p (x ∷ xs) ≡ (if b then x ∷ filter p xs else filter p xs)
    kept b x xs e = ap (λ (t : Bool). if t then x ∷ filter p xs else filter p xs) e

    sub_le : (es xs : List E) → Sub es xs → EachPasses p es → length es ≤ length (filter p xs)
    sub_le [] xs s h = omega arith
    sub_le (e ∷ es) [] s h = absurd s
    sub_le (e ∷ es) (x ∷ xs) s h = ⊎_elim
        (λ (t : (e ≡ x) × Sub es xs). let r = sub_le es xs t.1 h.1 in let k : length (filter p (x ∷ xs)) ≡ suc (length (filter p xs)) = ap length (kept true x xs (ap p (sym t.0) ∙ h.0)) in omega arith)
        (λ (t : Sub (e ∷ es) xs). let r = sub_le (e ∷ es) xs t h in let m = grows (p x) x xs refl in omega arith) s
      where
        grows : (b : Bool) (x : E) (xs : List E) → p x ≡ b → length (filter p xs) ≤ length (filter p (x ∷ xs))
        grows true x xs e = let k : length (filter p (x ∷ xs)) ≡ suc (length (filter p xs)) = ap length (kept true x xs e) in omega arith
        grows false x xs e = let k : length (filter p (x ∷ xs)) ≡ length (filter p xs) = ap length (kept false x xs e) in omega arith

    sub_all : (es xs : List E) → Sub es xs → EachPasses p es → length (filter p xs) ≡ length es → filter p xs ≡ es
    sub_all [] [] s h e = refl
    sub_all [] (x ∷ xs) s h e = none (filter p (x ∷ xs)) e
      where
        none : (ys : List E) → length ys ≡ 0 → ys ≡ []
        none [] e = refl
        none (y ∷ ys) e = absurd (omega arith)
    sub_all (d ∷ es) [] s h e = absurd s
    sub_all (d ∷ es) (x ∷ xs) s h e = ⊎_elim
        (λ (t : (d ≡ x) × Sub es xs).
        let is = kept true x xs (ap p (sym t.0) ∙ h.0) in
        let k : length (filter p (x ∷ xs)) ≡ suc (length (filter p xs)) = ap length is in
        is ∙ (λ i. sym t.0 i ∷ sub_all es xs t.1 h.1 (omega arith) i))
        (λ (t : Sub (d ∷ es) xs). later (p x) refl t (sub_all (d ∷ es) xs t h)) s
      where
        later : (b : Bool) → p x ≡ b → Sub (d ∷ es) xs → (length (filter p xs) ≡ length (d ∷ es) → filter p xs ≡ d ∷ es) → filter p (x ∷ xs) ≡ d ∷ es
        later true b t more = let k : length (filter p (x ∷ xs)) ≡ suc (length (filter p xs)) = ap length (kept true x xs b) in let l = sub_le (d ∷ es) xs t h in absurd (omega arith)
        later false b t more = let is = kept false x xs b in is ∙ more (sym (ap length is) ∙ e)

  module _ (label : E → ℕ) where
    abbrev test : ℕ → E → Bool
    test i e = label e == i

    abbrev count : List E → ℕ → ℕ
    count xs i = length (filter (test i) xs)

    count_here : (x : E) (xs : List E) (i : ℕ) → label x ≡ i → count (x ∷ xs) i ≡ suc (count xs i)
    count_here x xs i e = ap length (kept (test i) true x xs (is_eq (label x) i e))

    count_else : (x : E) (xs : List E) (i : ℕ) → label x ≢ i → count (x ∷ xs) i ≡ count xs i
    count_else x xs i ne = ap length (kept (test i) false x xs (not_eq (label x) i ne))

    summed_more : (x : E) (xs : List E) (n : ℕ) → (n ≤ label x → summed n (count (x ∷ xs)) ≡ summed n (count xs)) × (summed n (count (x ∷ xs)) ≤ suc (summed n (count xs)))
    summed_more x xs zero = ((λ _. refl), omega arith)
    summed_more x xs (suc n) =
        let r = summed_more x xs n in (
          (λ l. let a = r.0 (omega arith) in let b = count_else x xs n (λ e. omega arith) in omega arith),
          dite (ℕ_discrete (label x) n)
              (λ e. let a = r.0 (omega arith) in let b = count_here x xs n e in omega arith)
              (λ ne. let a = r.1 in let b = count_else x xs n ne in omega arith),
        )

    summed_none : (n : ℕ) → summed n (count []) ≡ 0
    summed_none zero = refl
    summed_none (suc n) = let r = summed_none n in omega arith

    summed_le : (n : ℕ) (xs : List E) → summed n (count xs) ≤ length xs
    summed_le n [] = let r = summed_none n in omega arith
    summed_le n (x ∷ xs) = let r = summed_le n xs in let m = (summed_more x xs n).1 in omega arith

pub each_label : {E : Type 0} → EachLabelHasItsOwn E
each_label {E} history label n own positions each whole i l =
    let s : (j : ℕ) → j < n → Sub (own j) history = λ j m. stands_sub history 0 (positions j) (own j) (each j m).0 in
    let le : (j : ℕ) → j < n → length (own j) ≤ count label history j = λ j m. sub_le (λ e. label e == j) (own j) history (s j m) (each j m).1 in
    let total : summed n (count label history) ≤ summed n (λ j. length (own j)) = (let t = summed_le label n history in omega arith) in
    let same = sum_same n (λ j. length (own j)) (count label history) le total i l in
    sub_all (λ e. label e == i) (own i) history (s i l) (each i l).1 (sym same)
