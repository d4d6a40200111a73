-- Sums over all participants, and facts of each, when one of them changes.
use Rattle.std.proofs.Common.{◌≡◌, ℕ, zero, suc, ◌+◌, ◌≤◌, ◌≢◌, List, [], ◌∷◌, ◌++◌, set, sym, refl, ap, subst, ⊎_elim, arith}
use mathlib.Core.Option.{some, some-injective, some-ne-none}
use lib.ListN.{get_elem?}
use Rattle.turnstile.specs.declared.participant.ParticipantState.{ParticipantState}
use Rattle.turnstile.specs.Invariant.{total, Each}
use Rattle.atomic_table.proofs.Lists.{at_set}

module _ {E : Type 0} where
  pub total_set : (f : ParticipantState E → ℕ) (vs : List (ParticipantState E)) (i : ℕ) (v w : ParticipantState E) → get_elem? vs i ≡ some v → total f (set vs i w) + f v ≡ total f vs + f w
  total_set f [] i v w e = absurd (some-ne-none v (sym e))
  total_set f (x ∷ xs) zero v w e = let is : f x ≡ f v = ap f (some-injective x v e) in omega arith
  total_set f (x ∷ xs) (suc i) v w e = let r = total_set f xs i v w e in omega arith

  pub total_snoc : (f : ParticipantState E → ℕ) (vs : List (ParticipantState E)) (w : ParticipantState E) → total f (vs ++ w ∷ []) ≡ total f vs + f w
  total_snoc f [] w = omega arith
  total_snoc f (x ∷ xs) w = let r = total_snoc f xs w in omega arith

  pub total_le : (f g : ParticipantState E → ℕ) (vs : List (ParticipantState E)) → Each vs (λ _ v. f v ≤ g v) → total f vs ≤ total g vs
  total_le f g [] h = omega arith
  total_le f g (x ∷ xs) h = let a = h 0 x refl in let r = total_le f g xs (λ j v e. h (suc j) v e) in omega arith

  one_le : (f : ParticipantState E → ℕ) (vs : List (ParticipantState E)) (i : ℕ) (v : ParticipantState E) → get_elem? vs i ≡ some v → f v ≤ total f vs
  one_le f [] i v a = absurd (some-ne-none v (sym a))
  one_le f (x ∷ xs) zero v a = let is : f x ≡ f v = ap f (some-injective x v a) in omega arith
  one_le f (x ∷ xs) (suc i) v a = let l = one_le f xs i v a in omega arith

  all_zero : (f : ParticipantState E → ℕ) (vs : List (ParticipantState E)) → ((j : ℕ) (w : ParticipantState E) → get_elem? vs j ≡ some w → f w ≡ 0) → total f vs ≡ 0
  all_zero f [] h = refl
  all_zero f (x ∷ xs) h = let z = h 0 x refl in let r = all_zero f xs (λ j w e. h (suc j) w e) in omega arith

  pub each_set : (P Q : ℕ → ParticipantState E → Type 0) (vs : List (ParticipantState E)) (i : ℕ) (w : ParticipantState E) → Each vs P → Q i w → ((j : ℕ) (v : ParticipantState E) → j ≢ i → get_elem? vs j ≡ some v → P j v → Q j v) → Each (set vs i w) Q
  each_set P Q vs i w all mine others j v e =
      ⊎_elim (λ (t : (j ≡ i) × (w ≡ v)). subst (λ (z : ℕ × ParticipantState E). Q z.0 z.1) (λ k. (sym t.0 k, t.1 k)) mine)
      (λ (t : (j ≢ i) × (get_elem? vs j ≡ some v)). others j v t.0 t.1 (all j v t.1)) (at_set vs i j w v e)

  pub two_le : (f : ParticipantState E → ℕ) (vs : List (ParticipantState E)) (i j : ℕ) (v w : ParticipantState E) → j ≢ i → get_elem? vs i ≡ some v → get_elem? vs j ≡ some w → f v + f w ≤ total f vs
  two_le f [] i j v w ne a b = absurd (some-ne-none v (sym a))
  two_le f (x ∷ xs) zero zero v w ne a b = absurd (ne refl)
  two_le f (x ∷ xs) zero (suc j) v w ne a b = let is : f x ≡ f v = ap f (some-injective x v a) in let l = one_le f xs j w b in omega arith
  two_le f (x ∷ xs) (suc i) zero v w ne a b = let is : f x ≡ f w = ap f (some-injective x w b) in let l = one_le f xs i v a in omega arith
  two_le f (x ∷ xs) (suc i) (suc j) v w ne a b = let l = two_le f xs i j v w (λ e. ne (ap suc e)) a b in omega arith

  pub only_one : (f : ParticipantState E → ℕ) (vs : List (ParticipantState E)) (i : ℕ) (v : ParticipantState E) → get_elem? vs i ≡ some v → ((j : ℕ) (w : ParticipantState E) → j ≢ i → get_elem? vs j ≡ some w → f w ≡ 0) → total f vs ≡ f v
  only_one f [] i v a h = absurd (some-ne-none v (sym a))
  only_one f (x ∷ xs) zero v a h = let is : f x ≡ f v = ap f (some-injective x v a) in let r = all_zero f xs (λ j w e. h (suc j) w (λ n. omega arith) e) in omega arith
  only_one f (x ∷ xs) (suc i) v a h = let z = h 0 x (λ n. omega arith) refl in let r = only_one f xs i v a (λ j w ne e. h (suc j) w (λ n. ne (omega arith)) e) in omega arith
