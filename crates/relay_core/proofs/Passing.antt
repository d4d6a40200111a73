-- A frame that waits at one link after another.
use Rattle.std.proofs.Common.{◌≡◌, ◌∙◌, ◌<◌, inl, inr, ℕ, zero, suc, ◌+◌, Bool, true, false, if◌then◌else◌, List, [], ◌∷◌, length, set, slice_get, Some, refl, sym, ap, arith, length-set}
use Rattle.link_table.proofs.Bits.{same_or}
use Rattle.relay_core.specs.Waitings.{WaitingState, WaitsAt, waits}

pub at_none : (goes : ℕ → Bool) (bytes : List ℕ) (queues : List WaitingState) → WaitsAt 0 goes bytes queues queues
at_none goes bytes queues = record {
  same = refl;
  later = λ k l. refl;
  each = λ k waiting l there. absurd (omega (arith, l));
}

got_set : (xs : List WaitingState) (at : ℕ) (x : WaitingState) → at < length xs → slice_get (set xs at x) at ≡ Some x
got_set [] at x l = absurd (omega (arith, l))
got_set (y ∷ xs) zero x l = refl
got_set (y ∷ xs) (suc at) x l = got_set xs at x (omega (arith, l))

got_other : (xs : List WaitingState) (at k : ℕ) (x : WaitingState) → (k ≡ at → ⊥) → slice_get (set xs at x) k ≡ slice_get xs k
got_other [] zero k x apart = refl
got_other [] (suc at) k x apart = refl
got_other (y ∷ xs) zero zero x apart = absurd (apart refl)
got_other (y ∷ xs) zero (suc k) x apart = refl
got_other (y ∷ xs) (suc at) zero x apart = refl
got_other (y ∷ xs) (suc at) (suc k) x apart = got_other xs at k x (λ e. apart (ap suc e))

-- one link more
pub at_more : (at : ℕ) (goes : ℕ → Bool) (bytes : List ℕ) (old queues now : List WaitingState) → at < length queues → goes at ≡ true → ((waiting : WaitingState) → slice_get queues at ≡ Some waiting → now ≡ set queues at (waits bytes waiting)) → WaitsAt at goes bytes old queues → WaitsAt (at + 1) goes bytes old now
at_more at goes bytes old queues now within is pushes w =
    let first = got queues at within in
    let sets = pushes first.0 first.1 in
    record {
      same = ap length sets ∙ (length-set queues at (waits bytes first.0) ∙ w.same);
      later = λ k l. ap (λ (q : List WaitingState). slice_get q k) sets ∙ (got_other queues at k (waits bytes first.0) (λ e. omega (arith, e, l)) ∙ w.later k (omega (arith, l)));
      each = λ k waiting l there. elim (same_or k at) [
        | inl e ↦
            let here : first.0 ≡ waiting = both (sym first.1 ∙ (w.later at (omega arith) ∙ (ap (λ (n : ℕ). slice_get old n) (sym e.0) ∙ there))) in
            ap (λ (n : ℕ). slice_get now n) e.0
            ∙ (ap (λ (q : List WaitingState). slice_get q at) sets
            ∙ (got_set queues at (waits bytes first.0) within
            ∙ (ap (λ (v : WaitingState). Some (waits bytes v)) here
            ∙ sym (ap (λ (b : Bool). Some (if b then waits bytes waiting else waiting)) (ap goes e.0 ∙ is)))))
        | inr e ↦
            ap (λ (q : List WaitingState). slice_get q k) sets ∙ (got_other queues at k (waits bytes first.0) e.0 ∙ w.each k waiting (less k at l e.0) there)
      ];
    }
  where
    got : (xs : List WaitingState) (k : ℕ) → k < length xs → (x : WaitingState) × (slice_get xs k ≡ Some x)
    got [] k l = absurd (omega (arith, l))
    got (x ∷ xs) zero l = (x, refl)
    got (x ∷ xs) (suc k) l = got xs k (omega (arith, l))

    both : {x y : WaitingState} → Some x ≡ Some y → x ≡ y
    both {x} {y} e = cc

    less : (m n : ℕ) → m < n + 1 → (m ≡ n → ⊥) → m < n
    less m n l apart = omega (arith, l, apart)

pub at_same : (at : ℕ) (goes : ℕ → Bool) (bytes : List ℕ) (old queues : List WaitingState) → goes at ≡ false → WaitsAt at goes bytes old queues → WaitsAt (at + 1) goes bytes old queues
at_same at goes bytes old queues is w = record {
  same = w.same;
  later = λ k l. w.later k (omega (arith, l));
  each = λ k waiting l there. elim (same_or k at) [
    | inl e ↦
        w.later k (omega (arith, e.0))
        ∙ (there ∙ sym (ap (λ (b : Bool). Some (if b then waits bytes waiting else waiting)) (ap goes e.0 ∙ is)))
    | inr e ↦ w.each k waiting (less k at l e.0) there
  ];
}
  where
    less : (m n : ℕ) → m < n + 1 → (m ≡ n → ⊥) → m < n
    less m n l apart = omega (arith, l, apart)
