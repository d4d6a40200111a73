use Rattle.std.proofs.Common.{◌≡◌, ℕ, ◌+◌, ◌≤◌, zero, suc, List, [], ◌∷◌, ◌++◌, length, slice_get, Option, Some, sym, ap, ◌∙◌, refl, arith}
use Rattle.std.proofs.lemmas.List.{length_push}
use Rattle.std.proofs.lemmas.Result.{err_from_is_err_and}
use Rattle.dialect.specs.Indices.{index_with}
use Rattle.dialect.proofs.low_indices.low_indices.Goals as goal

-- one element more at the end
more : (f : ℕ → Option ℕ) (xs : List (Option ℕ)) (x : Option ℕ) → ((k : ℕ) (y : Option ℕ) → slice_get xs k ≡ Some y → y ≡ f k) → x ≡ f (length xs) → (k : ℕ) (y : Option ℕ) → slice_get (xs ++ x ∷ []) k ≡ Some y → y ≡ f k
more f [] x before here zero y h = let e : x ≡ y = cc in sym e ∙ here
more f [] x before here (suc k) y h = cc
more f (z ∷ zs) x before here zero y h = before zero y h
more f (z ∷ zs) x before here (suc k) y h = more (λ n. f (suc n)) zs x (λ n w e. before (suc n) w e) here k y h

none : (f : ℕ → Option ℕ) (k : ℕ) (y : Option ℕ) → slice_get [] k ≡ Some y → y ≡ f k
none f k y h = cc

counted : (old new : List (Option ℕ)) (x : Option ℕ) (n : ℕ) → new ≡ old ++ x ∷ [] → length old ≡ n → length new ≡ n + 1
counted old new x n e len = ap length e ∙ (length_push old x ∙ ap (λ (k : ℕ). k + 1) len)

kept : (f : ℕ → Option ℕ) (old new : List (Option ℕ)) (x : Option ℕ) (n : ℕ) → new ≡ old ++ x ∷ [] → length old ≡ n → x ≡ f n → ((k : ℕ) (y : Option ℕ) → slice_get old k ≡ Some y → y ≡ f k) → (k : ℕ) (y : Option ℕ) → slice_get new k ≡ Some y → y ≡ f k
kept f old new x n e len here before k y h = more f old x before (here ∙ ap f (sym len)) k y (sym (ap (λ (l : List (Option ℕ)). slice_get l k) e) ∙ h)

at_end : (n i limit : ℕ) → n ≡ i → i ≤ limit → limit ≤ i → n ≡ limit
at_end n i limit e most least = omega arith

pub loop-id-init : goal.loop-id-init
loop-id-init c = rw c.new-indices.ensures.items (record { count = refl; are = none (λ id. index_with id c.args.layouts.now) })

pub loop-id-preserved : goal.loop-id-preserved
loop-id-preserved c = record {
  count = counted c.loop-id.indices.items _ c.index_of.result c.loop-id.id c.in_ok-push.ensures.items c.loop-id.invariant.count;
  are = kept (λ id. index_with id c.args.layouts.now) c.loop-id.indices.items _ c.index_of.result c.loop-id.id c.in_ok-push.ensures.items c.loop-id.invariant.count c.index_of.ensures c.loop-id.invariant.are;
}

pub returns-in_err-push-clause-count : goal.returns-in_err-push-clause-count
returns-in_err-push-clause-count c = rw (err_from_is_err_and c.from_residual.result c.from_residual.ensures.1).1 tt

pub returns-in_err-push-clause-are : goal.returns-in_err-push-clause-are
returns-in_err-push-clause-are c = rw (err_from_is_err_and c.from_residual.result c.from_residual.ensures.1).1 tt

pub returns-clause-count : goal.returns-clause-count
returns-clause-count c = at_end _ c.loop-id.id 1024 c.loop-id.invariant.count c.loop-id.auto.id-end c.loop-id-test.false

pub returns-clause-are : goal.returns-clause-are
returns-clause-are c = c.loop-id.invariant.are
