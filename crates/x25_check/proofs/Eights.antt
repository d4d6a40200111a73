-- The bytes from an index on, eight at a time.
use Rattle.std.proofs.Common.{◌≡◌, ℕ, suc, ◌+◌, ◌<◌, ◌≤◌, List, ◌∷◌, ◌++◌, length, take, drop, get_or, ap, ◌∙◌, arith, drop-cons}
use Rattle.std.proofs.Math.Seq.{take-add}
use Rattle.x25_check.specs.Eights.{eight_at}

step : (xs : List ℕ) (at next n : ℕ) → next ≡ suc at → at < length xs → take (suc n) (drop at xs) ≡ get_or xs at 0 ∷ take n (drop next xs)
step xs at next n is inside =
    let back : suc at ≡ next = omega arith in
    ap (take (suc n)) (drop-cons xs at 0 inside) ∙ ap (λ (m : ℕ). get_or xs at 0 ∷ take n (drop m xs)) back

pub eight_more : (xs : List ℕ) (at : ℕ) → at + 8 ≤ length xs → take (at + 8) xs ≡ take at xs ++ eight_at at xs
eight_more xs at inside =
    let x = λ (k : ℕ). get_or xs (at + k) 0 in
    take-add at 8 xs
    ∙ ap (λ (t : List ℕ). take at xs ++ t) (
    step xs at (at + 1) 7 (omega arith) (omega arith)
    ∙ ap (λ (t : List ℕ). get_or xs at 0 ∷ t) (
    step xs (at + 1) (at + 2) 6 (omega arith) (omega arith)
    ∙ ap (λ (t : List ℕ). x 1 ∷ t) (
    step xs (at + 2) (at + 3) 5 (omega arith) (omega arith)
    ∙ ap (λ (t : List ℕ). x 2 ∷ t) (
    step xs (at + 3) (at + 4) 4 (omega arith) (omega arith)
    ∙ ap (λ (t : List ℕ). x 3 ∷ t) (
    step xs (at + 4) (at + 5) 3 (omega arith) (omega arith)
    ∙ ap (λ (t : List ℕ). x 4 ∷ t) (
    step xs (at + 5) (at + 6) 2 (omega arith) (omega arith)
    ∙ ap (λ (t : List ℕ). x 5 ∷ t) (
    step xs (at + 6) (at + 7) 1 (omega arith) (omega arith)
    ∙ ap (λ (t : List ℕ). x 6 ∷ t) (
    step xs (at + 7) (at + 8) 0 (omega arith) (omega arith)))))))))
