-- A payload in a buffer of 255 bytes, zero past its length.
use Rattle.std.specs.Prelude.{◌≡◌, ℕ, ◌-◌, ◌≤◌, List, ◌++◌, length, take, drop, replicate}
use Rattle.std.proofs.Common.{ap, ◌∙◌, sym, arith, take-append-drop, length-take}

pub record IsPadded (len : ℕ) (bytes : List ℕ) : Type 0 where
  pub short : len ≤ 255
  pub whole : length bytes ≡ 255
  pub zeros : drop len bytes ≡ replicate (255 - len) 0

abbrev pub padded : List ℕ → List ℕ
padded xs = xs ++ replicate (255 - length xs) 0

-- a buffer is its payload, padded
pub unpadded : {A : Type 0} (len : ℕ) (bytes : List ℕ) → IsPadded len bytes → (f : ℕ → List ℕ → A)
    → f (length (take len bytes)) (padded (take len bytes)) ≡ f len bytes
unpadded len bytes h f =
    let short = h.short in let whole = h.whole in
    let l : length (take len bytes) ≡ len = omega (arith, length-take len bytes) in
    let e : padded (take len bytes) ≡ bytes = ap
    (λ (n : ℕ). take len bytes ++ replicate (255 - n) 0) l
    ∙ (ap (λ (r : List ℕ). take len bytes ++ r) (sym h.zeros) ∙ take-append-drop len bytes) in
    λ i. f (l i) (e i)
