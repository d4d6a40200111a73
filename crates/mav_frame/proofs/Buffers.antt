-- A payload that is written into a buffer of zeros is padded.
use Rattle.std.proofs.Common.{◌≡◌, ℕ, zero, suc, ◌+◌, ◌-◌, ◌≤◌, List, [], ◌∷◌, ◌++◌, length, drop, replicate, refl, ap, ◌∙◌, arith, length-append, length-drop}
use Rattle.std.proofs.lemmas.List.{length-replicate}
use Rattle.mav_frame.specs.Padding.{IsPadded}

drop_all : (xs ys : List ℕ) → drop (length xs) (xs ++ ys) ≡ ys
drop_all [] ys = refl
drop_all (x ∷ xs) ys = drop_all xs ys

abbrev zeros : ℕ → List ℕ
zeros n = replicate n 0

same_zeros : (m n : ℕ) → m ≡ n → zeros m ≡ zeros n
same_zeros m n e = ap zeros e

drop_zeros : (k n : ℕ) → drop k (zeros n) ≡ zeros (n - k)
drop_zeros zero n = same_zeros n (n - 0) (omega arith)
drop_zeros (suc k) zero = same_zeros 0 (0 - suc k) (omega arith)
drop_zeros (suc k) (suc n) = drop_zeros k n ∙ same_zeros (n - k) (suc n - suc k) (omega arith)

pub pads : (bytes buffer : List ℕ) → length bytes ≤ 255 → buffer ≡ bytes ++ drop (length bytes) (zeros 255) → IsPadded (length bytes) buffer
pads bytes buffer h e =
    let tail : List ℕ = drop (length bytes) (zeros 255) in
    let l : length (zeros 255) ≡ 255 = length-replicate {A = ℕ} 255 0 in
    let d : length tail ≡ length (zeros 255) - length bytes = length-drop (length bytes) (zeros 255) in
    let a : length (bytes ++ tail) ≡ length bytes + length tail = length-append bytes tail in
    record {
      short = h;
      whole = ap length e ∙ (a ∙ omega arith);
      zeros = ap (drop (length bytes)) e ∙ (drop_all bytes tail ∙ drop_zeros (length bytes) 255);
    }
