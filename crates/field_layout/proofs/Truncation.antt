-- What truncation keeps and cuts.
use Rattle.std.proofs.Common.{◌≡◌, ◌≢◌, ℕ, zero, suc, ◌+◌, ◌-◌, ◌<◌, ◌≤◌, Bool, true, false, List, [], ◌∷◌, ◌++◌, length, get_or, take, replicate, sym, ap, ◌∙◌, refl, cond, eqb, arith, append_assoc}
use Rattle.std.proofs.lemmas.List.{length-append, length-take-le, replicate-append-replicate, take_more}
use Rattle.std.proofs.Math.Seq.{take-append_seam}
use Rattle.std.proofs.lemmas.Bool.Decides.{nat_tests}
use Rattle.field_layout.specs.Payload.{kept, without_trailing_zeros, truncated}

-- a zero at the end is cut
trim_zero : (xs : List ℕ) → without_trailing_zeros (xs ++ 0 ∷ []) ≡ without_trailing_zeros xs
trim_zero [] = refl
trim_zero (x ∷ xs) = ap (kept x) (trim_zero xs)

kept_push : (x : ℕ) (xs : List ℕ) (y : ℕ) → kept x (xs ++ y ∷ []) ≡ x ∷ (xs ++ y ∷ [])
kept_push x [] y = refl
kept_push x (z ∷ zs) y = refl

-- nothing is cut before another byte at the end
trim_other : (xs : List ℕ) (y : ℕ) → y ≢ 0 → without_trailing_zeros (xs ++ y ∷ []) ≡ xs ++ y ∷ []
trim_other [] y other =
    let test : eqb y 0 ≡ false = grind (arith, nat_tests) in
    ap (λ (b : Bool). cond b [] (y ∷ [])) test
trim_other (x ∷ xs) y other = ap (kept x) (trim_other xs y other) ∙ kept_push x xs y

truncated_zero : (xs : List ℕ) → 0 < length xs → truncated (xs ++ 0 ∷ []) ≡ truncated xs
truncated_zero [] some = absurd (omega arith)
truncated_zero (x ∷ xs) some = ap (λ (l : List ℕ). x ∷ l) (trim_zero xs)

truncated_other : (xs : List ℕ) (y : ℕ) → y ≢ 0 → truncated (xs ++ y ∷ []) ≡ xs ++ y ∷ []
truncated_other [] y other = refl
truncated_other (x ∷ xs) y other = ap (λ (l : List ℕ). x ∷ l) (trim_other xs y other)

truncated_short : (xs : List ℕ) → length xs ≤ 1 → truncated xs ≡ xs
truncated_short [] short = refl
truncated_short (x ∷ []) short = refl
truncated_short (x ∷ y ∷ ys) short = absurd (omega arith)

-- the last of the first `len` elements
last_of : (xs : List ℕ) (len : ℕ) → 1 ≤ len → len ≤ length xs → take len xs ≡ take (len - 1) xs ++ get_or xs (len - 1) 0 ∷ []
last_of xs len some inside =
    let e : len ≡ (len - 1) + 1 = omega arith in
    ap (λ (n : ℕ). take n xs) e ∙ take_more xs (len - 1) 0 (omega arith)

-- one step back over a zero
pub step_back : (xs : List ℕ) (len : ℕ) → 1 < len → len ≤ length xs → get_or xs (len - 1) 0 ≡ 0 → truncated (take (len - 1) xs) ≡ truncated (take len xs)
step_back xs len more inside zero_there =
    let some : 0 < length (take (len - 1) xs) = omega (arith, length-take-le (len - 1) xs (omega arith)) in
    sym (ap truncated (last_of xs len (omega arith) inside ∙ ap (λ (y : ℕ). take (len - 1) xs ++ y ∷ []) zero_there) ∙ truncated_zero (take (len - 1) xs) some)

-- no step is left if the last byte isn't a zero, or is the first
pub stop_other : (xs : List ℕ) (len : ℕ) → 1 ≤ len → len ≤ length xs → get_or xs (len - 1) 0 ≢ 0 → length (truncated (take len xs)) ≡ len
stop_other xs len some inside other =
    let whole : truncated (take len xs) ≡ take len xs = ap truncated (last_of xs len some inside) ∙ (truncated_other (take (len - 1) xs) (get_or xs (len - 1) 0) other ∙ sym (last_of xs len some inside)) in
    ap length whole ∙ length-take-le len xs inside

pub stop_short : (xs : List ℕ) (len : ℕ) → len ≤ 1 → len ≤ length xs → length (truncated (take len xs)) ≡ len
stop_short xs len short inside =
    let taken = length-take-le len xs inside in
    ap length (truncated_short (take len xs) (omega (arith, taken))) ∙ taken

-- ---- zeros after the truncated payload give the payload back

kept_padded : (x : ℕ) (t xs : List ℕ) → xs ≡ t ++ replicate (length xs - length t) 0 → x ∷ xs ≡ kept x t ++ replicate (length (x ∷ xs) - length (kept x t)) 0
kept_padded x [] xs padded =
    elim (eqb x 0) as (λ b. eqb x 0 ≡ b → x ∷ xs ≡ cond b [] (x ∷ []) ++ replicate (suc (length xs) - length (cond b [] (x ∷ []))) 0) [
      | true ↦ λ test.
          let is : x ≡ 0 = grind (arith, nat_tests) in
          let e : suc (length xs) - 0 ≡ suc (length xs - 0) = omega arith in
          rw (is, e) (ap (λ (l : List ℕ). 0 ∷ l) padded)
      | false ↦ λ test.
          let e : suc (length xs) - 1 ≡ length xs - 0 = omega arith in
          rw e (ap (λ (l : List ℕ). x ∷ l) padded)
    ] refl
kept_padded x (y ∷ ys) xs padded =
    let e : suc (length xs) - suc (length (y ∷ ys)) ≡ length xs - length (y ∷ ys) = omega arith in
    rw e (ap (λ (l : List ℕ). x ∷ l) padded)

trimmed_padded : (xs : List ℕ) → xs ≡ without_trailing_zeros xs ++ replicate (length xs - length (without_trailing_zeros xs)) 0
trimmed_padded [] = refl
trimmed_padded (x ∷ xs) = kept_padded x (without_trailing_zeros xs) xs (trimmed_padded xs)

pub truncated_padded : (xs : List ℕ) → xs ≡ truncated xs ++ replicate (length xs - length (truncated xs)) 0
truncated_padded [] = refl
truncated_padded (x ∷ xs) =
    let t = without_trailing_zeros xs in
    let e : suc (length xs) - suc (length t) ≡ length xs - length t = omega arith in
    rw e (ap (λ (l : List ℕ). x ∷ l) (trimmed_padded xs))

pub truncated_le : (xs : List ℕ) → length (truncated xs) ≤ length xs
truncated_le xs =
    let whole : length xs ≡ length (truncated xs) + length (replicate (length xs - length (truncated xs)) 0) = ap length (truncated_padded xs) ∙ length-append (truncated xs) (replicate (length xs - length (truncated xs)) 0) in
    omega (arith, whole)

-- the first byte is kept
pub truncated_some : (xs : List ℕ) → 0 < length xs → 0 < length (truncated xs)
truncated_some [] some = absurd (omega arith)
truncated_some (x ∷ xs) some = omega arith

-- a buffer of `size` bytes holds the same with the payload as with the truncated payload
pub padded_same : (xs : List ℕ) (size : ℕ) → length xs ≤ size → xs ++ replicate (size - length xs) 0 ≡ truncated xs ++ replicate (size - length (truncated xs)) 0
padded_same xs size fits =
    let t = truncated xs in
    let few = length xs - length t in
    let count : few + (size - length xs) ≡ size - length t = omega (arith, truncated_le xs) in
    ap (λ (l : List ℕ). l ++ replicate (size - length xs) 0) (truncated_padded xs) ∙ (append_assoc t (replicate few 0) (replicate (size - length xs) 0) ∙ (ap (λ (l : List ℕ). t ++ l) (replicate-append-replicate few (size - length xs) 0) ∙ ap (λ (n : ℕ). t ++ replicate n 0) count))

-- what is left is at the start
pub taken_truncated : (xs : List ℕ) → take (length (truncated xs)) xs ≡ truncated xs
taken_truncated xs =
    ap (take (length (truncated xs))) (truncated_padded xs) ∙ take-append_seam (truncated xs) (replicate (length xs - length (truncated xs)) 0)

-- ---- zeros at the end can't be distinguished from bytes past the end

zeros_are : (m k : ℕ) → let zero_byte : ℕ = 0 in get_or (replicate m zero_byte) k zero_byte ≡ zero_byte
zeros_are zero k = refl
zeros_are (suc m) zero = refl
zeros_are (suc m) (suc k) = zeros_are m k

zeros_unseen : (xs : List ℕ) (m k : ℕ) → get_or (xs ++ replicate m 0) k 0 ≡ get_or xs k 0
zeros_unseen [] m k = zeros_are m k
zeros_unseen (x ∷ xs) m zero = refl
zeros_unseen (x ∷ xs) m (suc k) = zeros_unseen xs m k

pub truncated_bytes : (xs : List ℕ) (k : ℕ) → get_or (truncated xs) k 0 ≡ get_or xs k 0
truncated_bytes xs k =
    sym (ap (λ (l : List ℕ). get_or l k 0) (truncated_padded xs) ∙ zeros_unseen (truncated xs) (length xs - length (truncated xs)) k)
