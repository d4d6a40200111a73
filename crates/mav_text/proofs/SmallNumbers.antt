-- The table of numbers below 256.
use Rattle.std.proofs.Common.{◌≡◌, ℕ, zero, suc, ◌+◌, ◌-◌, ◌/◌, ◌%◌, ◌<◌, ◌≤◌, Bool, true, false, ◌&&◌, T, eqb, nat_lt, if◌then◌else◌, List, [], ◌∷◌, ◌++◌, length, take, get_or, refl, sym, ap, ◌∙◌, arith, eqb→eq}
use lib.Ieee.Fits.{and_l, and_r}
use Rattle.std.specs.Fmt.{decimal}
use Rattle.itoa.proofs.Decimal.{decimal_two, decimal_pair}
use Rattle.std.proofs.lemmas.Fmt.{decimal_digit}
use Rattle.std.proofs.lemmas.Bool.{ltb-true, ltb-false}
use Rattle.mav_text.specs.FrameText.{pair_text}
use Rattle.mav_text.specs.declared.small.TheConstants.{SMALL}

abbrev same : List ℕ → List ℕ → Bool
same [] [] = true
same [] (y ∷ ys) = false
same (x ∷ xs) [] = false
same (x ∷ xs) (y ∷ ys) = eqb x y && same xs ys

same_is : (xs ys : List ℕ) → T (same xs ys) → xs ≡ ys
same_is [] [] t = refl
same_is [] (y ∷ ys) t = absurd t
same_is (x ∷ xs) [] t = absurd t
same_is (x ∷ xs) (y ∷ ys) t =
    let first = eqb→eq x y (and_l _ (same xs ys) t) in
    let others = same_is xs ys (and_r (eqb x y) _ t) in
    λ i. first i ∷ others i

-- the digits of a number below 1,000
abbrev small_text : ℕ → List ℕ
small_text n = if nat_lt n 10 then (48 + n) ∷ [] else if nat_lt n 100 then pair_text n else (48 + n / 100) ∷ pair_text (n % 100)

shown : (n : ℕ) → n < 1000 → small_text n ≡ decimal n
shown n h = ones (nat_lt n 10) refl
  where
    tens : (t : Bool) → nat_lt n 100 ≡ t → 10 ≤ n → (if t then pair_text n else (48 + n / 100) ∷ pair_text (n % 100)) ≡ decimal n
    tens true e low = sym (decimal_two n low (ltb-true n 100 e))
    tens false e low = sym (decimal_pair n (ltb-false n 100 e) (omega arith) ∙ ap (λ (ds : List ℕ). ds ++ pair_text (n % 100)) (decimal_digit (n / 100) (omega arith)))

    ones : (t : Bool) → nat_lt n 10 ≡ t → (if t then (48 + n) ∷ [] else if nat_lt n 100 then pair_text n else (48 + n / 100) ∷ pair_text (n % 100)) ≡ decimal n
    ones true e = sym (decimal_digit n (ltb-true n 10 e))
    ones false e = tens (nat_lt n 100) refl (ltb-false n 10 e)

-- a row of the table
abbrev is_small : List ℕ → ℕ → Bool
is_small row n = same (take (get_or row 3 0) row) (small_text n) && eqb (get_or row 3 0 - 3) 0

abbrev are_small : List (List ℕ) → ℕ → Bool
are_small [] n = true
are_small (row ∷ rows) n = is_small row n && are_small rows (suc n)

small_in : (rows : List (List ℕ)) (d : List ℕ) (first k n : ℕ) → n ≡ first + k → T (are_small rows first) → k < length rows → T (is_small (get_or rows k d) n)
small_in [] d first k n is t h = absurd (omega arith)
small_in (row ∷ rows) d first zero n is t h = let e : n ≡ first = omega arith in rw e (and_l _ (are_small rows (suc first)) t)
small_in (row ∷ rows) d first (suc k) n is t h = small_in rows d (suc first) k n (omega arith) (and_r (is_small row first) _ t) (omega arith)

all_small : T (are_small SMALL 0)
all_small = tt

pub small_few : (d : List ℕ) (n : ℕ) → n < 256 → get_or (get_or SMALL n d) 3 0 ≤ 3
small_few d n h =
    let row : List ℕ = get_or SMALL n d in
    let there : T (is_small row n) = small_in SMALL d 0 n n (omega arith) all_small h in
    let none : get_or row 3 0 - 3 ≡ 0 = eqb→eq (get_or row 3 0 - 3) 0 (and_r (same (take (get_or row 3 0) row) (small_text n)) _ there) in
    omega arith

pub small_shown : (d : List ℕ) (n : ℕ) → n < 256 → take (get_or (get_or SMALL n d) 3 0) (get_or SMALL n d) ≡ decimal n
small_shown d n h =
    let row : List ℕ = get_or SMALL n d in
    let there : T (is_small row n) = small_in SMALL d 0 n n (omega arith) all_small h in
    same_is _ _ (and_l _ (eqb (get_or row 3 0 - 3) 0) there) ∙ shown n (omega arith)
