-- Decimal digits, read from left to right.
use Rattle.std.proofs.Common.{◌≡◌, ℕ, ◌+◌, ◌-◌, ◌*◌, ◌<◌, ◌≤◌, ◌&&◌, ◌==◌, not, false, List, [], ◌∷◌, length, get_or, drop, refl, arith, sym, ◌∙◌, leb, Some, None, drop-cons, add-one, if◌then◌else◌}
use Rattle.std.specs.List.{list_all}
use Rattle.std.proofs.lemmas.Bool.{lt-leb}
use Rattle.scenario_lines.specs.Words.{is_digit, is_numeral, digits_onto, digits_value}

-- two or more bytes are a numeral if the first is a digit but 0, and the others are digits
pub numeral_longer : (word : List ℕ) → 2 ≤ length word
    → is_numeral word ≡ ((is_digit (get_or word 0 0) && not (get_or word 0 0 == 48)) && list_all is_digit (drop 1 word))
numeral_longer [] h = absurd (omega arith)
numeral_longer (d ∷ []) h = absurd (omega arith)
numeral_longer (d ∷ e ∷ more) h = refl

-- digits never make a number smaller
pub digits_onto-ge : (n : ℕ) (ds : List ℕ) → n ≤ digits_onto n ds
digits_onto-ge n [] = omega arith
digits_onto-ge n (d ∷ ds) = omega (arith, digits_onto-ge (n * 10 + (d - 48)) ds)

-- the digits from an index on, taken one by one
pub digits_onto-more : (n : ℕ) (ds : List ℕ) (i : ℕ) → i < length ds
    → digits_onto n (drop i ds) ≡ digits_onto (n * 10 + (get_or ds i 0 - 48)) (drop (i + 1) ds)
digits_onto-more n ds i h = rw (add-one, drop-cons ds i 0) refl

-- a value past the bound, with one more digit, is past it whatever digits follow
pub too_great : (digits : List ℕ) (value high i : ℕ) → digits_onto value (drop i digits) ≡ digits_value digits → i < length digits
    → high < value * 10 + (get_or digits i 0 - 48)
    → None ≡ (if leb (digits_value digits) high then Some (digits_value digits) else None)
too_great digits value high i reached inside past =
    let whole : digits_onto (value * 10 + (get_or digits i 0 - 48)) (drop (i + 1) digits) ≡ digits_value digits =
    sym (digits_onto-more value digits i inside) ∙ reached in
    let least = digits_onto-ge (value * 10 + (get_or digits i 0 - 48)) (drop (i + 1) digits) in
    let above : high < digits_value digits = omega (arith, whole, least) in
    let no : leb (digits_value digits) high ≡ false = lt-leb (digits_value digits) high above in
    rw no refl
