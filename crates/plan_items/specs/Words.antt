-- The words of the whole numbers from 0 to 70: the bits of the equal IEEE 754 single
-- (IEEE 754-2019, 3.4: a biased exponent and 23 bits of fraction).
use Rattle.std.specs.Prelude.{ℕ, zero, suc, ◌+◌, ◌-◌, ◌*◌, ◌^◌, ◌==◌, nat_le, if◌then◌else◌, Option, Some, None}

-- the greatest exponent up to `most` of a power of two that is not above k
abbrev pub exponent_up_to : ℕ → ℕ → ℕ
exponent_up_to zero k = 0
exponent_up_to (suc most) k = if nat_le (2 ^ suc most) k then suc most else exponent_up_to most k

-- the exponent of the greatest power of two that is not above k, which is below 128
abbrev pub exponent_of : ℕ → ℕ
exponent_of k = exponent_up_to 6 k

-- the word of k: the exponent with its bias 127 above 23 bits of fraction
unfoldable pub small_word_of : ℕ → ℕ
small_word_of k =
    if k == 0 then 0 else (127 + exponent_of k) * 8388608 + (k - 2 ^ exponent_of k) * 2 ^ (23 - exponent_of k)

-- the number up to `most` whose word it is
abbrev pub number_up_to : ℕ → ℕ → Option ℕ
number_up_to zero word = if small_word_of 0 == word then Some 0 else None
number_up_to (suc most) word = if small_word_of (suc most) == word then Some (suc most) else number_up_to most word

-- the number from 0 to 70 whose word it is, if there is one
unfoldable pub word_number : ℕ → Option ℕ
word_number word = number_up_to 70 word
