-- The numbers and bytes of words.
use Rattle.std.specs.Prelude.{◌≡◌, ◌≤◌, ◌&&◌, ◌||◌, nat_le, if◌then◌else◌, ℕ, Bool, List, length, IsTrue, Option, Some}
use Rattle.std.specs.Prelude.{None}
use Rattle.std.specs.List.{list_all}
use Rattle.std.specs.Fmt.{decimal}
use Rattle.std.specs.Str.{bytes_eq}
use Rattle.std.specs.Str.Parse.{digits_value}

-- a whole number of this range, in decimal digits without leading zeros
abbrev pub IsNumber : ℕ → ℕ → List ℕ → Type 0
IsNumber low high word = (n : ℕ) × (word ≡ decimal n) × (low ≤ n) × (n ≤ high)

-- that number, if the word is one
abbrev pub number_within : ℕ → ℕ → ℕ → Option ℕ
number_within low high n = if nat_le low n && nat_le n high then Some n else None

abbrev pub number_in : ℕ → ℕ → List ℕ → Option ℕ
number_in low high word =
    if bytes_eq (decimal (digits_value 10 word)) word then number_within low high (digits_value 10 word) else None

-- a hexadecimal digit, in either case
abbrev pub is_digit : ℕ → Bool
is_digit b = (nat_le 48 b && nat_le b 57) || ((nat_le 65 b && nat_le b 70) || (nat_le 97 b && nat_le b 102))

-- a word of 32 bits, in eight hexadecimal digits
abbrev pub IsWire : List ℕ → Type 0
IsWire word = (length word ≡ 8) × IsTrue (list_all is_digit word)

-- the name of a parameter
abbrev pub is_visible : ℕ → Bool
is_visible b = nat_le 0x21 b && nat_le b 0x7E

abbrev pub IsParameter : List ℕ → Type 0
IsParameter id = (1 ≤ length id) × (length id ≤ 16) × IsTrue (list_all is_visible id)
