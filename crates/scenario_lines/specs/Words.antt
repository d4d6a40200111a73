-- The words of a line, and what each of them says.
use Rattle.std.specs.Prelude.{ℕ, ℤ, pos, negsuc, ◌+◌, ◌-◌, ◌*◌, ◌^◌, ◌==◌, ◌&&◌, not, nat_lt, nat_le, Bool, false}
use Rattle.std.specs.Prelude.{if◌then◌else◌, List, [], ◌∷◌, length, Option, Some, None, Ok, Err, slice_index_or}
use Rattle.std.specs.declared.result.Result.{Result}
use Rattle.std.specs.List.{slice_split, list_any, list_all, before_first, after_first}
use Rattle.std.specs.Result.{result_ok}
use Rattle.mav_names.specs.declared.names.Name.{Name}
use Rattle.hex.specs.Hex.{decode_of}

-- words are parted by one space
abbrev pub is_space : ℕ → Bool
is_space b = b == 32

abbrev pub words_of : List ℕ → List (List ℕ)
words_of text = slice_split is_space text

-- the word at an index, from 0
abbrev pub word_at : List (List ℕ) → ℕ → List ℕ
word_at words k = slice_index_or words k []

abbrev pub is_digit : ℕ → Bool
is_digit b = nat_le 48 b && nat_le b 57

-- the number of decimal digits, after those that were read before
abbrev pub digits_onto : ℕ → List ℕ → ℕ
digits_onto n [] = n
digits_onto n (d ∷ ds) = digits_onto (n * 10 + (d - 48)) ds

abbrev pub digits_value : List ℕ → ℕ
digits_value ds = digits_onto 0 ds

-- decimal digits without a leading zero
abbrev pub is_numeral : List ℕ → Bool
is_numeral [] = false
is_numeral (d ∷ []) = is_digit d
is_numeral (d ∷ e ∷ more) = (is_digit d && not (d == 48)) && list_all is_digit (e ∷ more)

-- a whole number within a range
abbrev pub number_in : ℕ → ℕ → List ℕ → Option ℕ
number_in low high word =
    if is_numeral word && (nat_le low (digits_value word) && nat_le (digits_value word) high)
    then Some (digits_value word) else None

-- a whole number of 32 bits, with a leading `-` if it is below 0
abbrev pub negative_of : Option ℕ → Option ℤ
negative_of None = None
negative_of (Some n) = Some (negsuc (n - 1))

abbrev pub positive_of : Option ℕ → Option ℤ
positive_of None = None
positive_of (Some n) = Some (pos n)

abbrev pub integer_of : List ℕ → Option ℤ
integer_of [] = None
integer_of (b ∷ bs) =
    if b == 45 then negative_of (number_in 1 (2 ^ 31) bs) else positive_of (number_in 0 (2 ^ 31 - 1) (b ∷ bs))

-- eight hexadecimal digits, as 32 bits
abbrev pub four_bytes : List ℕ → Option ℕ
four_bytes [] = None
four_bytes (a ∷ []) = None
four_bytes (a ∷ b ∷ []) = None
four_bytes (a ∷ b ∷ c ∷ []) = None
four_bytes (a ∷ b ∷ c ∷ d ∷ []) = Some (((a * 256 + b) * 256 + c) * 256 + d)
four_bytes (a ∷ b ∷ c ∷ d ∷ e ∷ more) = None

abbrev pub decoded : {E : Type 0} → Result (List ℕ) E → Option ℕ
decoded (Ok bytes) = four_bytes bytes
decoded (Err e) = None

abbrev pub wire_word : List ℕ → Option ℕ
wire_word word = decoded (decode_of word)

-- two hexadecimal digits for each of one or more bytes
abbrev pub bytes_word : List ℕ → Option (List ℕ)
bytes_word word = if nat_lt 0 (length word) then result_ok (decode_of word) else None

-- a node's name: system and component, with a point between
abbrev pub is_point : ℕ → Bool
is_point b = b == 46

abbrev pub name_from : Option ℕ → Option ℕ → Option Name
name_from None comp = None
name_from (Some sys) None = None
name_from (Some sys) (Some comp) = Some (record { sys = sys; comp = comp })

abbrev pub name_of_word : List ℕ → Option Name
name_of_word word =
    if list_any is_point word
    then name_from (number_in 0 255 (before_first is_point word)) (number_in 0 255 (after_first is_point word))
    else None
