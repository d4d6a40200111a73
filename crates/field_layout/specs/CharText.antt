-- How a char or a char array is written.
use Rattle.std.specs.Prelude.{ℕ, ◌+◌, ◌/◌, ◌%◌, ◌==◌, ◌&&◌, Bool, not, nat_lt, nat_le, if◌then◌else◌, List, [], ◌∷◌}
use Rattle.std.specs.Prelude.{◌++◌}

-- a hexadecimal digit, in lower case
abbrev pub hex_digit : ℕ → ℕ
hex_digit nibble = if nat_lt nibble 10 then 48 + nibble else 87 + nibble

-- the two digits of a byte
abbrev pub byte_hex : ℕ → List ℕ
byte_hex byte = hex_digit (byte / 16) ∷ hex_digit (byte % 16) ∷ []

-- a character that is written as it is: printable ASCII, neither a quote nor a backslash
abbrev pub is_plain : ℕ → Bool
is_plain byte = nat_le 32 byte && nat_le byte 126 && not (byte == 34) && not (byte == 92)

-- any other character is `\x` and its two digits
abbrev pub char_text : ℕ → List ℕ
char_text byte = if is_plain byte then byte ∷ [] else 92 ∷ 120 ∷ byte_hex byte

-- the characters up to the first zero
abbrev pub chars_text : List ℕ → List ℕ
chars_text [] = []
chars_text (byte ∷ bytes) = if byte == 0 then [] else char_text byte ++ chars_text bytes

-- the same in double quotes
abbrev pub quoted_text : List ℕ → List ℕ
quoted_text bytes = 34 ∷ chars_text bytes ++ 34 ∷ []
