-- A secret key as text.
use Rattle.std.specs.Prelude.{ℕ, ◌||◌, if◌then◌else◌, Bool, List, [], ◌∷◌, take, drop, Option, Some, None, Result, Ok}
use Rattle.std.specs.Prelude.{Err}
use Rattle.std.specs.Str.{bytes_eq}
use Rattle.hex.specs.Hex.{decode_sized}
use Rattle.hex.specs.declared.error.FromHexError.{FromHexError}

-- LF, CR LF, or nothing
abbrev pub is_line_end : List ℕ → Bool
is_line_end end = bytes_eq end [] || (bytes_eq end (10 ∷ []) || bytes_eq end (13 ∷ 10 ∷ []))

abbrev pub key_with : Result (List ℕ) FromHexError → List ℕ → Option (List ℕ)
key_with (Ok key) end = if is_line_end end then Some key else None
key_with (Err fault) end = None

-- the 32 bytes of 64 hexadecimal digits in either case, and an optional line end
abbrev pub key_of : List ℕ → Option (List ℕ)
key_of text = key_with (decode_sized (take 64 text) 32) (drop 64 text)

-- the key if none is given
abbrev pub default_key : List ℕ
default_key = 0 ∷ 1 ∷ 2 ∷ 3 ∷ 4 ∷ 5 ∷ 6 ∷ 7 ∷ 8 ∷ 9 ∷ 10 ∷ 11 ∷ 12 ∷ 13 ∷ 14 ∷ 15 ∷ 16 ∷ 17 ∷ 18 ∷ 19 ∷ 20 ∷ 21 ∷ 22
    ∷ 23 ∷ 24 ∷ 25 ∷ 26 ∷ 27 ∷ 28 ∷ 29 ∷ 30 ∷ 31 ∷ []

-- an empty text gives the default
abbrev pub key_or_default : List ℕ → Option (List ℕ)
key_or_default [] = Some default_key
key_or_default (byte ∷ bytes) = key_of (byte ∷ bytes)
