-- Eight hexadecimal digits, as the kit's decoder reads them into four bytes.
use Rattle.std.proofs.Common.{◌≡◌, ℕ, ◌*◌, List, [], ◌∷◌, length, refl, arith, sym, ◌∙◌, inl, inr, None, Ok, Err, Result}
use Rattle.std.specs.Result.{result_ok}
use Rattle.std.proofs.lemmas.Bool.{cases_eq}
use Rattle.hex.specs.declared.error.FromHexError.{FromHexError}
use Rattle.hex.specs.Hex.{decode_of, decode_sized}
use Rattle.hex.proofs.HexLemmas.{decode_of-ok, decode_sized-twice}
use Rattle.scenario_lines.specs.Words.{four_bytes, decoded, wire_word}

-- other than four bytes are no word
four_bytes-other : (bytes : List ℕ) → (length bytes ≡ 4 → ⊥) → four_bytes bytes ≡ None
four_bytes-other [] h = refl
four_bytes-other (a ∷ []) h = refl
four_bytes-other (a ∷ b ∷ []) h = refl
four_bytes-other (a ∷ b ∷ c ∷ []) h = refl
four_bytes-other (a ∷ b ∷ c ∷ d ∷ []) h = absurd (h refl)
four_bytes-other (a ∷ b ∷ c ∷ d ∷ e ∷ more) h = refl

-- a text of another length than eight is no word
wire_word-other : (word : List ℕ) → (length word ≡ 8 → ⊥) → (r : Result (List ℕ) FromHexError) → decode_of word ≡ r → decoded r ≡ None
wire_word-other word h (Err e) was = refl
wire_word-other word h (Ok bytes) was =
    let twice = (decode_of-ok word bytes was).2 in
    four_bytes-other bytes (λ four. h (omega (arith, twice, four)))

-- a decoding into four bytes that fails
refused : (word : List ℕ) (r : Result (List ℕ) FromHexError) → r ≡ decode_sized word 4 → None ≡ result_ok r → (e : FromHexError) × (decode_sized word 4 ≡ Err e)
refused word (Ok bytes) was none = cc
refused word (Err e) was none = (e, sym was)

not_four_bytes : (word : List ℕ) (e : FromHexError) → decode_sized word 4 ≡ Err e → wire_word word ≡ None
not_four_bytes word e h =
    elim (cases_eq (length word) 8) [
      | inl eight ↦
          let twice : length word ≡ 2 * 4 = eight in
          rw (sym (decode_sized-twice word 4 twice) ∙ h) refl
      | inr other ↦ wire_word-other word other (decode_of word) refl
    ]

-- what four bytes don't take is no word
pub no_word : (word : List ℕ) (r : Result (List ℕ) FromHexError) → r ≡ decode_sized word 4 → None ≡ result_ok r → wire_word word ≡ None
no_word word r was none = let found = refused word r was none in not_four_bytes word found.0 found.1
