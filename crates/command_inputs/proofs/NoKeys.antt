-- Texts that are no key.
use Rattle.std.proofs.Common.{◌≡◌, ◌<◌, ◌*◌, ℕ, List, length, take, drop, refl, ap, ◌∙◌, arith, Result, Ok, Err, None}
use Rattle.std.proofs.lemmas.List.{take_all}
use Rattle.hex.specs.declared.error.FromHexError.{FromHexError}
use Rattle.hex.specs.Hex.{decode_sized}
use Rattle.hex.proofs.HexLemmas.{decode_sized-ok}
use Rattle.command_inputs.specs.KeyText.{key_with, key_of}

short_with : (text : List ℕ) → length text < 64 → (r : Result (List ℕ) FromHexError) → decode_sized text 32 ≡ r → key_with r (drop 64 text) ≡ None
short_with text short (Ok key) is = absurd (let twice : length text ≡ 2 * 32 = decode_sized-ok text 32 key is in omega (arith, short, twice))
short_with text short (Err fault) is = refl

-- fewer than 64 bytes
pub too_short : (text : List ℕ) → length text < 64 → key_of text ≡ None
too_short text short =
    let whole : take 64 text ≡ text = take_all 64 text (omega (arith, short)) in
    ap (λ (digits : List ℕ). key_with (decode_sized digits 32) (drop 64 text)) whole
    ∙ short_with text short (decode_sized text 32) refl
