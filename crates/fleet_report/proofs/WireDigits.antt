-- What `{:08x}` writes of a word with its bytes swapped is its text in wire order.
use Rattle.std.proofs.Common.{◌≡◌, ℕ, ◌+◌, ◌-◌, ◌*◌, ◌/◌, ◌%◌, ◌^◌, ◌<◌, false, [], ◌∷◌, refl, ap, ◌∙◌, arith}
use Rattle.std.specs.Int.{w32, swap_bytes}
use Rattle.std.specs.Fmt.{digits, padded_integral, format_spec}
use Rattle.hex.specs.Hex.{encode_lower}
use Rattle.fleet_report.specs.Texts.{big_endian, little_endian, wire_text}
use Rattle.fleet_report.proofs.WordDigits.{word_padded}

-- the bytes of a word, highest first
bytes_of : (a b c d w : ℕ) → a < 256 → b < 256 → c < 256 → d < 256 → w ≡ a * 256 ^ 3 + b * 256 ^ 2 + c * 256 ^ 1 + d
    → big_endian w ≡ a ∷ b ∷ c ∷ d ∷ []
bytes_of a b c d w a_small b_small c_small d_small is =
    let first : w / 16777216 ≡ a = omega (arith, is, a_small, b_small, c_small, d_small) in
    let second : w / 65536 % 256 ≡ b = omega (arith, is, a_small, b_small, c_small, d_small) in
    let third : w / 256 % 256 ≡ c = omega (arith, is, a_small, b_small, c_small, d_small) in
    let last : w % 256 ≡ d = omega (arith, is, a_small, b_small, c_small, d_small) in
    rw (first, second, third, last) refl

bytes_swapped : (w : ℕ) → w < 2 ^ 32 → big_endian (swap_bytes w32 w) ≡ little_endian w
bytes_swapped w small =
    let top : w / 256 ^ 3 % 256 ≡ w / 16777216 = omega (arith, small) in
    bytes_of (w % 256) (w / 256 % 256) (w / 65536 % 256) (w / 16777216) (swap_bytes w32 w)
    (omega arith) (omega arith) (omega arith) (omega (arith, small)) (omega (arith, top))

-- a word with its bytes swapped, padded to eight digits
pub wire_padded : (w s : ℕ) → w < 2 ^ 32 → s < 2 ^ 32 → s ≡ swap_bytes w32 w
    → padded_integral (format_spec 32 0 4 8 (2 ^ 64 - 1)) false [] (digits 16 false s) ≡ wire_text w
wire_padded w s small swapped_small is =
    word_padded s swapped_small ∙ ap encode_lower (ap big_endian is ∙ bytes_swapped w small)
