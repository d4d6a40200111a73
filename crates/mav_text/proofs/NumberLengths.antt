-- How long the texts of numbers are.
use Rattle.std.proofs.Common.{◌≡◌, ℕ, zero, suc, ◌+◌, ◌-◌, ◌*◌, ◌/◌, ◌%◌, ◌^◌, ◌<◌, ◌≤◌, Bool, true, false, nat_lt, if◌then◌else◌, List, ◌∷◌, length, refl, arith, lit<, lit≤, length-append}
use Rattle.std.specs.Fmt.{decimal}
use Rattle.std.proofs.lemmas.Fmt.{length-decimal-le}
use Rattle.std.proofs.lemmas.Bool.{ltb-false}
use Rattle.field_layout.specs.declared.ty.Ty.{Ty}
use Rattle.field_layout.specs.declared.ty.Ty.TheVariants.{I8, U8, Char, I16, U16, I32, U32, I64, U64, F32, F64, Version}
use Rattle.field_layout.specs.Types.{element_size}
use Rattle.mav_text.specs.FrameText.{byte_hex, word_hex, number_text}

hex_length : (size word : ℕ) → length (word_hex size word) ≡ 2 * size
hex_length zero word = refl
hex_length (suc size) word = let l = length-append (word_hex size (word / 256)) (byte_hex (word % 256)) in let h = hex_length size (word / 256) in omega arith

-- a test's two texts are both short
either : (a b : ℕ) (xs ys : List ℕ) (most : ℕ) → length xs ≤ most → (b ≤ a → length ys ≤ most) → length (if nat_lt a b then xs else ys) ≤ most
either a b xs ys most left right = go (nat_lt a b) refl
  where
    go : (t : Bool) → nat_lt a b ≡ t → length (if t then xs else ys) ≤ most
    go true e = left
    go false e = right (ltb-false a b e)

whole_length : (digits full word : ℕ) → 0 < digits → full ≤ 10 ^ digits → full ≤ 2 ^ 64 → word < full → length (decimal word) ≤ digits
whole_length digits full word some fits small inside = length-decimal-le digits word some (omega arith) (omega arith)

signed_length : (digits full half word : ℕ) → 0 < digits → 0 < half → full ≤ 10 ^ digits → full ≤ 2 ^ 64 → word < full → length (if nat_lt word half then decimal word else 45 ∷ decimal (full - word)) ≤ 1 + digits
signed_length digits full half word some above fits small inside =
    either word half (decimal word) (45 ∷ decimal (full - word)) (1 + digits)
    (let l = whole_length digits full word some fits small inside in omega arith)
    (λ h. let l = whole_length digits full (full - word) some fits small (omega arith) in omega arith)

pub number_length : (ty : Ty) (word : ℕ) → word < 256 ^ element_size ty → length (number_text ty word) ≤ 4 * element_size ty
number_length I8 word h = let l = signed_length 3 256 128 word (lit< tt) (lit< tt) (lit≤ tt) (lit≤ tt) h in omega arith
number_length U8 word h = let l = whole_length 3 256 word (lit< tt) (lit≤ tt) (lit≤ tt) h in omega arith
number_length Char word h = let l = whole_length 3 256 word (lit< tt) (lit≤ tt) (lit≤ tt) h in omega arith
number_length Version word h = let l = whole_length 3 256 word (lit< tt) (lit≤ tt) (lit≤ tt) h in omega arith
number_length I16 word h = let l = signed_length 5 (256 ^ 2) (2 ^ 15) word (lit< tt) (lit< tt) (lit≤ tt) (lit≤ tt) h in omega arith
number_length U16 word h = let l = whole_length 5 (256 ^ 2) word (lit< tt) (lit≤ tt) (lit≤ tt) h in omega arith
number_length I32 word h = let l = signed_length 10 (256 ^ 4) (2 ^ 31) word (lit< tt) (lit< tt) (lit≤ tt) (lit≤ tt) h in omega arith
number_length U32 word h = let l = whole_length 10 (256 ^ 4) word (lit< tt) (lit≤ tt) (lit≤ tt) h in omega arith
number_length I64 word h = let l = signed_length 20 (256 ^ 8) (2 ^ 63) word (lit< tt) (lit< tt) (lit≤ tt) (lit≤ tt) h in omega arith
number_length U64 word h = let l = whole_length 20 (256 ^ 8) word (lit< tt) (lit≤ tt) (lit≤ tt) h in omega arith
number_length F32 word h = let l = hex_length 4 word in omega arith
number_length F64 word h = let l = hex_length 8 word in omega arith

pub some_size : (ty : Ty) → 1 ≤ element_size ty
some_size I8 = lit≤ tt
some_size U8 = lit≤ tt
some_size Char = lit≤ tt
some_size Version = lit≤ tt
some_size I16 = lit≤ tt
some_size U16 = lit≤ tt
some_size I32 = lit≤ tt
some_size U32 = lit≤ tt
some_size F32 = lit≤ tt
some_size I64 = lit≤ tt
some_size U64 = lit≤ tt
some_size F64 = lit≤ tt
