-- Words from bytes, and back.
use Rattle.std.proofs.Common.{◌≡◌, ℕ, ℤ, zero, suc, ◌+◌, ◌*◌, ◌^◌, ◌<◌, ◌≤◌, List, [], ◌∷◌, ◌++◌, length, get_or, take, drop, replicate, min, ◌-◌, sym, ap, ◌∙◌, subst, arith, zero-add}
use Rattle.std.specs.Prelude.{All, false, if◌then◌else◌, ◌==◌}
use Rattle.std.proofs.lemmas.Bool.Decides.{nat_tests}
use Rattle.std.specs.List.{AllZip}
use Rattle.std.proofs.lemmas.List.Elements.{All-from_get_or}
use Rattle.std.specs.Int.{Width, cast_unsigned, cast_signed}
use Rattle.std.proofs.lemmas.Int.{of_z-to_z, to_z-of_z}
use Rattle.std.proofs.lemmas.List.{get_or_append_left, get_or-append_right, get_or-replicate, get_or_past, ext_get_or, get_or-take, get_or-drop, length-drop, length-take-le}
use Rattle.std.proofs.lemmas.List.FromFn.{length-map-range_with_len, get_or-map-range_with_len}
use Rattle.std.proofs.Math.Decide.{dec_lt}
use mir.Val.{bits, SFits}
use Rattle.field_layout.specs.declared.fields.Field.{Field}
use Rattle.field_layout.specs.Types.{element_size}
use Rattle.field_layout.specs.Definition.{Definition}
use Rattle.field_layout.specs.Payload.{FieldFits, Represents}
use Rattle.field_layout.specs.Reading.{word_from, words_from}
use Rattle.field_layout.proofs.Decoding.{decoded_all, decoded_represents, word_from_bound}

-- a word of one byte is that byte
pub word_of_byte : (payload : List ℕ) (at : ℕ) → word_from payload at 1 ≡ get_or payload at 0
word_of_byte payload at = omega arith

-- a payload represents the values that are read field by field
pub represents : (def : Definition) (payload : List ℕ) (values : List (List ℕ)) → ((k : ℕ) → get_or payload k 0 < 256) → values ≡ decoded_all def payload → Represents def payload values
represents def payload values small read =
    let P : List (List ℕ) → Type 0 = Represents def payload in
    subst P (sym read) (decoded_represents def payload small)

-- a signed number that was read has the word that was read
pub signed_word : (payload : List ℕ) → ((k : ℕ) → get_or payload k 0 < 256) → (w : Width) (at size : ℕ) (x : ℤ) → 256 ^ size ≡ 2 ^ bits w → cast_unsigned w x ≡ word_from payload at size → cast_unsigned w (cast_signed w (cast_unsigned w x)) ≡ word_from payload at size
signed_word payload small w at size x same read =
    let bound : word_from payload at size < 2 ^ bits w = omega (arith, same, word_from_bound payload small at size) in
    ap (λ (n : ℕ). cast_unsigned w (cast_signed w n)) read ∙ of_z-to_z w (word_from payload at size) bound

-- the bytes of a part are the words of one byte each from its offset on
pub part_as_words : (payload : List ℕ) (at n : ℕ) → at + n ≤ length payload → take n (drop at payload) ≡ words_from payload at 1 n
part_as_words payload at n inside =
    let word : ℕ → ℕ = λ k. word_from payload (at + 1 * k) 1 in
    let long : length (take n (drop at payload)) ≡ n = length-take-le n (drop at payload) (omega (arith, length-drop at payload)) in
    let count : length (words_from payload at 1 n) ≡ n = length-map-range_with_len word 0 n in
    ext_get_or 0 (take n (drop at payload)) (words_from payload at 1 n) (long ∙ sym count) (λ k below.
    let within : k < n = omega (arith, long) in
    let place : at + k ≡ at + 1 * k = omega arith in
    get_or-take n (drop at payload) k 0 within ∙ (get_or-drop at payload k 0 ∙ (ap (λ (m : ℕ). get_or payload m 0) place ∙ (sym (word_of_byte payload (at + 1 * k)) ∙ sym (get_or-map-range_with_len word 0 n k k 0 within (zero-add k))))))

-- the word of a signed number as it is passed on
pub passed_word : (w : Width) (z : ℤ) → SFits w z → cast_unsigned w (cast_signed w (cast_unsigned w z)) ≡ cast_unsigned w z
passed_word w z fits = ap (cast_unsigned w) (to_z-of_z w z fits)

-- the words of a field, of which `len` says how many and whether it is an array, are in the range of their size
abbrev pub InRange : ℕ → ℕ → List ℕ → Type 0
InRange zero size words = (length words ≡ 1) × (get_or words 0 0 < 256 ^ size)
InRange (suc n) size words = (length words ≡ suc n) × ((k : ℕ) → get_or words k 0 < 256 ^ size)

words_fit : (len size : ℕ) (words : List ℕ) → InRange len size words → (length words ≡ (if len == 0 then 1 else len)) × All (λ word. word < 256 ^ size) words
words_fit zero size words ranges = (
  ranges.0,
  All-from_get_or (λ word. word < 256 ^ size) words 0 (λ k inside.
      let first : k ≡ 0 = omega (arith, ranges.0) in
      rw first ranges.1),
)
words_fit (suc n) size words ranges =
    let other : (suc n == 0) ≡ false = grind (arith, nat_tests) in
    (rw other ranges.0, All-from_get_or (λ word. word < 256 ^ size) words 0 (λ k inside. ranges.1 k))

-- the words of each field are
abbrev pub AllInRange : List Field → List (List ℕ) → Type 0
AllInRange [] [] = Unit {0}
AllInRange [] (words ∷ rest) = ⊥
AllInRange (field ∷ fields) [] = ⊥
AllInRange (field ∷ fields) (words ∷ rest) = InRange field.len (element_size field.ty) words × AllInRange fields rest

pub fits_layout : (fields : List Field) (values : List (List ℕ)) → AllInRange fields values → AllZip FieldFits fields values
fits_layout [] [] ranges = tt
fits_layout [] (words ∷ rest) ranges = absurd ranges
fits_layout (field ∷ fields) [] ranges = absurd ranges
fits_layout (field ∷ fields) (words ∷ rest) ranges =
    (words_fit field.len (element_size field.ty) words ranges.0, fits_layout fields rest ranges.1)

-- ---- the start of a payload with zeros after it

padded_inside : (payload part : List ℕ) (len k : ℕ) → part ≡ take len payload → length part ≡ len → k < len → get_or (part ++ drop len (replicate 255 0)) k 0 ≡ get_or payload k 0
padded_inside payload part len k front long inside =
    get_or_append_left part (drop len (replicate 255 0)) 0 k (omega arith) ∙ (ap (λ (l : List ℕ). get_or l k 0) front ∙ get_or-take len payload k 0 inside)

padded_past : (payload part : List ℕ) (len k : ℕ) → length part ≡ len → length payload ≤ k → len ≤ k → k < 255 → get_or (part ++ drop len (replicate 255 0)) k 0 ≡ get_or payload k 0
padded_past payload part len k long ended past small =
    get_or-append_right part (drop len (replicate 255 0)) len k 0 long past ∙ (get_or-drop len (replicate 255 0) (k - len) 0 ∙ (get_or-replicate 255 (len + (k - len)) 0 0 (omega arith) ∙ sym (get_or_past payload k 0 ended)))

pub padded_front : (payload part : List ℕ) (len : ℕ) → part ≡ take len payload → len ≡ min (length payload) 255 → (k : ℕ) → k < 255 → get_or (part ++ drop len (replicate 255 0)) k 0 ≡ get_or payload k 0
padded_front payload part len front count k small =
    let long : length part ≡ len = ap length front ∙ length-take-le len payload (omega arith) in
    elim (dec_lt k len) [
      | yes inside ↦ padded_inside payload part len k front long inside
      | no outside ↦ padded_past payload part len k long (omega arith) (omega arith) small
    ]
