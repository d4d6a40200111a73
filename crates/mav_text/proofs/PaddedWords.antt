-- A payload in a buffer with zeros after it has the same words.
use Rattle.std.proofs.Common.{◌≡◌, ℕ, zero, suc, ◌+◌, ◌-◌, ◌*◌, List, [], ◌∷◌, ◌++◌, get_or, length, take, map, replicate, refl, sym, ap, ◌∙◌, take-append-drop}
use Rattle.std.specs.List.{range_with_len}
use Rattle.field_layout.specs.Types.{element_size}
use Rattle.field_layout.specs.Definition.{Definition, element_count}
use Rattle.field_layout.specs.WireOrder.{offset_of}
use Rattle.field_layout.specs.Reading.{word_from, words_from}
use Rattle.mav_frame.specs.Padding.{IsPadded, padded}
use Rattle.mav_text.specs.FrameText.{words_in}

zeros_are : (m k : ℕ) → let zero_byte : ℕ = 0 in get_or (replicate m zero_byte) k zero_byte ≡ zero_byte
zeros_are zero k = refl
zeros_are (suc m) zero = refl
zeros_are (suc m) (suc k) = zeros_are m k

-- zeros after the end can't be told from bytes past it
zeros_unseen : (xs : List ℕ) (m k : ℕ) → get_or (xs ++ replicate m 0) k 0 ≡ get_or xs k 0
zeros_unseen [] m k = zeros_are m k
zeros_unseen (x ∷ xs) m zero = refl
zeros_unseen (x ∷ xs) m (suc k) = zeros_unseen xs m k

word_padded : (xs : List ℕ) (m at size : ℕ) → word_from (xs ++ replicate m 0) at size ≡ word_from xs at size
word_padded xs m at zero = refl
word_padded xs m at (suc size) = λ i. zeros_unseen xs m at i + 256 * word_padded xs m (at + 1) size i

words_padded : (xs : List ℕ) (m at size count : ℕ) → words_from (xs ++ replicate m 0) at size count ≡ words_from xs at size count
words_padded xs m at size count = λ i. map (λ k. word_padded xs m (at + size * k) size i) (range_with_len 0 count)

-- the words of a field in a padded payload are those in the payload
pub words_in_padded : (def : Definition) (payload : List ℕ) → words_in def (padded payload) ≡ words_in def payload
words_in_padded def payload =
    λ i number field. words_padded payload (255 - length payload) (offset_of def number) (element_size field.ty) (element_count field) i

-- the words of a field in a buffer are those in the payload
pub words_in_buffer : (def : Definition) (len : ℕ) (bytes : List ℕ) → IsPadded len bytes → words_in def bytes ≡ words_in def (take len bytes)
words_in_buffer def len bytes padded =
    let payload : List ℕ = take len bytes in
    let whole : bytes ≡ payload ++ replicate (255 - len) 0 = sym (take-append-drop len bytes) ∙ ap (λ (ys : List ℕ). payload ++ ys) padded.zeros in
    ap (words_in def) whole
    ∙ (λ i number field. words_padded payload (255 - len) (offset_of def number) (element_size field.ty) (element_count field) i)
