-- The bytes of words: how many they are, and what a buffer keeps after them.
use Rattle.std.proofs.Common.{◌≡◌, ℕ, zero, suc, ◌+◌, ◌-◌, ◌*◌, ◌/◌, ◌%◌, ◌<◌, ◌≤◌, List, [], ◌∷◌, ◌++◌, length, get_or, take, drop, set, replicate, sym, ap, ◌∙◌, refl, arith}
use Rattle.std.specs.List.{flat_map}
use Rattle.std.proofs.lemmas.List.{drop-set-lt, drop-drop, drop-replicate, length-append, append-nil, take_more}
use Rattle.std.proofs.lemmas.Slice.{drop-put_mid}
use borrow.Rule.Slice.PartMut.{put_mid}
use Rattle.std.proofs.lemmas.List.Concat.{flat_map-append}
use Rattle.field_layout.specs.Payload.{le_bytes}

pub length-le_bytes : (size word : ℕ) → length (le_bytes size word) ≡ size
length-le_bytes zero word = refl
length-le_bytes (suc size) word = ap suc (length-le_bytes size (word / 256))

pub length-word_bytes : (size : ℕ) (words : List ℕ) → length (flat_map (le_bytes size) words) ≡ size * length words
length-word_bytes size [] = grind arith
length-word_bytes size (w ∷ ws) =
    let joined : length (le_bytes size w ++ flat_map (le_bytes size) ws) ≡ length (le_bytes size w) + length (flat_map (le_bytes size) ws) = length-append (le_bytes size w) (flat_map (le_bytes size) ws) in
    let product : size * suc (length ws) ≡ size + size * length ws = omega arith in
    omega (arith, joined, product, length-le_bytes size w, length-word_bytes size ws)

-- one more word's bytes
pub word_bytes_more : (size : ℕ) (words : List ℕ) (i : ℕ) → i < length words → flat_map (le_bytes size) (take (i + 1) words) ≡ flat_map (le_bytes size) (take i words) ++ le_bytes size (get_or words i 0)
word_bytes_more size words i inside =
    let f : ℕ → List ℕ = le_bytes size in
    ap (flat_map f) (take_more words i 0 inside) ∙ (flat_map-append f (take i words) (get_or words i 0 ∷ []) ∙ ap (λ (l : List ℕ). flat_map f (take i words) ++ l) (append-nil (f (get_or words i 0))))

-- the zeros after a buffer's bytes, after one more byte
pub zeros_behind : (bytes : List ℕ) (len byte : ℕ) → drop len bytes ≡ replicate (255 - len) 0 → drop (len + 1) (set bytes len byte) ≡ replicate (255 - (len + 1)) 0
zeros_behind bytes len byte before =
    let fewer : (255 - len) - 1 ≡ 255 - (len + 1) = omega arith in
    drop-set-lt (len + 1) bytes len byte (omega arith) ∙ (sym (drop-drop 1 len bytes) ∙ (ap (drop 1) before ∙ (drop-replicate 1 (255 - len) 0 ∙ ap (λ (n : ℕ). replicate n 0) fewer)))

-- the zeros after a buffer's bytes, after a part more
pub zeros_behind_part : (held part : List ℕ) (len n : ℕ) → len ≤ length held → length part ≡ n → drop len held ≡ replicate (255 - len) 0 → drop (len + n) (put_mid len ((len + n) - len) held part) ≡ replicate (255 - (len + n)) 0
zeros_behind_part held part len n inside size before =
    let fewer : (255 - len) - n ≡ 255 - (len + n) = omega arith in
    let cut : drop n (replicate (255 - len) 0) ≡ replicate (255 - (len + n)) 0 = drop-replicate n (255 - len) 0 ∙ ap (λ (m : ℕ). replicate m 0) fewer in
    let behind : drop (len + n) held ≡ replicate (255 - (len + n)) 0 = sym (drop-drop n len held) ∙ (ap (drop n) before ∙ cut) in
    drop-put_mid len ((len + n) - len) held part (len + n) (omega arith) inside (omega arith) ∙ behind

-- bytes are the words of one byte each
pub bytes_as_words : (bytes : List ℕ) → ((k : ℕ) → get_or bytes k 0 < 256) → flat_map (le_bytes 1) bytes ≡ bytes
bytes_as_words [] small = refl
bytes_as_words (b ∷ bs) small =
    let low : b % 256 ≡ b = omega (arith, small 0) in
    ap (λ (x : ℕ). x ∷ flat_map (le_bytes 1) bs) low ∙ ap (λ (l : List ℕ). b ∷ l) (bytes_as_words bs (λ k. small (suc k)))

-- the lowest byte of a word comes first
pub le_bytes-first : (size k word : ℕ) → k < size → le_bytes (size - k) word ≡ word % 256 ∷ le_bytes (size - (k + 1)) (word / 256)
le_bytes-first size k word more =
    let e : size - k ≡ suc (size - (k + 1)) = omega arith in
    ap (λ (n : ℕ). le_bytes n word) e
