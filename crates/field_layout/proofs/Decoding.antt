-- What is read from a payload, field by field, has the payload's bytes.
use Rattle.std.proofs.Common.{◌≡◌, ℕ, zero, suc, ◌+◌, ◌*◌, ◌/◌, ◌%◌, ◌^◌, ◌<◌, ◌≤◌, List, [], ◌∷◌, ◌++◌, length, get_or, map, Some, sym, ap, ◌∙◌, refl, subst, lit<, arith, append_assoc, add-zero, zero-add}
use Rattle.std.specs.Prelude.{slice_get, All}
use Rattle.std.specs.List.{sum_by, flat_map, range_with_len}
use Rattle.std.proofs.Math.Nat.{pow-suc, pow-le-pow_right}
use Rattle.std.proofs.lemmas.Option.{get_or_from_slice_get, slice_get_within, same_Some}
use Rattle.std.proofs.lemmas.List.{length-append, map-append, append-nil, get_or_at}
use Rattle.std.proofs.lemmas.List.Elements.{All-from_get_or}
use Rattle.std.proofs.lemmas.List.Concat.{flat_map-append}
use Rattle.std.proofs.lemmas.List.Sums.{sum_by-cons, sum_by_push, sum_by-append}
use Rattle.std.proofs.lemmas.List.FromFn.{length-map-range_with_len, get_or-map-range_with_len}
use Rattle.field_layout.specs.declared.fields.Field.{Field}
use Rattle.field_layout.specs.Types.{element_size}
use Rattle.field_layout.specs.Definition.{Definition, all_fields, element_count, size_of, full_len_of}
use Rattle.field_layout.specs.WireOrder.{Placed, wire_order, offset_of}
use Rattle.field_layout.specs.Payload.{le_bytes, words_at, serialised, FieldFits, FitsLayout, Represents}
use Rattle.field_layout.specs.Reading.{word_from, words_from}
use Rattle.field_layout.proofs.Placing.{IsEntry, entry_size, wire_entries, full_len_of_wire, offset_at_split, Stands, each_stands}
use Rattle.field_layout.proofs.Walking.{nowhere, range_push}
use Rattle.field_layout.proofs.Serialised.{entry_bytes, fits_from_places}

-- each byte of a payload is below 256
abbrev pub IsBytes : List ℕ → Type 0
IsBytes payload = (i : ℕ) → get_or payload i 0 < 256

-- ---- bytes from an offset on

bytes_from : List ℕ → ℕ → ℕ → List ℕ
bytes_from payload at zero = []
bytes_from payload at (suc n) = get_or payload at 0 ∷ bytes_from payload (at + 1) n

bytes_from-add : (payload : List ℕ) (at n m : ℕ) → bytes_from payload at (n + m) ≡ bytes_from payload at n ++ bytes_from payload (at + n) m
unfolding bytes_from
bytes_from-add payload at zero m = rw (zero-add, add-zero) refl
bytes_from-add payload at (suc n) m =
    let e : suc n + m ≡ suc (n + m) = omega arith in
    let f : at + suc n ≡ (at + 1) + n = omega arith in
    rw (e, f) (ap (λ (l : List ℕ). get_or payload at 0 ∷ l) (bytes_from-add payload (at + 1) n m))

length-bytes_from : (payload : List ℕ) (at n : ℕ) → length (bytes_from payload at n) ≡ n
unfolding bytes_from
length-bytes_from payload at zero = refl
length-bytes_from payload at (suc n) = ap suc (length-bytes_from payload (at + 1) n)

get_or-bytes_from : (payload : List ℕ) (at n k : ℕ) → k < n → get_or (bytes_from payload at n) k 0 ≡ get_or payload (at + k) 0
unfolding bytes_from
get_or-bytes_from payload at zero k inside = absurd (omega arith)
get_or-bytes_from payload at (suc n) zero inside = ap (λ (m : ℕ). get_or payload m 0) (sym (add-zero at))
get_or-bytes_from payload at (suc n) (suc k) inside =
    let e : (at + 1) + k ≡ at + suc k = omega arith in
    get_or-bytes_from payload (at + 1) n k (omega arith) ∙ ap (λ (m : ℕ). get_or payload m 0) e

-- ---- a word, and the words of a field

le_bytes_of_word : (payload : List ℕ) → IsBytes payload → (at size : ℕ) → le_bytes size (word_from payload at size) ≡ bytes_from payload at size
unfolding bytes_from
le_bytes_of_word payload bytes at zero = refl
le_bytes_of_word payload bytes at (suc size) =
    let byte = get_or payload at 0 in
    let above = word_from payload (at + 1) size in
    let small : byte < 256 = bytes at in
    let low : (byte + 256 * above) % 256 ≡ byte = omega arith in
    let high : (byte + 256 * above) / 256 ≡ above = omega arith in
    rw (low, high) (ap (λ (l : List ℕ). byte ∷ l) (le_bytes_of_word payload bytes (at + 1) size))

-- a word fits its size
pub word_from_bound : (payload : List ℕ) → IsBytes payload → (at size : ℕ) → word_from payload at size < 256 ^ size
word_from_bound payload bytes at zero = lit< tt
word_from_bound payload bytes at (suc size) =
    let small : get_or payload at 0 < 256 = bytes at in
    let above : word_from payload (at + 1) size < 256 ^ size = word_from_bound payload bytes (at + 1) size in
    omega (arith, small, above, pow-suc 256 size)

bytes_of_words : (payload : List ℕ) → IsBytes payload → (at size count : ℕ) → flat_map (le_bytes size) (words_from payload at size count) ≡ bytes_from payload at (size * count)
unfolding bytes_from
bytes_of_words payload bytes at size zero =
    let e : size * 0 ≡ 0 = omega arith in
    rw e refl
bytes_of_words payload bytes at size (suc n) =
    let word : ℕ → ℕ = λ k. word_from payload (at + size * k) size in
    let f : ℕ → List ℕ = le_bytes size in
    let e : suc n ≡ n + 1 = omega arith in
    let numbers : range_with_len 0 (suc n) ≡ range_with_len 0 n ++ n ∷ [] = ap (range_with_len 0) e ∙ (range_push 0 n ∙ ap (λ (m : ℕ). range_with_len 0 n ++ m ∷ []) (zero-add n)) in
    let last : flat_map f (word n ∷ []) ≡ bytes_from payload (at + size * n) size = append-nil (f (word n)) ∙ le_bytes_of_word payload bytes (at + size * n) size in
    let product : size * suc n ≡ size * n + size = omega arith in
    ap (λ (l : List ℕ). flat_map f (map word l)) numbers ∙ (ap (flat_map f) (map-append word (range_with_len 0 n) (n ∷ [])) ∙ (flat_map-append f (map word (range_with_len 0 n)) (word n ∷ []) ∙ (ap (λ (l : List ℕ). l ++ flat_map f (word n ∷ [])) (bytes_of_words payload bytes at size n) ∙ (ap (λ (l : List ℕ). bytes_from payload at (size * n) ++ l) last ∙ (sym (bytes_from-add payload at (size * n) size) ∙ ap (bytes_from payload at) (sym product))))))

-- ---- the values that are read

-- the words of the field at an index
abbrev pub decoded : Definition → List ℕ → ℕ → List ℕ
decoded def payload place =
    words_from payload (offset_of def place) (element_size (get_or (all_fields def) place nowhere.1).ty) (element_count (get_or (all_fields def) place nowhere.1))

abbrev pub decoded_all : Definition → List ℕ → List (List ℕ)
decoded_all def payload = map (decoded def payload) (range_with_len 0 (length (all_fields def)))

decoded_at : (def : Definition) (payload : List ℕ) (place : ℕ) (field : Field) → slice_get (all_fields def) place ≡ Some field → words_at (decoded_all def payload) place ≡ words_from payload (offset_of def place) (element_size field.ty) (element_count field)
decoded_at def payload place field there =
    let inside = slice_get_within (all_fields def) place field there in
    let is : get_or (all_fields def) place nowhere.1 ≡ field = get_or_from_slice_get (all_fields def) place field nowhere.1 there in
    get_or-map-range_with_len (decoded def payload) 0 (length (all_fields def)) place place [] inside (zero-add place) ∙ ap (λ (f : Field). words_from payload (offset_of def place) (element_size f.ty) (element_count f)) is

words_fit : (payload : List ℕ) → IsBytes payload → (at size count : ℕ) → All (λ word. word < 256 ^ size) (words_from payload at size count)
words_fit payload bytes at size count =
    All-from_get_or (λ word. word < 256 ^ size) (words_from payload at size count) 0 (λ i inside.
    let within : i < count = omega (arith, length-map-range_with_len (λ (k : ℕ). word_from payload (at + size * k) size) 0 count) in
    let P : ℕ → Type 0 = λ word. word < 256 ^ size in
    subst P (sym (get_or-map-range_with_len (λ (k : ℕ). word_from payload (at + size * k) size) 0 count i i 0 within (zero-add i))) (word_from_bound payload bytes (at + size * i) size))

decoded_fits : (def : Definition) (payload : List ℕ) → IsBytes payload → FitsLayout def (decoded_all def payload)
decoded_fits def payload bytes =
    fits_from_places (all_fields def) (decoded_all def payload) (sym (length-map-range_with_len (decoded def payload) 0 (length (all_fields def)))) (λ place field there.
    let P : List ℕ → Type 0 = FieldFits field in
    let size = element_size field.ty in
    let count = element_count field in
    subst P (sym (decoded_at def payload place field there)) (length-map-range_with_len (λ (k : ℕ). word_from payload (offset_of def place + size * k) size) 0 count, words_fit payload bytes (offset_of def place) size count))

-- ---- in wire order

-- an entry of the wire is the field at its index
pub split_entry : (def : Definition) (before : List Placed) (entry : Placed) (behind : List Placed) → wire_order def ≡ before ++ entry ∷ behind → IsEntry def entry
split_entry def before entry behind split =
    let inside : length before < length (wire_order def) = omega (arith, ap length split, length-append before (entry ∷ behind)) in
    let here : get_or (wire_order def) (length before) entry ≡ entry = ap (λ (l : List Placed). get_or l (length before) entry) split ∙ get_or_at before entry behind entry (length before) refl in
    let P : Placed → Type 0 = IsEntry def in
    subst P here (wire_entries def (length before) entry inside)

-- a field ends within the payload
pub place_room : (def : Definition) (place : ℕ) (field : Field) → slice_get (all_fields def) place ≡ Some field → offset_of def place + size_of field ≤ full_len_of def
place_room def place field there =
    let s : Stands def place = each_stands def place (slice_get_within (all_fields def) place field there) in
    let offset : offset_of def place ≡ sum_by entry_size s.before = ap (offset_of def) (sym s.there) ∙ offset_at_split def s.before s.entry s.behind s.split in
    let found : slice_get (all_fields def) place ≡ Some s.entry.1 = ap (slice_get (all_fields def)) (sym s.there) ∙ split_entry def s.before s.entry s.behind s.split in
    let same : s.entry.1 ≡ field = same_Some s.entry.1 field (sym found ∙ there) in
    let size : entry_size s.entry ≡ size_of field = ap size_of same in
    let whole : sum_by entry_size (wire_order def) ≡ sum_by entry_size s.before + sum_by entry_size (s.entry ∷ s.behind) = ap (sum_by entry_size) s.split ∙ sum_by-append entry_size s.before (s.entry ∷ s.behind) in
    let last : sum_by entry_size (s.entry ∷ s.behind) ≡ entry_size s.entry + sum_by entry_size s.behind = sum_by-cons entry_size s.entry s.behind in
    omega (arith, offset, size, whole, last, full_len_of_wire def)

-- the bytes of what was read for the entries from one on are the payload's
read_back : (def : Definition) (payload : List ℕ) → IsBytes payload → (done rest : List Placed) → wire_order def ≡ done ++ rest → flat_map (entry_bytes (decoded_all def payload)) rest ≡ bytes_from payload (sum_by entry_size done) (sum_by entry_size rest)
unfolding bytes_from
read_back def payload bytes done [] split = refl
read_back def payload bytes done (e ∷ es) split =
    let values = decoded_all def payload in
    let at = sum_by entry_size done in
    let words : words_at values e.0 ≡ words_from payload (offset_of def e.0) (element_size e.1.ty) (element_count e.1) = decoded_at def payload e.0 e.1 (split_entry def done e es split) in
    let begins : offset_of def e.0 ≡ at = offset_at_split def done e es split in
    let here : entry_bytes values e ≡ bytes_from payload at (entry_size e) =
    ap (flat_map (le_bytes (element_size e.1.ty))) words ∙ (bytes_of_words payload bytes (offset_of def e.0) (element_size e.1.ty) (element_count e.1) ∙ ap (λ (m : ℕ). bytes_from payload m (size_of e.1)) begins) in
    let on : wire_order def ≡ (done ++ e ∷ []) ++ es = split ∙ sym (append_assoc done (e ∷ []) es) in
    let next : flat_map (entry_bytes values) es ≡ bytes_from payload (at + entry_size e) (sum_by entry_size es) =
    read_back def payload bytes (done ++ e ∷ []) es on ∙ ap (λ (m : ℕ). bytes_from payload m (sum_by entry_size es)) (sum_by_push entry_size done e) in
    ap (λ (l : List ℕ). l ++ flat_map (entry_bytes values) es) here ∙ (ap (λ (l : List ℕ). bytes_from payload at (entry_size e) ++ l) next ∙ (sym (bytes_from-add payload at (entry_size e) (sum_by entry_size es)) ∙ ap (bytes_from payload at) (sym (sum_by-cons entry_size e es))))

serialised_back : (def : Definition) (payload : List ℕ) → IsBytes payload → serialised def (decoded_all def payload) ≡ bytes_from payload 0 (full_len_of def)
serialised_back def payload bytes =
    read_back def payload bytes [] (wire_order def) refl ∙ ap (bytes_from payload 0) (full_len_of_wire def)

-- what is read is what the payload represents
pub decoded_represents : (def : Definition) (payload : List ℕ) → IsBytes payload → Represents def payload (decoded_all def payload)
decoded_represents def payload bytes = record {
  fits = decoded_fits def payload bytes;
  bytes = λ k inside. sym (ap (λ (l : List ℕ). get_or l k 0) (serialised_back def payload bytes) ∙ (get_or-bytes_from payload 0 (full_len_of def) k inside ∙ ap (λ (m : ℕ). get_or payload m 0) (zero-add k)));
}

-- ---- a word that takes one more byte

pub power_bound : (done : ℕ) → done < 8 → 256 ^ suc done ≤ 256 ^ 8
power_bound done small =
    let positive : 0 < 256 = lit< tt in
    let below : suc done ≤ 8 = omega arith in
    pow-le-pow_right positive below
