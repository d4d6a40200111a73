-- The words that are read from a payload are those of the values that it represents.
use Rattle.std.proofs.Common.{◌≡◌, ℕ, zero, suc, ◌+◌, ◌<◌, ◌≤◌, Bool, true, false, if◌then◌else◌, List, [], ◌∷◌, ◌++◌, length, take, get_or, inl, inr, refl, sym, ap, ◌∙◌, subst, arith, zero-add}
use Rattle.std.specs.Prelude.{All}
use Rattle.std.proofs.lemmas.Bool.{cases_lt}
use Rattle.std.proofs.lemmas.List.FromFn.{get_or-map-range_with_len}
use Rattle.field_layout.specs.declared.fields.Field.{Field}
use Rattle.field_layout.specs.Definition.{all_fields, base_len_of}
use Rattle.field_layout.specs.Payload.{words_at}
use Rattle.field_layout.proofs.Decoding.{IsBytes, decoded, decoded_all, decoded_represents}
use Rattle.field_layout.proofs.Unique.{one_list}
use Rattle.field_layout.proofs.Walking.{nowhere}
use Rattle.mav_text.specs.FrameText.{sender_text, version_text, block_text, field_text, fields_text, value_bytes, words_in}
use Rattle.mav_text.specs.TextLaws.{ShowsRepresentedValues}

past_end : (xs : List ℕ) (i : ℕ) → length xs ≤ i → get_or xs i 0 ≡ 0
past_end [] i h = refl
past_end (x ∷ xs) zero h = absurd (omega arith)
past_end (x ∷ xs) (suc i) h = past_end xs i (omega arith)

are_bytes : (xs : List ℕ) → All (λ byte. byte < 256) xs → IsBytes xs
are_bytes xs all i = elim (cases_lt i (length xs)) [ inl inside ↦ all i 0 inside | inr past ↦ let e = past_end xs i past in omega arith ]

prefix_bytes : (n : ℕ) (xs : List ℕ) → IsBytes xs → IsBytes (take n xs)
prefix_bytes zero xs bytes i = omega arith
prefix_bytes (suc n) [] bytes i = omega arith
prefix_bytes (suc n) (x ∷ xs) bytes zero = bytes 0
prefix_bytes (suc n) (x ∷ xs) bytes (suc i) = prefix_bytes n xs (λ j. bytes (suc j)) i

-- what values are read from are bytes
value_are_bytes : (old : Bool) (n : ℕ) (xs : List ℕ) → IsBytes xs → IsBytes (if old then take n xs else xs)
value_are_bytes true n xs bytes = prefix_bytes n xs bytes
value_are_bytes false n xs bytes = bytes

-- fields with the same words have the same texts
same_fields : (w v : ℕ → Field → List ℕ) (number : ℕ) (fields : List Field) → ((k : ℕ) → k < length fields → w (number + k) (get_or fields k nowhere.1) ≡ v (number + k) (get_or fields k nowhere.1)) → fields_text w number fields ≡ fields_text v number fields
same_fields w v number [] same = refl
same_fields w v number (field ∷ fields) same =
    let at : number + 0 ≡ number = omega arith in
    let here : w number field ≡ v number field = subst (λ (n : ℕ). w n field ≡ v n field) at (same 0 (omega arith)) in
    let behind = same_fields w v (number + 1) fields (λ k inside.
    let next : number + suc k ≡ (number + 1) + k = omega arith in
    subst (λ (n : ℕ). w n (get_or fields k nowhere.1) ≡ v n (get_or fields k nowhere.1)) next (same (suc k) (omega arith))) in
    λ i. field_text field (here i) ++ behind i

pub shows_represented_values : ShowsRepresentedValues
shows_represented_values def packet values fits represents =
    let payload = value_bytes (base_len_of def) packet in
    let read = decoded_represents def payload (value_are_bytes packet.old (base_len_of def) packet.payload (are_bytes packet.payload fits.payload)) in
    let one : decoded_all def payload ≡ values = one_list def payload (decoded_all def payload) values read represents in
    let count = length (all_fields def) in
    let same = same_fields (words_in def payload) (λ number field. words_at values number) 0 (all_fields def) (λ k inside.
    let at : 0 + k ≡ k = zero-add k in
    let there : words_at (decoded_all def payload) k ≡ decoded def payload k = get_or-map-range_with_len (decoded def payload) 0 count k k [] inside (zero-add k) in
    let field = get_or (all_fields def) k nowhere.1 in
    subst (λ (n : ℕ). words_in def payload n field ≡ words_at values n) (sym at) (sym there ∙ ap (λ (vs : List (List ℕ)). words_at vs k) one)) in
    λ i. def.name ++ sender_text packet ++ version_text packet.old ++ same i ++ block_text packet.block
