-- A payload represents one list of values.
use Rattle.std.proofs.Common.{◌≡◌, ℕ, zero, suc, ◌*◌, ◌/◌, ◌%◌, ◌^◌, ◌<◌, List, [], ◌∷◌, ◌++◌, length, get_or, take, drop, sym, ap, ◌∙◌, refl, subst, arith}
use Rattle.std.specs.Prelude.{All}
use Rattle.std.specs.List.{sum_by, flat_map, AllByRecursion}
use Rattle.std.proofs.Math.Nat.{pow-suc}
use Rattle.std.proofs.lemmas.List.{ext_get_or, take_at, drop_at, same_lists, get_or_default}
use Rattle.std.proofs.lemmas.List.Elements.{All-take, recursion_from_All}
use Rattle.std.proofs.lemmas.List.Concat.{flat_map-append}
use Rattle.field_layout.specs.declared.fields.Field.{Field}
use Rattle.field_layout.specs.Types.{element_size}
use Rattle.field_layout.specs.Definition.{Definition, all_fields}
use Rattle.field_layout.specs.WireOrder.{Placed, wire_order}
use Rattle.field_layout.specs.Payload.{le_bytes, field_bytes, words_at, serialised, truncated, FieldFits, FitsLayout, Represents}
use Rattle.field_layout.proofs.Placing.{IsEntry, entry_size, Stands, each_stands}
use Rattle.field_layout.proofs.Bytes.{length-le_bytes, length-word_bytes}
use Rattle.field_layout.proofs.Serialised.{entry_bytes, IsWhole, wire_whole, length-entries, length-serialised, length-fitting, fits_at}
use Rattle.field_layout.proofs.Decoding.{split_entry}
use Rattle.field_layout.proofs.Truncation.{truncated_bytes}

-- ---- two lists in two parts

front_same : (a b c d : List ℕ) → length a ≡ length c → a ++ b ≡ c ++ d → a ≡ c
front_same a b c d same joined =
    sym (take_at a b (length a) refl) ∙ (ap (take (length a)) joined ∙ take_at c d (length a) (sym same))

back_same : (a b c d : List ℕ) → length a ≡ length c → a ++ b ≡ c ++ d → b ≡ d
back_same a b c d same joined =
    sym (drop_at a b (length a) refl) ∙ (ap (drop (length a)) joined ∙ drop_at c d (length a) (sym same))

-- ---- words from their bytes

tail_of : List ℕ → List ℕ
tail_of [] = []
tail_of (x ∷ xs) = xs

same_word : (size v w : ℕ) → v < 256 ^ size → w < 256 ^ size → le_bytes size v ≡ le_bytes size w → v ≡ w
unfolding tail_of
same_word zero v w small_v small_w same = omega arith
same_word (suc size) v w small_v small_w same =
    let power : 256 ^ suc size ≡ 256 ^ size * 256 = pow-suc 256 size in
    let low : v % 256 ≡ w % 256 = ap (λ (l : List ℕ). get_or l 0 0) same in
    let high : v / 256 ≡ w / 256 = same_word size (v / 256) (w / 256) (omega arith) (omega arith) (ap tail_of same) in
    omega arith

same_words : (size : ℕ) (vs ws : List ℕ) → length vs ≡ length ws → AllByRecursion (λ word. word < 256 ^ size) vs → AllByRecursion (λ word. word < 256 ^ size) ws → flat_map (le_bytes size) vs ≡ flat_map (le_bytes size) ws → vs ≡ ws
same_words size [] [] count small_v small_w same = refl
same_words size [] (w ∷ ws) count small_v small_w same = absurd (omega (arith, count))
same_words size (v ∷ vs) [] count small_v small_w same = absurd (omega (arith, count))
same_words size (v ∷ vs) (w ∷ ws) count small_v small_w same =
    let long : length (le_bytes size v) ≡ length (le_bytes size w) = length-le_bytes size v ∙ sym (length-le_bytes size w) in
    let first : v ≡ w = same_word size v w small_v.0 small_w.0 (front_same (le_bytes size v) (flat_map (le_bytes size) vs) (le_bytes size w) (flat_map (le_bytes size) ws) long same) in
    let rest : vs ≡ ws = same_words size vs ws (omega (arith, count)) small_v.1 small_w.1 (back_same (le_bytes size v) (flat_map (le_bytes size) vs) (le_bytes size w) (flat_map (le_bytes size) ws) long same) in
    ap (λ (x : ℕ). x ∷ vs) first ∙ ap (λ (l : List ℕ). w ∷ l) rest

same_field : (field : Field) (vs ws : List ℕ) → FieldFits field vs → FieldFits field ws → field_bytes field vs ≡ field_bytes field ws → vs ≡ ws
same_field field vs ws fits_v fits_w same =
    let P : ℕ → Type 0 = λ word. word < 256 ^ element_size field.ty in
    same_words (element_size field.ty) vs ws (fits_v.0 ∙ sym fits_w.0) (recursion_from_All P vs fits_v.1) (recursion_from_All P ws fits_w.1) same

-- ---- values from their serialised payload

-- the words at each index are the same
same_at : (def : Definition) (v w : List (List ℕ)) → FitsLayout def v → FitsLayout def w → serialised def v ≡ serialised def w → (place : ℕ) → place < length (all_fields def) → words_at v place ≡ words_at w place
same_at def v w fits_v fits_w same place inside =
    let s : Stands def place = each_stands def place inside in
    let a = s.before in
    let e = s.entry in
    let b = s.behind in
    let wire = wire_order def in
    let there : IsEntry def e = split_entry def a e b s.split in
    let parts : (u : List (List ℕ)) → serialised def u ≡ flat_map (entry_bytes u) a ++ (entry_bytes u e ++ flat_map (entry_bytes u) b) = λ u. ap (flat_map (entry_bytes u)) s.split ∙ flat_map-append (entry_bytes u) a (e ∷ b) in
    let front : (u : List (List ℕ)) → FitsLayout def u → length (flat_map (entry_bytes u) a) ≡ sum_by entry_size a = λ u fits.
    (let taken : take (length a) wire ≡ a = ap (take (length a)) s.split ∙ take_at a (e ∷ b) (length a) refl in
    let P : List Placed → Type 0 = λ l. All (IsWhole u) l in
    length-entries u a (subst P taken (All-take (IsWhole u) (length a) wire (wire_whole def u fits)))) in
    let joined : flat_map (entry_bytes v) a ++ (entry_bytes v e ++ flat_map (entry_bytes v) b) ≡ flat_map (entry_bytes w) a ++ (entry_bytes w e ++ flat_map (entry_bytes w) b) = sym (parts v) ∙ (same ∙ parts w) in
    let behind : entry_bytes v e ++ flat_map (entry_bytes v) b ≡ entry_bytes w e ++ flat_map (entry_bytes w) b = back_same (flat_map (entry_bytes v) a) (entry_bytes v e ++ flat_map (entry_bytes v) b) (flat_map (entry_bytes w) a) (entry_bytes w e ++ flat_map (entry_bytes w) b) (front v fits_v ∙ sym (front w fits_w)) joined in
    let fits_here_v : FieldFits e.1 (words_at v e.0) = fits_at def v e.0 e.1 fits_v there in
    let fits_here_w : FieldFits e.1 (words_at w e.0) = fits_at def w e.0 e.1 fits_w there in
    let long : length (entry_bytes v e) ≡ length (entry_bytes w e) = length-word_bytes (element_size e.1.ty) (words_at v e.0) ∙ (ap (λ (n : ℕ). element_size e.1.ty * n) (fits_here_v.0 ∙ sym fits_here_w.0) ∙ sym (length-word_bytes (element_size e.1.ty) (words_at w e.0))) in
    let bytes : entry_bytes v e ≡ entry_bytes w e = front_same (entry_bytes v e) (flat_map (entry_bytes v) b) (entry_bytes w e) (flat_map (entry_bytes w) b) long behind in
    let words : words_at v e.0 ≡ words_at w e.0 = same_field e.1 (words_at v e.0) (words_at w e.0) fits_here_v fits_here_w bytes in
    ap (words_at v) (sym s.there) ∙ (words ∙ ap (words_at w) s.there)

same_values : (def : Definition) (v w : List (List ℕ)) → FitsLayout def v → FitsLayout def w → serialised def v ≡ serialised def w → v ≡ w
same_values def v w fits_v fits_w same =
    let count_v = length-fitting (all_fields def) v fits_v in
    let count_w = length-fitting (all_fields def) w fits_w in
    same_lists v w (sym count_v ∙ count_w) (λ k d inside.
    let in_v : get_or v k d ≡ get_or v k [] = get_or_default v k d [] inside in
    let in_w : get_or w k [] ≡ get_or w k d = get_or_default w k [] d (omega (arith, count_v, count_w)) in
    in_v ∙ (same_at def v w fits_v fits_w same k (omega (arith, count_v)) ∙ in_w))

-- a payload represents at most one list of values
pub one_list : (def : Definition) (payload : List ℕ) (v w : List (List ℕ)) → Represents def payload v → Represents def payload w → v ≡ w
one_list def payload v w of_v of_w =
    let long_v = length-serialised def v of_v.fits in
    let long_w = length-serialised def w of_w.fits in
    same_values def v w of_v.fits of_w.fits (ext_get_or 0 (serialised def v) (serialised def w) (long_v ∙ sym long_w) (λ k inside. sym (of_v.bytes k (omega (arith, long_v))) ∙ of_w.bytes k (omega (arith, long_v))))

-- the truncated payload of values that fit represents them
pub truncated_represents : (def : Definition) (values : List (List ℕ)) → FitsLayout def values → Represents def (truncated (serialised def values)) values
truncated_represents def values fits = record {
  fits = fits;
  bytes = λ k inside. truncated_bytes (serialised def values) k;
}
