-- The target that a payload names is that of the values which it represents.
use Rattle.std.proofs.Common.{◌≡◌, ℕ, zero, suc, ◌+◌, ◌*◌, ◌/◌, ◌&&◌, ◌==◌, Bool, true, false, List, [], ◌∷◌, ◌++◌, Option, Some, None, length, get_or, sym, ap, ◌∙◌, refl, arith, zero-add}
use Rattle.std.specs.Prelude.{slice_get, position, option_map, codes, slice_index, if◌then◌else◌}
use Rattle.std.specs.List.{flat_map}
use Rattle.std.proofs.lemmas.Option.{slice_get-get_or}
use Rattle.std.proofs.lemmas.List.FromFn.{get_or-map-range_with_len}
use Rattle.std.proofs.lemmas.List.Quantifiers.{position-Some}
use Rattle.std.proofs.lemmas.Bool.{and_parts}
use Rattle.std.specs.Str.{bytes_eq}
use Rattle.field_layout.specs.declared.ty.Ty.{Ty}
use Rattle.field_layout.specs.declared.ty.Ty.TheVariants.{I8, U8, Char, I16, U16, I32, U32, I64, U64, F32, F64, Version}
use Rattle.field_layout.specs.declared.fields.Field.{Field}
use Rattle.field_layout.specs.Types.{element_size}
use Rattle.field_layout.specs.Definition.{Definition, all_fields, element_count, size_of}
use Rattle.field_layout.specs.WireOrder.{Placed, wire_order, offset_of}
use Rattle.field_layout.specs.Payload.{le_bytes, field_bytes, words_at, serialised, Represents}
use Rattle.field_layout.specs.Reading.{word_from, words_from}
use Rattle.field_layout.specs.Target.{is_uint8, is_target, target_byte, target_of}
use Rattle.field_layout.proofs.Decoding.{IsBytes, decoded, decoded_all, decoded_represents, place_room}
use Rattle.field_layout.proofs.Unique.{one_list}
use Rattle.field_layout.proofs.Walking.{nowhere}
use Rattle.mav_messages.specs.Targets.{word_or_zero, target_in}
use Rattle.mav_messages.proofs.Decoded.{word_of_byte}

-- ---- a serialised payload is bytes

small_word_bytes : (size word : ℕ) → IsBytes (le_bytes size word)
small_word_bytes zero word k = omega arith
small_word_bytes (suc size) word zero = omega arith
small_word_bytes (suc size) word (suc k) = small_word_bytes size (word / 256) k

small_append : (a b : List ℕ) → IsBytes a → IsBytes b → IsBytes (a ++ b)
small_append [] b of_a of_b k = of_b k
small_append (x ∷ a) b of_a of_b zero = of_a 0
small_append (x ∷ a) b of_a of_b (suc k) = small_append a b (λ i. of_a (suc i)) of_b k

small_parts : {A : Type 0} (f : A → List ℕ) → ((x : A) → IsBytes (f x)) → (xs : List A) → IsBytes (flat_map f xs)
small_parts f each [] k = omega arith
small_parts f each (x ∷ xs) k = small_append (f x) (flat_map f xs) (each x) (small_parts f each xs) k

small_serialised : (def : Definition) (values : List (List ℕ)) → IsBytes (serialised def values)
small_serialised def values =
    small_parts (λ (field : Placed). field_bytes field.1 (words_at values field.0)) (λ field. small_parts (le_bytes (element_size field.1.ty)) (λ word. small_word_bytes (element_size field.1.ty) word) (words_at values field.0)) (wire_order def)

-- ---- a target field is one byte

uint8_size : (ty : Ty) → is_uint8 ty ≡ true → element_size ty ≡ 1
uint8_size I8 is = refl
uint8_size U8 is = refl
uint8_size Char is = refl
uint8_size I16 is = absurd (let wrong : false ≡ true = is in cc)
uint8_size U16 is = absurd (let wrong : false ≡ true = is in cc)
uint8_size I32 is = absurd (let wrong : false ≡ true = is in cc)
uint8_size U32 is = absurd (let wrong : false ≡ true = is in cc)
uint8_size I64 is = absurd (let wrong : false ≡ true = is in cc)
uint8_size U64 is = absurd (let wrong : false ≡ true = is in cc)
uint8_size F32 is = absurd (let wrong : false ≡ true = is in cc)
uint8_size F64 is = absurd (let wrong : false ≡ true = is in cc)
uint8_size Version is = refl

-- ---- the target

target_at : (name : List ℕ) (def : Definition) (payload : List ℕ) (values : List (List ℕ)) → Represents def payload values → (place : Option ℕ) → position (is_target name) (all_fields def) ≡ place → word_or_zero values place ≡ target_byte (option_map (offset_of def) place) payload
target_at name def payload values of None found = refl
target_at name def payload values of (Some place) found =
    let fields = all_fields def in
    let written = serialised def values in
    let at = position-Some (is_target name) fields place nowhere.1 found in
    let field : Field = get_or fields place nowhere.1 in
    let offset : ℕ = offset_of def place in
    let there : slice_get fields place ≡ Some field = slice_get-get_or fields place nowhere.1 at.0 in
    let parts = and_parts (is_uint8 field.ty && field.len == 0) (bytes_eq field.name name) at.1 in
    let kinds = and_parts (is_uint8 field.ty) (field.len == 0) parts.0 in
    let size : element_size field.ty ≡ 1 = uint8_size field.ty kinds.0 in
    let count : element_count field ≡ 1 = ap (λ (b : Bool). if b then 1 else field.len) kinds.1 in
    let product : size_of field ≡ 1 = ap (λ (n : ℕ). n * element_count field) size ∙ (ap (λ (n : ℕ). 1 * n) count ∙ refl) in
    let room = place_room def place field there in
    let small = small_serialised def values in
    let same : values ≡ decoded_all def written = one_list def written values (decoded_all def written) (record { fits = of.fits; bytes = λ k inside. refl }) (decoded_represents def written small) in
    let words : words_at (decoded_all def written) place ≡ words_from written offset (element_size field.ty) (element_count field) = get_or-map-range_with_len (decoded def written) 0 (length fields) place place [] at.0 (zero-add place) in
    let first : slice_index (words_from written offset 1 1) 0 ≡ word_from written offset 1 = ap (λ (n : ℕ). word_from written n 1) (let e : offset + 1 * 0 ≡ offset = omega arith in e) in
    let read : slice_index (words_at values place) 0 ≡ word_from written offset 1 =
    ap (λ (v : List (List ℕ)). slice_index (words_at v place) 0) same ∙ (ap (λ (l : List ℕ). slice_index l 0) words ∙ (ap (λ (n : ℕ). slice_index (words_from written offset n (element_count field)) 0) size ∙ (ap (λ (n : ℕ). slice_index (words_from written offset 1 n) 0) count ∙ first))) in
    read ∙ (word_of_byte written offset ∙ sym (of.bytes offset (omega (arith, room, product))))

-- a payload names the target of the values that it represents
pub targets_agree : (def : Definition) (payload : List ℕ) (values : List (List ℕ)) → Represents def payload values → target_in def values ≡ target_of def payload
targets_agree def payload values of =
    let sys = target_at (codes "target_system") def payload values of (position (is_target (codes "target_system")) (all_fields def)) refl in
    let comp = target_at (codes "target_component") def payload values of (position (is_target (codes "target_component")) (all_fields def)) refl in
    rw (sys, comp) refl
