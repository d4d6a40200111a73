-- The serialised payload, one field after another in wire order.
use Rattle.std.proofs.Common.{◌≡◌, ℕ, zero, suc, ◌+◌, ◌*◌, ◌<◌, ◌≤◌, List, [], ◌∷◌, ◌++◌, length, get_or, take, map, Some, sym, ap, ◌∙◌, refl, subst, arith}
use Rattle.std.specs.Prelude.{slice_get, All}
use Rattle.std.specs.List.{sum_by, flat_map, AllZip, AllByRecursion}
use Rattle.std.proofs.lemmas.Option.{same_Some, none-some}
use Rattle.std.proofs.lemmas.List.{length-append, length-map, get_or-map}
use Rattle.std.proofs.lemmas.List.Elements.{recursion_from_All, All-take}
use Rattle.std.proofs.lemmas.List.Sums.{sum_by-cons, sum_by_more_le}
use Rattle.field_layout.specs.declared.fields.Field.{Field}
use Rattle.field_layout.specs.Types.{element_size}
use Rattle.field_layout.specs.Definition.{Definition, all_fields, size_of, full_len_of}
use Rattle.field_layout.specs.WireOrder.{Placed, place_of, wire_order}
use Rattle.field_layout.specs.Payload.{field_bytes, words_at, serialised, FieldFits, FitsLayout}
use Rattle.field_layout.proofs.Placing.{entry_size, wire_entries, full_len_of_wire}
use Rattle.field_layout.proofs.Walking.{nowhere, field_here, flat_map_more}
use Rattle.field_layout.proofs.Bytes.{length-word_bytes}

-- the bytes of one entry of the wire
abbrev pub entry_bytes : List (List ℕ) → Placed → List ℕ
entry_bytes values entry = field_bytes entry.1 (words_at values entry.0)

fits_in : (fields : List Field) (values : List (List ℕ)) (place : ℕ) (field : Field) → AllZip FieldFits fields values → slice_get fields place ≡ Some field → FieldFits field (words_at values place)
fits_in [] values place field fits there = absurd (none-some field there)
fits_in (f ∷ fs) [] place field fits there = absurd fits
fits_in (f ∷ fs) (v ∷ vs) zero field fits there =
    let P : Field → Type 0 = λ g. FieldFits g v in
    subst P (same_Some f field there) fits.0
fits_in (f ∷ fs) (v ∷ vs) (suc place) field fits there = fits_in fs vs place field fits.1 there

-- the words of the field at an index fit it
pub fits_at : (def : Definition) (values : List (List ℕ)) (place : ℕ) (field : Field) → FitsLayout def values → slice_get (all_fields def) place ≡ Some field → FieldFits field (words_at values place)
fits_at def values place field fits there = fits_in (all_fields def) values place field fits there

-- there are words for each field
pub length-fitting : (fields : List Field) (values : List (List ℕ)) → AllZip FieldFits fields values → length fields ≡ length values
length-fitting [] [] fits = refl
length-fitting [] (v ∷ vs) fits = absurd fits
length-fitting (f ∷ fs) [] fits = absurd fits
length-fitting (f ∷ fs) (v ∷ vs) fits = ap suc (length-fitting fs vs fits.1)

-- values fit if the words at each index do
pub fits_from_places : (fields : List Field) (values : List (List ℕ)) → length fields ≡ length values → ((place : ℕ) (field : Field) → slice_get fields place ≡ Some field → FieldFits field (words_at values place)) → AllZip FieldFits fields values
fits_from_places [] [] same each = tt
fits_from_places [] (v ∷ vs) same each = absurd (omega (arith, same))
fits_from_places (f ∷ fs) [] same each = absurd (omega (arith, same))
fits_from_places (f ∷ fs) (v ∷ vs) same each =
    (each 0 f refl, fits_from_places fs vs (omega (arith, same)) (λ place field there. each (suc place) field there))

length-field_bytes : (field : Field) (words : List ℕ) → FieldFits field words → length (field_bytes field words) ≡ size_of field
length-field_bytes field words fits = length-word_bytes (element_size field.ty) words ∙ ap (λ (n : ℕ). element_size field.ty * n) fits.0

abbrev pub IsWhole : List (List ℕ) → Placed → Type 0
IsWhole values entry = length (entry_bytes values entry) ≡ entry_size entry

-- each entry has as many bytes as its field's size
pub wire_whole : (def : Definition) (values : List (List ℕ)) → FitsLayout def values → All (IsWhole values) (wire_order def)
wire_whole def values fits k d inside =
    let entry = get_or (wire_order def) k d in
    length-field_bytes entry.1 (words_at values entry.0) (fits_at def values entry.0 entry.1 fits (wire_entries def k d inside))

sum_whole : (values : List (List ℕ)) (entries : List Placed) → AllByRecursion (IsWhole values) entries → length (flat_map (entry_bytes values) entries) ≡ sum_by entry_size entries
sum_whole values [] whole = refl
sum_whole values (e ∷ es) whole =
    let joined : length (entry_bytes values e ++ flat_map (entry_bytes values) es) ≡ length (entry_bytes values e) + length (flat_map (entry_bytes values) es) = length-append (entry_bytes values e) (flat_map (entry_bytes values) es) in
    let sums : sum_by entry_size (e ∷ es) ≡ entry_size e + sum_by entry_size es = sum_by-cons entry_size e es in
    let here : length (entry_bytes values e) ≡ entry_size e = whole.0 in
    let rest : length (flat_map (entry_bytes values) es) ≡ sum_by entry_size es = sum_whole values es whole.1 in
    omega (arith, joined, sums, here, rest)

pub length-entries : (values : List (List ℕ)) (entries : List Placed) → All (IsWhole values) entries → length (flat_map (entry_bytes values) entries) ≡ sum_by entry_size entries
length-entries values entries whole = sum_whole values entries (recursion_from_All (IsWhole values) entries whole)

pub length-serialised : (def : Definition) (values : List (List ℕ)) → FitsLayout def values → length (serialised def values) ≡ full_len_of def
length-serialised def values fits = length-entries values (wire_order def) (wire_whole def values fits) ∙ full_len_of_wire def

-- there is room for the next entry
pub room_for : (def : Definition) (values : List (List ℕ)) (i : ℕ) → FitsLayout def values → i < length (wire_order def) → length (flat_map (entry_bytes values) (take i (wire_order def))) + entry_size (get_or (wire_order def) i nowhere) ≤ full_len_of def
room_for def values i fits inside =
    let wire = wire_order def in
    let so_far : length (flat_map (entry_bytes values) (take i wire)) ≡ sum_by entry_size (take i wire) = length-entries values (take i wire) (All-take (IsWhole values) i wire (wire_whole def values fits)) in
    omega (arith, so_far, sum_by_more_le entry_size wire i nowhere inside, full_len_of_wire def)

-- ---- a loop over the fields in wire order, by their indices

pub within_wire : (def : Definition) (order : List ℕ) (i : ℕ) → order ≡ map place_of (wire_order def) → i < length order → i < length (wire_order def)
within_wire def order i in_order inside = omega (arith, ap length in_order, length-map (wire_order def) place_of)

-- the entry at a position of the wire is the field that was found by its index
pub entry_at : (def : Definition) (order : List ℕ) (i : ℕ) (field : Field) → order ≡ map place_of (wire_order def) → i < length order → slice_get (all_fields def) (get_or order i 0) ≡ Some field → get_or (wire_order def) i nowhere ≡ (get_or order i 0, field)
entry_at def order i field in_order inside got =
    let wire = wire_order def in
    let within = within_wire def order i in_order inside in
    let here : slice_get (all_fields def) (get_or (map place_of wire) i 0) ≡ Some field = ap (λ (l : List ℕ). slice_get (all_fields def) (get_or l i 0)) (sym in_order) ∙ got in
    let same : (get_or wire i nowhere).1 ≡ field = field_here def wire i field (wire_entries def) within here in
    let number : (get_or wire i nowhere).0 ≡ get_or order i 0 = sym (ap (λ (l : List ℕ). get_or l i 0) in_order ∙ get_or-map place_of wire i nowhere 0 within) in
    ap (λ (m : ℕ). (m, (get_or wire i nowhere).1)) number ∙ ap (λ (f : Field). (get_or order i 0, f)) same

-- one more field's bytes
pub serialised_more : (def : Definition) (values : List (List ℕ)) (order : List ℕ) (i : ℕ) (field : Field) → order ≡ map place_of (wire_order def) → i < length order → slice_get (all_fields def) (get_or order i 0) ≡ Some field → flat_map (entry_bytes values) (take (i + 1) (wire_order def)) ≡ flat_map (entry_bytes values) (take i (wire_order def)) ++ field_bytes field (words_at values (get_or order i 0))
serialised_more def values order i field in_order inside got =
    flat_map_more (entry_bytes values) (wire_order def) i (within_wire def order i in_order inside) ∙ ap (λ (e : Placed). flat_map (entry_bytes values) (take i (wire_order def)) ++ entry_bytes values e) (entry_at def order i field in_order inside got)

-- and there is room for them
pub room_for_field : (def : Definition) (values : List (List ℕ)) (order : List ℕ) (i : ℕ) (field : Field) → FitsLayout def values → order ≡ map place_of (wire_order def) → i < length order → slice_get (all_fields def) (get_or order i 0) ≡ Some field → length (flat_map (entry_bytes values) (take i (wire_order def))) + element_size field.ty * length (words_at values (get_or order i 0)) ≤ full_len_of def
room_for_field def values order i field fits in_order inside got =
    let room = room_for def values i fits (within_wire def order i in_order inside) in
    let size : entry_size (get_or (wire_order def) i nowhere) ≡ size_of field = ap entry_size (entry_at def order i field in_order inside got) in
    let count : element_size field.ty * length (words_at values (get_or order i 0)) ≡ size_of field = ap (λ (n : ℕ). element_size field.ty * n) (fits_at def values (get_or order i 0) field fits got).0 in
    omega (arith, room, size, count)
