-- A loop over the fields in wire order, by their indices: the entry at a position, and the sizes still to come.
use Rattle.std.proofs.Common.{◌≡◌, ◌≢◌, ℕ, zero, suc, ◌+◌, ◌-◌, ◌<◌, ◌≤◌, ◌==◌, not, Bool, true, false, List, [], ◌∷◌, ◌++◌, length, get_or, take, drop, map, Some, sym, ap, ◌∙◌, refl, cond, arith, eqb, append_assoc, add-zero, zero-add}
use Rattle.std.specs.Prelude.{slice_get, filter, take_while, All}
use Rattle.std.specs.List.{sum_by, prefix_len, flat_map, enumerate_from, range_with_len}
use Rattle.std.proofs.lemmas.Option.{slice_get_within, same_Some}
use Rattle.std.proofs.lemmas.List.{append-nil, map-append, get_or-map, length-map, drop_more, drop_all, take_more}
use Rattle.std.proofs.lemmas.List.Elements.{filter_more}
use Rattle.std.proofs.lemmas.List.Concat.{flat_map-append}
use Rattle.std.proofs.lemmas.List.Sums.{sum_by-cons, sum_by-take-le}
use Rattle.std.proofs.lemmas.List.FromFn.{length-enumerate_from, get_or-enumerate_from, length-map-range_with_len, get_or-map-range_with_len}
use Rattle.std.proofs.lemmas.Bool.Decides.{nat_tests}
use Rattle.x25_check.specs.Check.{check, check_from}
use Rattle.x25_check.proofs.Parts.{check_from-append}
use Rattle.field_layout.specs.declared.ty.Ty.TheVariants.{U8}
use Rattle.field_layout.specs.declared.fields.Field.{Field}
use Rattle.field_layout.specs.Types.{element_size}
use Rattle.field_layout.specs.Definition.{Definition, all_fields, size_of, full_len_of}
use Rattle.field_layout.specs.WireOrder.{Placed, place_of, of_size, base_order, wire_order, offset_of}
use Rattle.field_layout.specs.CrcExtra.{spaced, field_text}
use Rattle.field_layout.proofs.Placing.{IsEntry, entry_size, places_from, base_order_entries, wire_entries, full_len_of_wire}

-- a placeholder entry, for a position past the end
abbrev pub nowhere : Placed
nowhere = (0, record { ty = U8; len = 0; name = [] })

-- the index at a position of the wire is that of a field
pub place_in_range : (def : Definition) (entries : List Placed) (k : ℕ) → All (IsEntry def) entries → k < length entries → get_or (map place_of entries) k 0 < length (all_fields def)
place_in_range def entries k all inside =
    rw (get_or-map place_of entries k nowhere 0 inside) (slice_get_within (all_fields def) (get_or entries k nowhere).0 (get_or entries k nowhere).1 (all k nowhere inside))

-- and the entry there holds that field
pub field_here : (def : Definition) (entries : List Placed) (k : ℕ) (field : Field) → All (IsEntry def) entries → k < length entries → slice_get (all_fields def) (get_or (map place_of entries) k 0) ≡ Some field → (get_or entries k nowhere).1 ≡ field
field_here def entries k field all inside got =
    let same : get_or (map place_of entries) k 0 ≡ (get_or entries k nowhere).0 = get_or-map place_of entries k nowhere 0 inside in
    same_Some (get_or entries k nowhere).1 field (sym (all k nowhere inside) ∙ (ap (slice_get (all_fields def)) (sym same) ∙ got))

-- ---- the sizes before an index, of the entries still to come

abbrev pub rest_size : ℕ → List Placed → ℕ
rest_size place entries = sum_by entry_size (take_while (λ (field : Placed). not (field.0 == place)) entries)

rest_size_more : (place : ℕ) (p : Placed) (entries : List Placed) → p.0 ≢ place → rest_size place (p ∷ entries) ≡ entry_size p + rest_size place entries
rest_size_more place p entries differs =
    let test : Placed → Bool = λ field. not (field.0 == place) in
    let fails : eqb p.0 place ≡ false = grind (arith, nat_tests) in
    let passes : test p ≡ true = rw fails refl in
    let longer : 1 + prefix_len test entries ≡ suc (prefix_len test entries) = omega arith in
    rw (passes, longer) (sum_by-cons entry_size p (take_while test entries))

rest_size_stop : (place : ℕ) (p : Placed) (entries : List Placed) → p.0 ≡ place → rest_size place (p ∷ entries) ≡ 0
rest_size_stop place p entries same =
    let test : Placed → Bool = λ field. not (field.0 == place) in
    let equal : eqb p.0 place ≡ true = grind (arith, nat_tests) in
    let fails : test p ≡ false = rw equal refl in
    rw fails refl

-- no offset is above the payload's length
pub offset_bound : (def : Definition) (place : ℕ) → offset_of def place ≤ full_len_of def
offset_bound def place =
    omega (arith, sum_by-take-le entry_size (wire_order def) (prefix_len (λ (field : Placed). not (field.0 == place)) (wire_order def)), full_len_of_wire def)

-- one entry on, at another index
pub offset_step : (def : Definition) (order : List ℕ) (place i sum : ℕ) (field : Field) → order ≡ map place_of (wire_order def) → sum + rest_size place (drop i (wire_order def)) ≡ offset_of def place → i < length order → slice_get (all_fields def) (get_or order i 0) ≡ Some field → get_or order i 0 ≢ place → (sum + size_of field) + rest_size place (drop (i + 1) (wire_order def)) ≡ offset_of def place
offset_step def order place i sum field in_order so_far inside got differs =
    let wire = wire_order def in
    let within : i < length wire = omega (arith, ap length in_order, length-map wire place_of) in
    let here : slice_get (all_fields def) (get_or (map place_of wire) i 0) ≡ Some field = ap (λ (l : List ℕ). slice_get (all_fields def) (get_or l i 0)) (sym in_order) ∙ got in
    let same : (get_or wire i nowhere).1 ≡ field = field_here def wire i field (wire_entries def) within here in
    let number : get_or order i 0 ≡ (get_or wire i nowhere).0 = ap (λ (l : List ℕ). get_or l i 0) in_order ∙ get_or-map place_of wire i nowhere 0 within in
    let other : (get_or wire i nowhere).0 ≢ place = λ e. differs (number ∙ e) in
    let next : rest_size place (drop i wire) ≡ entry_size (get_or wire i nowhere) + rest_size place (drop (i + 1) wire) = ap (rest_size place) (drop_more wire i nowhere within) ∙ rest_size_more place (get_or wire i nowhere) (drop (i + 1) wire) other in
    omega (arith, next, so_far, ap size_of same)

-- the entry of the index itself
pub offset_found : (def : Definition) (order : List ℕ) (place i sum : ℕ) → order ≡ map place_of (wire_order def) → sum + rest_size place (drop i (wire_order def)) ≡ offset_of def place → i < length order → get_or order i 0 ≡ place → sum ≡ offset_of def place
offset_found def order place i sum in_order so_far inside found =
    let wire = wire_order def in
    let within : i < length wire = omega (arith, ap length in_order, length-map wire place_of) in
    let number : get_or order i 0 ≡ (get_or wire i nowhere).0 = ap (λ (l : List ℕ). get_or l i 0) in_order ∙ get_or-map place_of wire i nowhere 0 within in
    let stop : rest_size place (drop i wire) ≡ 0 = ap (rest_size place) (drop_more wire i nowhere within) ∙ rest_size_stop place (get_or wire i nowhere) (drop (i + 1) wire) (sym number ∙ found) in
    omega (arith, stop, so_far)

-- past the last entry
pub offset_ended : (def : Definition) (order : List ℕ) (place i sum : ℕ) → order ≡ map place_of (wire_order def) → sum + rest_size place (drop i (wire_order def)) ≡ offset_of def place → length order ≤ i → sum ≡ offset_of def place
offset_ended def order place i sum in_order so_far past =
    let wire = wire_order def in
    let none : drop i wire ≡ [] = drop_all i wire (omega (arith, ap length in_order, length-map wire place_of)) in
    let stop : rest_size place (drop i wire) ≡ 0 = ap (rest_size place) none in
    omega (arith, stop, so_far)

-- ---- lists of indices that grow by one

-- the fields of one size among one more field
pub places_more : (fields : List Field) (size i : ℕ) (field : Field) → i < length fields → get_or fields i field ≡ field → of_size size (take (i + 1) (enumerate_from 0 fields)) ≡ of_size size (take i (enumerate_from 0 fields)) ++ cond (element_size field.ty == size) ((i, field) ∷ []) []
places_more fields size i field inside is =
    let placed = enumerate_from 0 fields in
    let test : Placed → Bool = λ f. element_size f.1.ty == size in
    let within : i < length placed = omega (arith, length-enumerate_from 0 fields) in
    let here : get_or placed i (0, field) ≡ (i, field) = get_or-enumerate_from 0 fields i (0, field) inside ∙ (ap (λ (m : ℕ). (m, get_or fields i field)) (zero-add i) ∙ ap (λ (f : Field). (i, f)) is) in
    filter_more test placed i (0, field) within ∙ ap (λ (p : Placed). filter test (take i placed) ++ cond (test p) (p ∷ []) []) here

pub range_push : (a n : ℕ) → range_with_len a (n + 1) ≡ range_with_len a n ++ (a + n) ∷ []
range_push a zero = ap (λ (m : ℕ). m ∷ []) (sym (add-zero a))
range_push a (suc n) =
    let e : suc n + 1 ≡ suc (n + 1) = omega arith in
    let f : a + suc n ≡ (a + 1) + n = omega arith in
    rw (e, f) (ap (λ (l : List ℕ). a ∷ l) (range_push (a + 1) n))

-- one more entry's part of a text
pub flat_map_more : (f : Placed → List ℕ) (entries : List Placed) (i : ℕ) → i < length entries → flat_map f (take (i + 1) entries) ≡ flat_map f (take i entries) ++ f (get_or entries i nowhere)
flat_map_more f entries i inside =
    ap (flat_map f) (take_more entries i nowhere inside) ∙ (flat_map-append f (take i entries) (get_or entries i nowhere ∷ []) ∙ ap (λ (l : List ℕ). flat_map f (take i entries) ++ l) (append-nil (f (get_or entries i nowhere))))

-- a field of that size adds its index
pub places_taken : (fields : List Field) (size i : ℕ) (field : Field) → i < length fields → get_or fields i field ≡ field → element_size field.ty ≡ size → map place_of (of_size size (take (i + 1) (enumerate_from 0 fields))) ≡ map place_of (of_size size (take i (enumerate_from 0 fields))) ++ i ∷ []
places_taken fields size i field inside is fits =
    let before = of_size size (take i (enumerate_from 0 fields)) in
    let passes : (element_size field.ty == size) ≡ true = grind (arith, nat_tests) in
    ap (map place_of) (places_more fields size i field inside is) ∙ (ap (λ (b : Bool). map place_of (before ++ cond b ((i, field) ∷ []) [])) passes ∙ map-append place_of before ((i, field) ∷ []))

-- a field of another size adds none
pub places_left : (fields : List Field) (size i : ℕ) (field : Field) → i < length fields → get_or fields i field ≡ field → element_size field.ty ≢ size → map place_of (of_size size (take (i + 1) (enumerate_from 0 fields))) ≡ map place_of (of_size size (take i (enumerate_from 0 fields)))
places_left fields size i field inside is differs =
    let before = of_size size (take i (enumerate_from 0 fields)) in
    let fails : (element_size field.ty == size) ≡ false = grind (arith, nat_tests) in
    ap (map place_of) (places_more fields size i field inside is) ∙ (ap (λ (b : Bool). map place_of (before ++ cond b ((i, field) ∷ []) [])) fails ∙ ap (map place_of) (append-nil before))

-- the numbers from n up to one more
pub range_to : (n k : ℕ) → n ≤ k → range_with_len n ((k + 1) - n) ≡ range_with_len n (k - n) ++ k ∷ []
range_to n k above =
    let longer : (k + 1) - n ≡ (k - n) + 1 = omega arith in
    let last : n + (k - n) ≡ k = omega arith in
    ap (range_with_len n) longer ∙ (range_push n (k - n) ∙ ap (λ (m : ℕ). range_with_len n (k - n) ++ m ∷ []) last)

-- the indices of the whole wire are those of the base fields, and then the extensions' in order
pub wire_places : (def : Definition) → map place_of (wire_order def) ≡ map place_of (base_order def) ++ range_with_len (length def.fields) (length def.extensions)
wire_places def =
    map-append place_of (base_order def) (enumerate_from (length def.fields) def.extensions) ∙ ap (λ (l : List ℕ). map place_of (base_order def) ++ l) (places_from (length def.fields) def.extensions)

-- one more base field's text
pub crc_step : (def : Definition) (base : List ℕ) (i register : ℕ) (field : Field) → base ≡ map place_of (base_order def) → i < length base → register ≡ check (spaced def.name ++ flat_map (λ (f : Placed). field_text f.1) (take i (base_order def))) → slice_get (all_fields def) (get_or base i 0) ≡ Some field → check_from register (field_text field) ≡ check (spaced def.name ++ flat_map (λ (f : Placed). field_text f.1) (take (i + 1) (base_order def)))
crc_step def base i register field in_order inside so_far got =
    let entries = base_order def in
    let text : Placed → List ℕ = λ f. field_text f.1 in
    let name = spaced def.name in
    let within : i < length entries = omega (arith, ap length in_order, length-map entries place_of) in
    let here : slice_get (all_fields def) (get_or (map place_of entries) i 0) ≡ Some field = ap (λ (l : List ℕ). slice_get (all_fields def) (get_or l i 0)) (sym in_order) ∙ got in
    let same : (get_or entries i nowhere).1 ≡ field = field_here def entries i field (base_order_entries def) within here in
    let more : flat_map text (take (i + 1) entries) ≡ flat_map text (take i entries) ++ field_text field = flat_map_more text entries i within ∙ ap (λ (f : Field). flat_map text (take i entries) ++ field_text f) same in
    let regroup : name ++ flat_map text (take (i + 1) entries) ≡ (name ++ flat_map text (take i entries)) ++ field_text field = ap (λ (l : List ℕ). name ++ l) more ∙ sym (append_assoc name (flat_map text (take i entries)) (field_text field)) in
    ap (λ (r : ℕ). check_from r (field_text field)) so_far ∙ (sym (check_from-append 0xFFFF (name ++ flat_map text (take i entries)) (field_text field)) ∙ ap check (sym regroup))

-- ---- the table of offsets

abbrev pub offsets_of : Definition → List ℕ
offsets_of def = map (offset_of def) (range_with_len 0 (length (all_fields def)))

pub length-offsets : (def : Definition) → length (offsets_of def) ≡ length (all_fields def)
length-offsets def = length-map-range_with_len (offset_of def) 0 (length (all_fields def))

pub offset_in_table : (def : Definition) (place : ℕ) → place < length (all_fields def) → get_or (offsets_of def) place 0 ≡ offset_of def place
offset_in_table def place inside =
    get_or-map-range_with_len (offset_of def) 0 (length (all_fields def)) place place 0 inside (zero-add place)
