-- The wire order holds each field once, with its index; so an offset is the sum of the sizes before a field.
use Rattle.std.proofs.Common.{◌≡◌, ◌⊎◌, inl, inr, ℕ, zero, suc, ◌+◌, ◌<◌, ◌==◌, not, Bool, true, false, List, [], ◌∷◌, ◌++◌, length, get_or, take, drop, map, Some, sym, ap, ◌∙◌, refl, cond, subst, arith, eqb, append_assoc, add-zero, zero-add}
use Rattle.std.specs.Prelude.{slice_get, take_while, All, Contains}
use Rattle.std.specs.List.{sum_by, prefix_len, enumerate_from, range_with_len, AllByRecursion, IsDistinct}
use Rattle.std.specs.List.Sorted.{IsPermutation}
use Rattle.std.proofs.lemmas.Option.{slice_get-get_or}
use Rattle.std.proofs.lemmas.List.{get_or-map, length-map, get_or_append_left, get_or-append-add, get_or_at, drop_more, take-append-drop, length-append, map-append}
use Rattle.std.proofs.lemmas.List.Elements.{All-filter, All-append, recursion_from_All}
use Rattle.std.proofs.lemmas.List.Sums.{sum_by-append, sum_by-cons}
use Rattle.std.proofs.lemmas.List.Sorted.{IsPermutation-refl, IsPermutation-cons, IsPermutation-middle, IsPermutation-sym, IsPermutation-trans, IsPermutation-append_left, IsPermutation-map, Contains-permutation, sum_by-IsPermutation}
use Rattle.std.proofs.lemmas.List.FromFn.{length-range_with_len, get_or-range_with_len, length-enumerate_from, get_or-enumerate_from}
use Rattle.std.proofs.lemmas.Map.Keys.{IsDistinct-from_apart, IsDistinct-IsPermutation, apart_from_distinct}
use Rattle.std.proofs.lemmas.Bool.Decides.{nat_tests}
use Rattle.field_layout.specs.declared.ty.Ty.{Ty}
use Rattle.field_layout.specs.declared.ty.Ty.TheVariants.{I8, U8, Char, I16, U16, I32, U32, I64, U64, F32, F64, Version}
use Rattle.field_layout.specs.declared.fields.Field.{Field}
use Rattle.field_layout.specs.Types.{element_size}
use Rattle.field_layout.specs.Definition.{Definition, all_fields, size_of, full_len_of}
use Rattle.field_layout.specs.WireOrder.{Placed, of_size, by_size, base_order, wire_order, offset_of, place_of}

-- the fields with their indices, in definition order
abbrev pub placed_fields : Definition → List Placed
placed_fields def = enumerate_from 0 def.fields ++ enumerate_from (length def.fields) def.extensions

-- ---- each entry of the wire order is the field at its index

abbrev pub IsEntry : Definition → Placed → Type 0
IsEntry def entry = slice_get (all_fields def) entry.0 ≡ Some entry.1

base_entries : (def : Definition) → All (IsEntry def) (enumerate_from 0 def.fields)
base_entries def k d inside =
    let within : k < length def.fields = omega (arith, length-enumerate_from 0 def.fields) in
    let wider : k < length (all_fields def) = omega (arith, length-append def.fields def.extensions) in
    let is : get_or (enumerate_from 0 def.fields) k d ≡ (k, get_or def.fields k d.1) = get_or-enumerate_from 0 def.fields k d within ∙ ap (λ (m : ℕ). (m, get_or def.fields k d.1)) (omega arith) in
    let P : Placed → Type 0 = IsEntry def in
    subst P (sym is) (slice_get-get_or (all_fields def) k d.1 wider ∙ ap Some (get_or_append_left def.fields def.extensions d.1 k within))

extension_entries : (def : Definition) → All (IsEntry def) (enumerate_from (length def.fields) def.extensions)
extension_entries def k d inside =
    let n = length def.fields in
    let within : k < length def.extensions = omega (arith, length-enumerate_from (length def.fields) def.extensions) in
    let wider : n + k < length (all_fields def) = omega (arith, length-append def.fields def.extensions) in
    let is : get_or (enumerate_from n def.extensions) k d ≡ (n + k, get_or def.extensions k d.1) = get_or-enumerate_from n def.extensions k d within in
    let P : Placed → Type 0 = IsEntry def in
    subst P (sym is) (slice_get-get_or (all_fields def) (n + k) d.1 wider ∙ ap Some (get_or-append-add def.fields def.extensions k d.1))

sized_entries : (def : Definition) (size : ℕ) → All (IsEntry def) (of_size size (enumerate_from 0 def.fields))
sized_entries def size = All-filter (λ (field : Placed). element_size field.1.ty == size) (IsEntry def) (enumerate_from 0 def.fields) (base_entries def)

pub base_order_entries : (def : Definition) → All (IsEntry def) (base_order def)
base_order_entries def =
    All-append (IsEntry def) _ _ (All-append (IsEntry def) _ _ (All-append (IsEntry def) _ _ (sized_entries def 8) (sized_entries def 4)) (sized_entries def 2)) (sized_entries def 1)

pub wire_entries : (def : Definition) → All (IsEntry def) (wire_order def)
wire_entries def = All-append (IsEntry def) _ _ (base_order_entries def) (extension_entries def)

-- ---- the wire order is a permutation of the fields with their indices

size_cases : (ty : Ty) → (element_size ty ≡ 8) ⊎ ((element_size ty ≡ 4) ⊎ ((element_size ty ≡ 2) ⊎ (element_size ty ≡ 1)))
size_cases I8 = inr (inr (inr refl))
size_cases U8 = inr (inr (inr refl))
size_cases Char = inr (inr (inr refl))
size_cases I16 = inr (inr (inl refl))
size_cases U16 = inr (inr (inl refl))
size_cases I32 = inr (inl refl)
size_cases U32 = inr (inl refl)
size_cases I64 = inl refl
size_cases U64 = inl refl
size_cases F32 = inr (inl refl)
size_cases F64 = inl refl
size_cases Version = inr (inr (inr refl))

-- an element is prepended to the second part
put_second : (x : Placed) (a b : List Placed) → IsPermutation (x ∷ (a ++ b)) (a ++ x ∷ b)
put_second x a b = IsPermutation-sym (a ++ x ∷ b) (x ∷ (a ++ b)) (IsPermutation-middle a x b)

abbrev when : Bool → Placed → List Placed → List Placed
when b x xs = cond b (x ∷ xs) xs

-- one more entry, by the size of its elements
step8 : (s : ℕ) (x : Placed) (a b c d : List Placed) → s ≡ 8 → IsPermutation (x ∷ (a ++ b ++ c ++ d)) (when (s == 8) x a ++ when (s == 4) x b ++ when (s == 2) x c ++ when (s == 1) x d)
step8 s x a b c d e = rw e (IsPermutation-refl (x ∷ (a ++ b ++ c ++ d)))

step4 : (s : ℕ) (x : Placed) (a b c d : List Placed) → s ≡ 4 → IsPermutation (x ∷ (a ++ b ++ c ++ d)) (when (s == 8) x a ++ when (s == 4) x b ++ when (s == 2) x c ++ when (s == 1) x d)
step4 s x a b c d e =
    let left : a ++ (b ++ (c ++ d)) ≡ a ++ b ++ c ++ d = simp append_assoc in
    let right : a ++ x ∷ (b ++ (c ++ d)) ≡ a ++ (x ∷ b) ++ c ++ d = simp append_assoc in
    let P : List Placed → Type 0 = λ l. IsPermutation (x ∷ l) (a ++ (x ∷ b) ++ c ++ d) in
    let Q : List Placed → Type 0 = λ l. IsPermutation (x ∷ (a ++ (b ++ (c ++ d)))) l in
    rw e (subst P left (subst Q right (put_second x a (b ++ (c ++ d)))))

step2 : (s : ℕ) (x : Placed) (a b c d : List Placed) → s ≡ 2 → IsPermutation (x ∷ (a ++ b ++ c ++ d)) (when (s == 8) x a ++ when (s == 4) x b ++ when (s == 2) x c ++ when (s == 1) x d)
step2 s x a b c d e =
    let left : (a ++ b) ++ (c ++ d) ≡ a ++ b ++ c ++ d = simp append_assoc in
    let right : (a ++ b) ++ x ∷ (c ++ d) ≡ a ++ b ++ (x ∷ c) ++ d = simp append_assoc in
    let P : List Placed → Type 0 = λ l. IsPermutation (x ∷ l) (a ++ b ++ (x ∷ c) ++ d) in
    let Q : List Placed → Type 0 = λ l. IsPermutation (x ∷ ((a ++ b) ++ (c ++ d))) l in
    rw e (subst P left (subst Q right (put_second x (a ++ b) (c ++ d))))

step1 : (s : ℕ) (x : Placed) (a b c d : List Placed) → s ≡ 1 → IsPermutation (x ∷ (a ++ b ++ c ++ d)) (when (s == 8) x a ++ when (s == 4) x b ++ when (s == 2) x c ++ when (s == 1) x d)
step1 s x a b c d e = rw e (put_second x (a ++ b ++ c) d)

by_size_permutes : (placed : List Placed) → IsPermutation placed (by_size placed)
by_size_permutes [] = IsPermutation-refl []
by_size_permutes (x ∷ xs) =
    let s = element_size x.1.ty in
    let a = of_size 8 xs in
    let b = of_size 4 xs in
    let c = of_size 2 xs in
    let d = of_size 1 xs in
    let step : IsPermutation (x ∷ (a ++ b ++ c ++ d)) (when (s == 8) x a ++ when (s == 4) x b ++ when (s == 2) x c ++ when (s == 1) x d) =
    elim (size_cases x.1.ty) [ inl e ↦ step8 s x a b c d e | inr r ↦ elim r [ inl e ↦ step4 s x a b c d e | inr q ↦ elim q [ inl e ↦ step2 s x a b c d e | inr e ↦ step1 s x a b c d e ] ] ] in
    IsPermutation-trans (x ∷ xs) (x ∷ by_size xs) (by_size (x ∷ xs)) (IsPermutation-cons x xs (by_size xs) (by_size_permutes xs)) step

pub wire_permutes : (def : Definition) → IsPermutation (placed_fields def) (wire_order def)
wire_permutes def =
    IsPermutation-append_left (enumerate_from (length def.fields) def.extensions) (enumerate_from 0 def.fields) (base_order def) (by_size_permutes (enumerate_from 0 def.fields))

-- the bytes of an entry's field
abbrev pub entry_size : Placed → ℕ
entry_size field = size_of field.1

sum_placed : (n : ℕ) (fields : List Field) → sum_by entry_size (enumerate_from n fields) ≡ sum_by size_of fields
sum_placed n [] = refl
sum_placed n (f ∷ fs) =
    sum_by-cons entry_size (n, f) (enumerate_from (n + 1) fs) ∙ (ap (λ (m : ℕ). size_of f + m) (sum_placed (n + 1) fs) ∙ sym (sum_by-cons size_of f fs))

-- the sizes in wire order add up to the payload's length
pub full_len_of_wire : (def : Definition) → sum_by entry_size (wire_order def) ≡ full_len_of def
full_len_of_wire def =
    let base = sum_placed 0 def.fields in
    let more = sum_placed (length def.fields) def.extensions in
    let joined : sum_by entry_size (placed_fields def) ≡ sum_by entry_size (enumerate_from 0 def.fields) + sum_by entry_size (enumerate_from (length def.fields) def.extensions) = sum_by-append entry_size (enumerate_from 0 def.fields) (enumerate_from (length def.fields) def.extensions) in
    let whole : full_len_of def ≡ sum_by size_of def.fields + sum_by size_of def.extensions = sum_by-append size_of def.fields def.extensions in
    let turned : sum_by entry_size (wire_order def) ≡ sum_by entry_size (placed_fields def) = sum_by-IsPermutation entry_size (placed_fields def) (wire_order def) (wire_permutes def) in
    omega (arith, base, more, joined, whole, turned)

-- ---- no index comes twice

pub places_from : (n : ℕ) (fields : List Field) → map place_of (enumerate_from n fields) ≡ range_with_len n (length fields)
places_from n [] = refl
places_from n (f ∷ fs) = ap (λ (ks : List ℕ). n ∷ ks) (places_from (n + 1) fs)

range_append : (a n m : ℕ) → range_with_len a n ++ range_with_len (a + n) m ≡ range_with_len a (n + m)
range_append a zero m = rw (add-zero, zero-add) refl
range_append a (suc n) m =
    let e : a + suc n ≡ (a + 1) + n = omega arith in
    let f : suc n + m ≡ suc (n + m) = omega arith in
    rw (e, f) (ap (λ (ks : List ℕ). a ∷ ks) (range_append (a + 1) n m))

-- the indices of all fields are 0, 1, 2 and so on
pub places_in_order : (def : Definition) → map place_of (placed_fields def) ≡ range_with_len 0 (length (all_fields def))
places_in_order def =
    let n = length def.fields in
    let m = length def.extensions in
    map-append place_of (enumerate_from 0 def.fields) (enumerate_from n def.extensions) ∙ (ap (λ (ks : List ℕ). ks ++ map place_of (enumerate_from n def.extensions)) (places_from 0 def.fields) ∙ (ap (λ (ks : List ℕ). range_with_len 0 n ++ ks) (places_from n def.extensions) ∙ (ap (λ (a : ℕ). range_with_len 0 n ++ range_with_len a m) (sym (zero-add n)) ∙ (range_append 0 n m ∙ ap (range_with_len 0) (sym (length-append def.fields def.extensions))))))

range_distinct : (n : ℕ) → IsDistinct eqb (range_with_len 0 n)
range_distinct n =
    IsDistinct-from_apart eqb (range_with_len 0 n) (λ i j d before inside.
    let within : j < n = omega (arith, length-range_with_len 0 n) in
    let low : get_or (range_with_len 0 n) i d ≡ 0 + i = get_or-range_with_len 0 n i d (omega arith) in
    let high : get_or (range_with_len 0 n) j d ≡ 0 + j = get_or-range_with_len 0 n j d within in
    rw (low, high) (grind (arith, nat_tests)))

flips : (x y : ℕ) → eqb x y ≡ eqb y x
flips x y = grind (arith, nat_tests)

pub wire_distinct : (def : Definition) → IsDistinct eqb (map place_of (wire_order def))
wire_distinct def =
    let in_order : IsDistinct eqb (map place_of (placed_fields def)) = (let P : List ℕ → Type 0 = IsDistinct eqb in subst P (sym (places_in_order def)) (range_distinct (length (all_fields def)))) in
    IsDistinct-IsPermutation eqb flips (map place_of (placed_fields def)) (map place_of (wire_order def)) (IsPermutation-map place_of (placed_fields def) (wire_order def) (wire_permutes def)) in_order

-- ---- an offset is the sum of the sizes before

-- a run of entries that pass, up to one that doesn't
stops : (test : Placed → Bool) (a : List Placed) (p : Placed) (b : List Placed) → AllByRecursion (λ q. test q ≡ true) a → test p ≡ false → take_while test (a ++ p ∷ b) ≡ a
stops test [] p b passes fails = rw fails refl
stops test (q ∷ a) p b passes fails =
    let here : test q ≡ true = passes.0 in
    let longer : 1 + prefix_len test (a ++ p ∷ b) ≡ suc (prefix_len test (a ++ p ∷ b)) = omega arith in
    rw (here, longer) (ap (λ (l : List Placed). q ∷ l) (stops test a p b passes.1 fails))

before_differs : (a : List Placed) (p : Placed) (b : List Placed) → IsDistinct eqb (map place_of (a ++ p ∷ b)) → All (λ q. not (q.0 == p.0) ≡ true) a
before_differs a p b distinct k d inside =
    let all : List Placed = a ++ p ∷ b in
    let long : length all ≡ length a + length (p ∷ b) = length-append a (p ∷ b) in
    let end : length a < length (map place_of all) = omega (arith, length-map all place_of) in
    let apart : eqb (get_or (map place_of all) k 0) (get_or (map place_of all) (length a) 0) ≡ false = apart_from_distinct eqb (map place_of all) k (length a) 0 distinct inside end in
    let low : get_or (map place_of all) k 0 ≡ (get_or a k d).0 = get_or-map place_of all k d 0 (omega arith) ∙ ap place_of (get_or_append_left a (p ∷ b) d k inside) in
    let high : get_or (map place_of all) (length a) 0 ≡ p.0 = get_or-map place_of all (length a) d 0 (omega arith) ∙ ap place_of (get_or_at a p b d (length a) refl) in
    let differs : eqb (get_or a k d).0 p.0 ≡ false = cc (low, high, apart) in
    rw differs refl

-- the offset of a field is the sum of the sizes of the entries before it
pub offset_at_split : (def : Definition) (a : List Placed) (p : Placed) (b : List Placed) → wire_order def ≡ a ++ p ∷ b → offset_of def p.0 ≡ sum_by entry_size a
offset_at_split def a p b split =
    let P : List Placed → Type 0 = λ l. IsDistinct eqb (map place_of l) in
    let differs = before_differs a p b (subst P split (wire_distinct def)) in
    let test : Placed → Bool = λ q. not (q.0 == p.0) in
    let fails : test p ≡ false = grind (arith, nat_tests) in
    ap (λ (l : List Placed). sum_by entry_size (take_while test l)) split ∙ ap (sum_by entry_size) (stops test a p b (recursion_from_All (λ q. test q ≡ true) a differs) fails)

-- ---- each field is at some position in wire order

-- an entry of the wire order, with the entries before and after it
pub record Stands (def : Definition) (place : ℕ) : Type 0 where
  pub before : List Placed
  pub entry : Placed
  pub behind : List Placed
  pub split : wire_order def ≡ before ++ entry ∷ behind
  pub there : entry.0 ≡ place

split_at : (xs : List Placed) (k : ℕ) (d : Placed) → k < length xs → xs ≡ take k xs ++ get_or xs k d ∷ drop (k + 1) xs
split_at xs k d inside = sym (take-append-drop k xs) ∙ ap (λ (l : List Placed). take k xs ++ l) (drop_more xs k d inside)

pub each_stands : (def : Definition) (place : ℕ) → place < length (all_fields def) → Stands def place
each_stands def place inside =
    let wire = wire_order def in
    let numbers = map place_of wire in
    let range = range_with_len 0 (length (all_fields def)) in
    let short : place < length range = omega (arith, length-range_with_len 0 (length (all_fields def))) in
    let value : get_or range place 0 ≡ place = get_or-range_with_len 0 (length (all_fields def)) place 0 inside ∙ zero-add place in
    let P : List ℕ → Type 0 = λ l. Contains l place in
    let first : Contains range place = (place, short, get_or-range_with_len 0 (length (all_fields def)) place place inside ∙ zero-add place) in
    let listed : Contains (map place_of (placed_fields def)) place = subst P (sym (places_in_order def)) first in
    let turned : Contains numbers place = Contains-permutation (map place_of (placed_fields def)) numbers place (IsPermutation-map place_of (placed_fields def) wire (wire_permutes def)) listed in
    let k : ℕ = turned.0 in
    let d : Placed = (place, record { ty = U8; len = 0; name = [] }) in
    let within : k < length wire = omega (arith, length-map wire place_of, turned.1) in
    record {
      before = take k wire;
      entry = get_or wire k d;
      behind = drop (k + 1) wire;
      split = split_at wire k d within;
      there = sym (get_or-map place_of wire k d place within) ∙ turned.2;
    }
