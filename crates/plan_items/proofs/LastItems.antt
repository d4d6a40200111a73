-- Groups of items with one more after them.
use Rattle.std.proofs.Common.{◌≡◌, ℕ, zero, suc, ◌+◌, ◌-◌, ◌<◌, ◌≤◌, ◌&&◌, ◌==◌, not, Bool, true, false, nat_le, List, [], ◌∷◌, ◌++◌, length, take, drop, refl, sym, ◌∙◌, ap, subst, arith, length-append}
use Rattle.std.specs.Prelude.{Option, Some, None, slice_get, unwrap_or, if◌then◌else◌}
use Rattle.std.specs.List.{list_all}
use Rattle.std.proofs.lemmas.Bool.Decides.{nat_tests}
use Rattle.std.proofs.lemmas.List.{take_all, take-append-le, drop-append-le, length-drop}
use Rattle.plan_items.specs.declared.items.Item.{Item}
use Rattle.plan_items.specs.Words.{word_number}
use Rattle.plan_items.specs.Validation.{is_vertex, from_three, vertex_count, param1_of, group_len_of, is_like, begins_group, is_grouped}
use Rattle.plan_items.proofs.Groups.{is_grouped-behind}

is_like-self : (item : Item) → is_like item item ≡ true
is_like-self item = grind arith

short : (count : Option ℕ) (last : Item) → (begins_group last (from_three count) (last ∷ []) && is_grouped (unwrap_or (from_three count) 1 - 1) []) ≡ false
short None last = refl
short (Some count) last = elim (nat_le 3 count) as (λ b. nat_le 3 count ≡ b → (begins_group last (if b then Some count else None) (last ∷ []) && is_grouped (unwrap_or (if b then Some count else None) 1 - 1) []) ≡ false) [
  | true ↦ λ test. let long : nat_le count 1 ≡ false = grind (arith, nat_tests) in rw long refl
  | false ↦ λ test. refl
] refl

-- an item alone is a group if it is no vertex
pub is_grouped-alone : (last : Item) → not (is_vertex last.command) ≡ is_grouped 0 (last ∷ [])
is_grouped-alone last = elim (is_vertex last.command) as (λ b. not b ≡ (begins_group last (if b then vertex_count (param1_of last) else Some 1) (last ∷ []) && is_grouped (unwrap_or (if b then vertex_count (param1_of last) else Some 1) 1 - 1) [])) [
  | true ↦ sym (short (word_number (param1_of last)) last)
  | false ↦ rw (is_like-self last) refl
]

-- items that all belong to a group that began before are grouped
pub is_grouped-past : (inside : ℕ) (items : List Item) → length items ≤ inside → is_grouped inside items ≡ true
is_grouped-past inside [] within = refl
is_grouped-past zero (first ∷ rest) within = absurd (omega (arith, within))
is_grouped-past (suc inside) (first ∷ rest) within = is_grouped-past inside rest (omega (arith, within))

list_all-end : (p : Item → Bool) (items : List Item) (last : Item) → list_all p (items ++ last ∷ []) ≡ (list_all p items && p last)
list_all-end p [] last = grind arith
list_all-end p (first ∷ rest) last = ap (λ b. p first && b) (list_all-end p rest last) ∙ grind arith

whole_take : (items : List Item) (last : Item) (len : ℕ) → length items + 1 ≡ len → take len (items ++ last ∷ []) ≡ items ++ last ∷ []
whole_take items last len size = take_all len (items ++ last ∷ []) (omega (arith, size, length-append items (last ∷ [])))

ends : (first : Item) (rest : List Item) (last : Item) (len : ℕ) (group : Option ℕ) → group ≡ Some len → length (first ∷ rest) < len
    → ((length (first ∷ rest) + 1 == len) && list_all (is_like first) (first ∷ rest) && is_like first last) ≡ (begins_group first group (first ∷ rest ++ last ∷ []) && is_grouped (unwrap_or group 1 - 1) (rest ++ last ∷ []))
ends first rest last len None is long = absurd (cc)
ends first rest last len (Some other) is long =
    let same : other ≡ len = cc in
    let size : length ((first ∷ rest) ++ last ∷ []) ≡ length (first ∷ rest) + 1 = omega (arith, length-append (first ∷ rest) (last ∷ [])) in
    let behind : is_grouped (other - 1) (rest ++ last ∷ []) ≡ true =
    is_grouped-past (other - 1) (rest ++ last ∷ []) (omega (arith, same, long, length-append rest (last ∷ []))) in
    elim (length (first ∷ rest) + 1 == len) as (λ b. (length (first ∷ rest) + 1 == len) ≡ b
    → (b && list_all (is_like first) (first ∷ rest) && is_like first last) ≡ (begins_group first (Some other) (first ∷ rest ++ last ∷ []) && is_grouped (other - 1) (rest ++ last ∷ []))) [
      | true ↦ λ test.
          let exact : length (first ∷ rest) + 1 ≡ len = grind (arith, nat_tests) in
          let fits : nat_le other (length ((first ∷ rest) ++ last ∷ [])) ≡ true = grind (arith, nat_tests) in
          let whole : take other ((first ∷ rest) ++ last ∷ []) ≡ (first ∷ rest) ++ last ∷ [] = whole_take (first ∷ rest) last other (omega (arith, exact, same)) in
          rw (behind, fits, whole, list_all-end (is_like first) (first ∷ rest) last) (grind arith)
      | false ↦ λ test.
          let apart : nat_le other (length ((first ∷ rest) ++ last ∷ [])) ≡ false = grind (arith, nat_tests) in
          rw apart refl
    ] refl

-- a group that no item ends but the last
pub is_grouped-end : (items : List Item) (first last : Item) (len : ℕ) → Some first ≡ slice_get items 0 → group_len_of first ≡ Some len → length items < len
    → ((length items + 1 == len) && list_all (is_like first) items && is_like first last) ≡ is_grouped 0 (items ++ last ∷ [])
is_grouped-end [] first last len at is long = absurd (cc)
is_grouped-end (other ∷ rest) first last len at is long =
    let same : first ≡ other = cc in
    subst (λ (f : Item). ((length (other ∷ rest) + 1 == len) && list_all (is_like f) (other ∷ rest) && is_like f last) ≡ is_grouped 0 ((other ∷ rest) ++ last ∷ [])) (sym same)
    (ends other rest last len (group_len_of other) (ap group_len_of (sym same) ∙ is) long)

-- after a whole group the rest decides, with the last item too
pub is_grouped-behind_with : (items : List Item) (first last : Item) (len : ℕ) → Some first ≡ slice_get items 0 → group_len_of first ≡ Some len → len ≤ length items → list_all (is_like first) (take len items) ≡ true
    → is_grouped 0 (take (length items - len) (drop len items) ++ last ∷ []) ≡ is_grouped 0 (items ++ last ∷ [])
is_grouped-behind_with [] first last len at is within alike = absurd (cc)
is_grouped-behind_with (other ∷ rest) first last len at is within alike =
    let items : List Item = other ∷ rest in
    let front : take len (items ++ last ∷ []) ≡ take len items = take-append-le len items (last ∷ []) within in
    let back : drop len (items ++ last ∷ []) ≡ drop len items ++ last ∷ [] = drop-append-le len items (last ∷ []) within in
    let size : length (drop len items) ≤ length items - len = omega (arith, length-drop len items) in
    ap (λ xs. is_grouped 0 (xs ++ last ∷ [])) (take_all (length items - len) (drop len items) size)
    ∙ ap (λ xs. is_grouped 0 xs) (sym back)
    ∙ is_grouped-behind (items ++ last ∷ []) first len at is (omega (arith, within, length-append items (last ∷ []))) (ap (list_all (is_like first)) front ∙ alike)
