-- Groups of items, one after the other.
use Rattle.std.proofs.Common.{◌≡◌, ℕ, zero, suc, ◌-◌, ◌<◌, ◌≤◌, ◌&&◌, Bool, true, false, nat_le, List, [], ◌∷◌, length, take, drop, refl, sym, ◌∙◌, ap, subst, arith}
use Rattle.std.specs.Prelude.{Option, Some, None, slice_get, unwrap_or, if◌then◌else◌}
use Rattle.std.specs.List.{list_all}
use Rattle.std.proofs.lemmas.Bool.Decides.{nat_tests}
use Rattle.std.proofs.lemmas.List.{length-drop, take_all}
use Rattle.plan_items.specs.declared.items.Item.{Item}
use Rattle.plan_items.specs.Words.{word_number}
use Rattle.plan_items.specs.Validation.{is_vertex, from_three, vertex_count, param1_of, group_len_of, is_like, begins_group, is_grouped}

-- items inside a group are skipped
pub is_grouped-inside : (inside : ℕ) (items : List Item) → is_grouped inside items ≡ is_grouped 0 (drop inside items)
is_grouped-inside zero [] = refl
is_grouped-inside (suc inside) [] = refl
is_grouped-inside zero (first ∷ rest) = refl
is_grouped-inside (suc inside) (first ∷ rest) = is_grouped-inside inside rest

from_three-above : (count : Option ℕ) (len : ℕ) → from_three count ≡ Some len → 0 < len
from_three-above None len e = absurd (cc)
from_three-above (Some count) len e = elim (nat_le 3 count) as (λ b. nat_le 3 count ≡ b → (if b then Some count else None) ≡ Some len → 0 < len) [
  | true ↦ λ test is. let same : count ≡ len = cc in let low : 3 ≤ count = grind (arith, nat_tests) in omega arith
  | false ↦ λ test is. absurd (cc)
] refl e

-- no group is empty
pub group_len_of-above : (first : Item) (len : ℕ) → group_len_of first ≡ Some len → 0 < len
group_len_of-above first len e = elim (is_vertex first.command) as (λ b. (if b then vertex_count (param1_of first) else Some 1) ≡ Some len → 0 < len) [
  | true ↦ λ is. from_three-above (word_number (param1_of first)) len is
  | false ↦ λ is. let one : 1 ≡ len = cc in omega arith
] e

le_test : (a b : ℕ) → a ≤ b → nat_le a b ≡ true
le_test a b h = grind (arith, nat_tests)

both_hold : (a b c : Bool) → a ≡ true → b ≡ true → c ≡ (a && b && c)
both_hold true true c h g = refl
both_hold true false c h g = absurd (let bad : false ≡ true = g in cc)
both_hold false b c h g = absurd (let bad : false ≡ true = h in cc)

begun : (first : Item) (rest : List Item) (len : ℕ) (group : Option ℕ) → group ≡ Some len → 0 < len → len ≤ length (first ∷ rest) → list_all (is_like first) (take len (first ∷ rest)) ≡ true → is_grouped 0 (drop len (first ∷ rest)) ≡ (begins_group first group (first ∷ rest) && is_grouped (unwrap_or group 1 - 1) rest)
begun first rest len None is positive within alike = absurd (cc)
begun first rest zero (Some other) is positive within alike = absurd (omega arith)
begun first rest (suc len) (Some other) is positive within alike =
    let same : other ≡ suc len = cc in
    let fits : other ≤ length (first ∷ rest) = omega (arith, within) in
    let whole : list_all (is_like first) (take other (first ∷ rest)) ≡ true = subst (λ (n : ℕ). list_all (is_like first) (take n (first ∷ rest)) ≡ true) (sym same) alike in
    let inside : len ≡ other - 1 = omega arith in
    sym (is_grouped-inside len rest) ∙ (ap (λ n. is_grouped n rest) inside ∙ both_hold _ _ _ (le_test _ _ fits) whole)

-- after a whole group the rest decides
pub is_grouped-behind : (items : List Item) (first : Item) (len : ℕ) → Some first ≡ slice_get items 0 → group_len_of first ≡ Some len → len ≤ length items → list_all (is_like first) (take len items) ≡ true → is_grouped 0 (drop len items) ≡ is_grouped 0 items
is_grouped-behind [] first len at is within alike = absurd (cc)
is_grouped-behind (other ∷ rest) first len at is within alike =
    let same : first ≡ other = cc in
    begun other rest len (group_len_of other) (ap group_len_of (sym same) ∙ is) (group_len_of-above first len is) within (subst (λ f. list_all (is_like f) (take len (other ∷ rest)) ≡ true) same alike)

-- the same of the rest as a slice gives it
pub is_grouped-rest : (items : List Item) (first : Item) (len : ℕ) → Some first ≡ slice_get items 0 → group_len_of first ≡ Some len → len ≤ length items → list_all (is_like first) (take len items) ≡ true → is_grouped 0 (take (length items - len) (drop len items)) ≡ is_grouped 0 items
is_grouped-rest items first len at is within alike =
    let size : length (drop len items) ≤ length items - len = omega (arith, length-drop len items) in
    ap (λ xs. is_grouped 0 xs) (take_all (length items - len) (drop len items) size) ∙ is_grouped-behind items first len at is within alike
