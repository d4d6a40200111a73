-- The polygons of a fence, one group after the other.
use Rattle.std.proofs.Common.{◌≡◌, ℕ, zero, suc, ◌-◌, ◌≤◌, Bool, true, false, ◌||◌, List, [], ◌∷◌, length, take, drop, refl, sym, ap, ◌∙◌, subst, arith}
use Rattle.std.specs.Prelude.{min, Some, slice_get}
use Rattle.std.specs.List.{list_any}
use Rattle.std.proofs.lemmas.List.{length-drop, take_all, take_min}
use Rattle.std.proofs.lemmas.List.Folds.{list_any-append}
use Rattle.plan_items.specs.declared.items.Item.{Item}
use Rattle.fence_watch.specs.Fences.{Polygon, group_size, polygon_in, polygons_behind, polygons_of}

-- items inside a group are passed over
behind : (inside : ℕ) (items : List Item) → polygons_behind inside items ≡ polygons_of (drop inside items)
behind zero [] = refl
behind (suc inside) [] = refl
behind zero (first ∷ rest) = refl
behind (suc inside) (first ∷ rest) = behind inside rest

drop_min : (n : ℕ) (items : List Item) → drop (min n (length items)) items ≡ drop n items
drop_min zero items = let e : min 0 (length items) ≡ 0 = omega arith in ap (λ k. drop k items) e
drop_min (suc n) [] = let e : min (suc n) 0 ≡ 0 = omega arith in ap (λ k. drop k []) e
drop_min (suc n) (x ∷ xs) = let e : min (suc n) (length (x ∷ xs)) ≡ suc (min n (length xs)) = omega arith in ap (λ k. drop k (x ∷ xs)) e ∙ drop_min n xs

-- after the first group
rest_of : (first : Item) (rest : List Item) (len : ℕ) → len ≡ min (group_size first) (length (first ∷ rest)) → 1 ≤ group_size first → polygons_behind (group_size first - 1) rest ≡ polygons_of (drop len (first ∷ rest))
rest_of first rest len e some =
    let back : suc (group_size first - 1) ≡ group_size first = omega (arith, some) in
    behind (group_size first - 1) rest
    ∙ ap polygons_of (ap (λ k. drop k (first ∷ rest)) back ∙ (sym (drop_min (group_size first) (first ∷ rest)) ∙ ap (λ k. drop k (first ∷ rest)) (sym e)))

none_first : (a b : Bool) → a ≡ false → (a || b) ≡ b
none_first true b e = absurd (cc)
none_first false b e = refl

module _ (test : Polygon → Bool) where
  begun : (first : Item) (rest : List Item) (len : ℕ) → len ≡ min (group_size first) (length (first ∷ rest)) → 1 ≤ group_size first → list_any test (polygon_in first (take len (first ∷ rest))) ≡ false
      → list_any test (polygons_of (drop len (first ∷ rest))) ≡ list_any test (polygons_of (first ∷ rest))
  begun first rest len e some none =
      let group : take len (first ∷ rest) ≡ take (group_size first) (first ∷ rest) = ap (λ k. take k (first ∷ rest)) e ∙ take_min (group_size first) (first ∷ rest) in
      let fails : list_any test (polygon_in first (take (group_size first) (first ∷ rest))) ≡ false = subst (λ g. list_any test (polygon_in first g) ≡ false) group none in
      sym (list_any-append test (polygon_in first (take (group_size first) (first ∷ rest))) (polygons_behind (group_size first - 1) rest)
      ∙ (none_first (list_any test (polygon_in first (take (group_size first) (first ∷ rest)))) (list_any test (polygons_behind (group_size first - 1) rest)) fails ∙ ap (list_any test) (rest_of first rest len e some)))

  -- behind a group that fails the test, as a slice gives it
  pub any_behind : (items : List Item) (first : Item) (len : ℕ) → Some first ≡ slice_get items 0 → len ≡ min (group_size first) (length items) → 1 ≤ group_size first → list_any test (polygon_in first (take len items)) ≡ false
      → list_any test (polygons_of (take (length items - len) (drop len items))) ≡ list_any test (polygons_of items)
  any_behind [] first len at e some none = absurd (cc)
  any_behind (other ∷ rest) first len at e some none =
      let same : first ≡ other = cc in
      let size : length (drop len (other ∷ rest)) ≤ length (other ∷ rest) - len = omega (arith, length-drop len (other ∷ rest)) in
      ap (λ xs. list_any test (polygons_of xs)) (take_all (length (other ∷ rest) - len) (drop len (other ∷ rest)) size)
      ∙ begun other rest len (e ∙ ap (λ i. min (group_size i) (length (other ∷ rest))) same) (subst (λ i. 1 ≤ group_size i) same some) (subst (λ i. list_any test (polygon_in i (take len (other ∷ rest))) ≡ false) same none)

  -- a group that passes it settles the answer
  pub any_here : (items : List Item) (first : Item) (len : ℕ) → Some first ≡ slice_get items 0 → len ≡ min (group_size first) (length items) → list_any test (polygon_in first (take len items)) ≡ true
      → list_any test (polygons_of items) ≡ true
  any_here [] first len at e found = absurd (cc)
  any_here (other ∷ rest) first len at e found =
      let same : first ≡ other = cc in
      let group : take len (other ∷ rest) ≡ take (group_size other) (other ∷ rest) = ap (λ k. take k (other ∷ rest)) (e ∙ ap (λ i. min (group_size i) (length (other ∷ rest))) same) ∙ take_min (group_size other) (other ∷ rest) in
      let passes : list_any test (polygon_in other (take (group_size other) (other ∷ rest))) ≡ true = subst (λ g. list_any test (polygon_in other g) ≡ true) group (subst (λ i. list_any test (polygon_in i (take len (other ∷ rest))) ≡ true) same found) in
      list_any-append test (polygon_in other (take (group_size other) (other ∷ rest))) (polygons_behind (group_size other - 1) rest) ∙ ap (λ b. b || list_any test (polygons_behind (group_size other - 1) rest)) passes
