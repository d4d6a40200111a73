-- The tests of points and ways are exact.
use Rattle.std.proofs.Common.{◌≡◌, ◌⊎◌, inl, inr, ℕ, ◌<◌, ◌%◌, ◌==◌, Bool, true, false, not, ◌&&◌, ◌||◌, List, length, get_or, refl, sym, ap, ◌∙◌, subst, arith}
use Rattle.std.specs.Prelude.{◌↔◌, IsTrue, All, Any, count_by}
use Rattle.std.specs.List.{list_any}
use Rattle.std.proofs.lemmas.Bool.Decides.{nat_tests}
use Rattle.std.proofs.lemmas.List.Elements.{All-weaker}
use Rattle.std.proofs.lemmas.List.Folds.{Any-from_list_any, list_any-from_Any, list_any_none, list_any_at}
use Rattle.drone_sim.specs.declared.points.Point.{Point}
use Rattle.fence_watch.specs.declared.segments.Segment.{Segment}
use Rattle.fence_watch.specs.Segments.{Meet, meet}
use Rattle.fence_watch.specs.Fences.{Polygon, segment, edges_of, crosses_ray, MeetsBorder, IsOnBorder, IsInside, Allowed, Touched, meets_border, is_on_border, is_inside, includes, excludes, has_inclusion, is_included, allows, is_touched}
use Rattle.fence_watch.proofs.Exact.{exact}

-- ---- tests and what they say

module _ {X : Type 0} (p : X → Bool) (P : X → Type 0) (decides : (x : X) → (p x ≡ true) ↔ P x) where
  some : (xs : List X) → (list_any p xs ≡ true) ↔ Any P xs
  some xs = (
    (λ e. let found = Any-from_list_any p xs e in (found.0, found.1, found.2, found.3, (decides found.1).0 found.4)),
    (λ found. list_any-from_Any p xs (found.0, found.1, found.2, found.3, (decides found.1).1 found.4)),
  )

module _ {X : Type 0} (p : X → Bool) (xs : List X) where
  fails_at : (b : Bool) (k : ℕ) (d : X) → p (get_or xs k d) ≡ b → k < length xs → list_any p xs ≡ false → p (get_or xs k d) ≡ false
  fails_at true k d e within none = absurd (let bad : true ≡ false = sym (list_any_at p xs k d within e) ∙ none in cc)
  fails_at false k d e within none = e

  none : (list_any p xs ≡ false) ↔ All (λ x. p x ≡ false) xs
  none = ((λ e k d within. fails_at (p (get_or xs k d)) k d refl within e), (λ all. list_any_none p xs all))

-- ---- borders and insides

on_border : (leg : Segment) (corners : List Point) → (meets_border leg corners ≡ true) ↔ MeetsBorder leg corners
on_border leg corners = some (meet leg) (Meet leg) (exact leg) (edges_of corners)

odd_test : (n : ℕ) → ((n == 1) ≡ true) ↔ (n ≡ 1)
odd_test n = ((λ e. grind (arith, nat_tests)), (λ e. grind (arith, nat_tests)))

both_parts : (a b : Bool) → (not a && b) ≡ true → (a ≡ false) × (b ≡ true)
both_parts true b e = absurd (cc)
both_parts false b e = (refl, e)

both_hold : (a b : Bool) → a ≡ false → b ≡ true → (not a && b) ≡ true
both_hold a b e f = rw (e, f) refl

is_false : (b : Bool) → ¬ (b ≡ true) → b ≡ false
is_false true no_way = absurd (no_way refl)
is_false false no_way = refl

inside : (p : Point) (corners : List Point) → (is_inside p corners ≡ true) ↔ IsInside p corners
inside p corners = (
  (λ e. let two = both_parts (is_on_border p corners) (count_by (crosses_ray p) (edges_of corners) % 2 == 1) e in
      record { off_border = λ on. let there = (on_border (segment p p) corners).1 on in let bad : true ≡ false = sym there ∙ two.0 in absurd (cc); odd = (odd_test (count_by (crosses_ray p) (edges_of corners) % 2)).0 two.1 }),
  (λ h. both_hold (is_on_border p corners) (count_by (crosses_ray p) (edges_of corners) % 2 == 1)
      (is_false (is_on_border p corners) (λ e. h.off_border ((on_border (segment p p) corners).0 e)))
      ((odd_test (count_by (crosses_ray p) (edges_of corners) % 2)).1 h.odd)),
)

-- ---- polygons

abbrev Includes : Point → Polygon → Type 0
Includes p g = (g.is_inclusion ≡ true) × (IsInside p g.corners ⊎ IsOnBorder p g.corners)

two_hold : (a b : Bool) → (a && b) ≡ true → (a ≡ true) × (b ≡ true)
two_hold true b e = (refl, e)
two_hold false b e = absurd (let bad : false ≡ true = e in cc)

hold_two : (a b : Bool) → a ≡ true → b ≡ true → (a && b) ≡ true
hold_two a b e f = rw (e, f) refl

one_holds : (a b : Bool) → (a || b) ≡ true → (a ≡ true) ⊎ (b ≡ true)
one_holds true b e = inl refl
one_holds false b e = inr e

holds_second : (a b : Bool) → b ≡ true → (a || b) ≡ true
holds_second true b e = refl
holds_second false b e = e

included : (p : Point) (g : Polygon) → (includes p g ≡ true) ↔ Includes p g
included p g = (
  (λ e. let two = two_hold g.is_inclusion (is_inside p g.corners || is_on_border p g.corners) e in (two.0, either (one_holds (is_inside p g.corners) (is_on_border p g.corners) two.1))),
  (λ h. hold_two g.is_inclusion (is_inside p g.corners || is_on_border p g.corners) h.0 (one h.1)),
)
  where
    either : (is_inside p g.corners ≡ true) ⊎ (is_on_border p g.corners ≡ true) → IsInside p g.corners ⊎ IsOnBorder p g.corners
    either (inl e) = inl ((inside p g.corners).0 e)
    either (inr e) = inr ((on_border (segment p p) g.corners).0 e)

    one : IsInside p g.corners ⊎ IsOnBorder p g.corners → (is_inside p g.corners || is_on_border p g.corners) ≡ true
    one (inl h) = ap (λ b. b || is_on_border p g.corners) ((inside p g.corners).1 h)
    one (inr h) = holds_second (is_inside p g.corners) (is_on_border p g.corners) ((on_border (segment p p) g.corners).1 h)

abbrev Spares : Point → Polygon → Type 0
Spares p g = g.is_inclusion ≡ false → ¬ IsInside p g.corners

spared : (p : Point) (g : Polygon) → excludes p g ≡ false → Spares p g
spared p g e exclusion h = let hit : excludes p g ≡ true = both_hold g.is_inclusion (is_inside p g.corners) exclusion ((inside p g.corners).1 h) in let bad : true ≡ false = sym hit ∙ e in absurd (cc)

not_excluded : (p : Point) (g : Polygon) → Spares p g → excludes p g ≡ false
not_excluded p g h = is_false (excludes p g) (λ e. let two = both_parts g.is_inclusion (is_inside p g.corners) e in h two.0 ((inside p g.corners).0 two.1))

is_not : (b : Bool) → not b ≡ true → b ≡ false
is_not true e = absurd (let bad : false ≡ true = e in cc)
is_not false e = refl

-- ---- fences

not_or : (a b : Bool) → (not a || b) ≡ true → (a ≡ false) ⊎ (b ≡ true)
not_or true b e = inr e
not_or false b e = inl refl

or_not : (a b : Bool) → a ≡ false → (not a || b) ≡ true
or_not a b e = rw e refl

module _ (fence : List Polygon) (p : Point) where
  abbrev Included : Type 0
  Included = All (λ (g : Polygon). g.is_inclusion ≡ false) fence ⊎ Any (Includes p) fence

  has_place : is_included fence p ≡ true → Included
  has_place e = by (not_or (has_inclusion fence) (list_any (includes p) fence) e)
    where
      by : (has_inclusion fence ≡ false) ⊎ (list_any (includes p) fence ≡ true) → Included
      by (inl none_there) = inl ((none (λ (g : Polygon). g.is_inclusion) fence).0 none_there)
      by (inr one) = inr ((some (includes p) (Includes p) (included p) fence).0 one)

  place_had : Included → is_included fence p ≡ true
  place_had (inl all) = or_not (has_inclusion fence) (list_any (includes p) fence) ((none (λ (g : Polygon). g.is_inclusion) fence).1 all)
  place_had (inr one) = holds_second (not (has_inclusion fence)) (list_any (includes p) fence) ((some (includes p) (Includes p) (included p) fence).1 one)

  pub allowed : IsTrue (allows fence p) ↔ Allowed fence p
  allowed = (
    (λ h. let two = two_hold (is_included fence p) (not (list_any (excludes p) fence)) h in
        record { included = has_place two.0; not_excluded = All-weaker (λ (g : Polygon). excludes p g ≡ false) (Spares p) (spared p) fence ((none (excludes p) fence).0 (is_not (list_any (excludes p) fence) two.1)) }),
    (λ h. (hold_two (is_included fence p) (not (list_any (excludes p) fence)) (place_had h.included)
        (ap not ((none (excludes p) fence).1 (All-weaker (Spares p) (λ (g : Polygon). excludes p g ≡ false) (not_excluded p) fence h.not_excluded))))),
  )

pub touched : (fence : List Polygon) (a b : Point) → IsTrue (is_touched fence a b) ↔ Touched fence a b
touched fence a b =
    some (λ (g : Polygon). meets_border (segment a b) g.corners) (λ (g : Polygon). MeetsBorder (segment a b) g.corners) (λ g. on_border (segment a b) g.corners) fence

-- the same of an answer that equals the test's
pub allowed_at : (fence : List Polygon) (p : Point) (answer : Bool) → answer ≡ allows fence p → IsTrue answer ↔ Allowed fence p
allowed_at fence p answer e = subst (λ b. IsTrue b ↔ Allowed fence p) (sym e) (allowed fence p)

pub touched_at : (fence : List Polygon) (a b : Point) (answer : Bool) → answer ≡ is_touched fence a b → IsTrue answer ↔ Touched fence a b
touched_at fence a b answer e = subst (λ t. IsTrue t ↔ Touched fence a b) (sym e) (touched fence a b)
