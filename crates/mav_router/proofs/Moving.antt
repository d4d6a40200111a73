-- Elements of lists that move, one after another, and of their images.
use Rattle.std.proofs.Common.{All, ◌⊎◌, inl, inr, ◌≡◌, ◌∙◌, ◌<◌, ◌≤◌, ℕ, zero, suc, ◌+◌, arith, List, [], ◌∷◌, ◌++◌, length, map, set, take, drop, replicate, get_or, slice_get, option_map, Option, Some, None, refl, ap, sym, subst, append_assoc}
use Rattle.std.proofs.lemmas.List.{append-nil, get_or-replicate, length-replicate, map-append, take_more}
use Rattle.std.proofs.lemmas.Option.{get_or_from_slice_get, slice_get_past, slice_get-map}
use Rattle.mav_router.proofs.Journals.{element}
use Rattle.mav_router.proofs.RunSteps.{get_set_at, get_set_other, index_within}

none_some : {A B : Type 0} (x : A) → ◌≡◌ {A = Option A} None (Some x) → B
none_some x e = absurd cc

some_is : {A : Type 0} (x y : A) → ◌≡◌ {A = Option A} (Some x) (Some y) → x ≡ y
some_is x y e = cc

-- an element's image, and an image's element
pub mapped_at : {A B : Type 0} (f : A → B) (xs : List A) (ys : List B) (k : ℕ) (x : A) → map f xs ≡ ys → slice_get xs k ≡ Some x → slice_get ys k ≡ Some (f x)
mapped_at {A} {B} f xs ys k x is there = ap (λ (l : List B). slice_get l k) (sym is) ∙ (slice_get-map f xs k ∙ ap (option_map f) there)

pub mapped_from : {A B : Type 0} (f : A → B) (xs : List A) (k : ℕ) (y : B) → slice_get (map f xs) k ≡ Some y → (x : A) × (slice_get xs k ≡ Some x) × (f x ≡ y)
mapped_from f [] k y e = none_some y (sym (slice_get_past [] k (omega arith)) ∙ e)
mapped_from f (x ∷ xs) zero y e = (x, refl, some_is (f x) y e)
mapped_from f (x ∷ xs) (suc k) y e = mapped_from f xs k y e

-- an element of an image that is known
pub image_is : {A B : Type 0} (f : A → B) (xs : List A) (ys : List B) (k : ℕ) (x : A) (y : B) → ys ≡ map f xs → slice_get xs k ≡ Some x → slice_get ys k ≡ Some y → f x ≡ y
image_is f xs ys k x y is there at = some_is (f x) y (sym (mapped_at f xs ys k x (sym is) there) ∙ at)

pub replicated : {A : Type 0} (n k : ℕ) (x y : A) → slice_get (replicate n x) k ≡ Some y → y ≡ x
replicated n k x y e =
    let within = index_within (replicate n x) k y e in
    let long = length-replicate n x in
    sym (get_or_from_slice_get (replicate n x) k y y e) ∙ get_or-replicate n k x y (omega (arith, within, long))

pub all_from : {A : Type 0} (P : A → Type 0) (xs : List A) → ((k : ℕ) (x : A) → slice_get xs k ≡ Some x → P x) → All P xs
all_from P xs each k d l =
    let there = element xs k l in
    subst P (sym (get_or_from_slice_get xs k there.0 d there.1)) (each k there.0 there.1)

-- one more image
pub image_more : {A B : Type 0} (f : A → B) (xs : List A) (at : ℕ) (d : A) (done : List B) (y : B) → at < length xs → y ≡ f (get_or xs at d) → done ≡ map f (take at xs) → done ++ y ∷ [] ≡ map f (take (at + 1) xs)
image_more {A} {B} f xs at d done y within is before =
    ap (λ (l : List B). l ++ y ∷ []) before
    ∙ (ap (λ (z : B). map f (take at xs) ++ z ∷ []) is
    ∙ (sym (map-append f (take at xs) (get_or xs at d ∷ [])) ∙ ap (λ (l : List A). map f l) (sym (take_more xs at d within))))

-- the images of those that were moved, and of those that are left
pub image_moved : {A B : Type 0} (f : A → B) (done : List B) (x : A) (left rest : List A) (all : List B) → left ≡ x ∷ rest → done ++ map f left ≡ all → (done ++ f x ∷ []) ++ map f rest ≡ all
image_moved {A} {B} f done x left rest all is before =
    append_assoc done (f x ∷ []) (map f rest) ∙ (ap (λ (l : List A). done ++ map f l) (sym is) ∙ before)

-- those whose images were moved, and the images that are left
pub source_moved : {A B : Type 0} (f : B → A) (done : List B) (y : B) (left rest : List A) (all : List A) → left ≡ f y ∷ rest → map f done ++ left ≡ all → map f (done ++ y ∷ []) ++ rest ≡ all
source_moved {A} {B} f done y left rest all is before =
    ap (λ (l : List A). l ++ rest) (map-append f done (y ∷ [])) ∙ (append_assoc (map f done) (f y ∷ []) rest ∙ (ap (λ (l : List A). map f done ++ l) (sym is) ∙ before))

-- nothing is left
pub all_moved : {A : Type 0} (done left all : List A) → length left ≡ 0 → done ++ left ≡ all → done ≡ all
all_moved done [] all none is = sym (append-nil done) ∙ is
all_moved done (x ∷ left) all none is = absurd (omega (arith, none))

pub all_images_moved : {A B : Type 0} (f : A → B) (done : List B) (left : List A) (all : List B) → length left ≡ 0 → done ++ map f left ≡ all → done ≡ all
all_images_moved f done [] all none is = sym (append-nil done) ∙ is
all_images_moved f done (x ∷ left) all none is = absurd (omega (arith, none))

same_or : (k at : ℕ) → (k ≡ at) ⊎ (k ≡ at → ⊥)
same_or zero zero = inl refl
same_or zero (suc at) = inr (λ e. omega (arith, e))
same_or (suc k) zero = inr (λ e. omega (arith, e))
same_or (suc k) (suc at) = elim (same_or k at) [ inl e ↦ inl (ap suc e) | inr n ↦ inr (λ e. n (omega (arith, e))) ]

-- one more element changed in its place
pub each_changed : {A : Type 0} (P : ℕ → A → A → Type 0) (first now : List A) (at : ℕ) (old new : A) → slice_get now at ≡ Some old → ((k : ℕ) (b c : A) → k < at → slice_get first k ≡ Some b → slice_get now k ≡ Some c → P k b c) → ((k : ℕ) → at ≤ k → slice_get now k ≡ slice_get first k) → P at old new → (k : ℕ) (b c : A) → k < at + 1 → slice_get first k ≡ Some b → slice_get (set now at new) k ≡ Some c → P k b c
each_changed {A} P first now at old new is_old before same own k b c within is_b is_c =
    elim (same_or k at) [
      | inl e ↦
          let to_new = get_set_at now at new c (subst (λ (j : ℕ). slice_get (set now at new) j ≡ Some c) e is_c) in
          let to_old = some_is old b (sym is_old ∙ (same at (omega arith) ∙ subst (λ (j : ℕ). slice_get first j ≡ Some b) e is_b)) in
          subst (λ (j : ℕ). P j b c) (sym e) (subst (λ (x : A). P at b x) to_new (subst (λ (x : A). P at x new) to_old own))
      | inr apart ↦ before k b c (below k at within apart) is_b (sym (get_set_other now at k new apart) ∙ is_c)
    ]
  where
    below : (k at : ℕ) → k < at + 1 → (k ≡ at → ⊥) → k < at
    below k at w apart = grind (arith)

pub rest_same : {A : Type 0} (first now : List A) (at : ℕ) (new : A) → ((k : ℕ) → at ≤ k → slice_get now k ≡ slice_get first k) → (k : ℕ) → at + 1 ≤ k → slice_get (set now at new) k ≡ slice_get first k
rest_same first now at new same k past = get_set_other now at k new (λ e. omega (arith, e, past)) ∙ same k (omega (arith, past))

-- a list that was written over, as long as it was
take_past : {A : Type 0} (n : ℕ) (xs : List A) → length xs ≤ n → take n xs ≡ xs
take_past zero [] l = refl
take_past zero (x ∷ xs) l = absurd (omega (arith, l))
take_past (suc n) [] l = refl
take_past (suc n) (x ∷ xs) l = ap (λ (ys : List _). x ∷ ys) (take_past n xs (omega (arith, l)))

drop_past : {A : Type 0} (n : ℕ) (xs : List A) → length xs ≤ n → drop n xs ≡ []
drop_past zero [] l = refl
drop_past zero (x ∷ xs) l = absurd (omega (arith, l))
drop_past (suc n) [] l = refl
drop_past (suc n) (x ∷ xs) l = drop_past n xs (omega (arith, l))

pub written_over : {A : Type 0} (new old : List A) (n : ℕ) → n ≡ length old → length new ≡ length old → take n (new ++ drop (length new) old) ≡ new
written_over {A} new old n all long =
    ap (λ (d : List A). take n (new ++ d)) (drop_past (length new) old (omega (arith, long)))
    ∙ (ap (λ (l : List A). take n l) (append-nil new) ∙ take_past n new (omega (arith, all, long)))
