-- Bytes in the place of others.
use Rattle.std.proofs.Common.{◌≡◌, ◌⊎◌, ◌<◌, ◌≤◌, ◌+◌, ◌-◌, ◌&&◌, inl, inr, ⊎_elim, ℕ, false, List, [], ◌∷◌, ◌++◌, take, drop, length, get_or, nat_le, nat_lt, refl, sym, ◌∙◌, ap, subst, arith}
use Rattle.std.proofs.lemmas.Bool.{cases_lt, or_from, or_parts}
use Rattle.std.proofs.lemmas.Bool.Decides.{nat_tests}
use Rattle.std.proofs.lemmas.List.{ext_get_or, get_or-take, get_or-drop, get_or_append_left, get_or-append_right, length-take-le, length-drop, length-append, drop_at, take_at}
use Rattle.slot_store.specs.Disks.{bytes_at, SameOutside, Writes, Tears}
use Rattle.slot_store.specs.MemDisks.{IsImage, is_covered}
use Rattle.slot_store.proofs.Images.{one_of}
use Rattle.slot_store.specs.declared.unsynced.Range.{Range}

abbrev patch : ℕ → List ℕ → List ℕ → List ℕ
patch at w xs = take at xs ++ (w ++ drop (at + length w) xs)

module _ (at : ℕ) (w xs : List ℕ) (within : at + length w ≤ length xs) where
  front : length (take at xs) ≡ at
  front = length-take-le at xs (omega (arith, within))

  size : length (patch at w xs) ≡ length xs
  size = omega (arith, front, within, length-append (take at xs) (w ++ drop (at + length w) xs), length-append w (drop (at + length w) xs), length-drop (at + length w) xs)

  before : (i : ℕ) → i < at → get_or (patch at w xs) i 0 ≡ get_or xs i 0
  before i low = get_or_append_left (take at xs) (w ++ drop (at + length w) xs) 0 i (omega (arith, front, low)) ∙ get_or-take at xs i 0 low

  rest : (i : ℕ) → at ≤ i → get_or (patch at w xs) i 0 ≡ get_or (w ++ drop (at + length w) xs) (i - at) 0
  rest i high = get_or-append_right (take at xs) (w ++ drop (at + length w) xs) at i 0 front high

  within_it : (i : ℕ) → at ≤ i → i < at + length w → get_or (patch at w xs) i 0 ≡ get_or w (i - at) 0
  within_it i high low = rest i high ∙ get_or_append_left w (drop (at + length w) xs) 0 (i - at) (omega (arith, high, low))

  after : (i : ℕ) → at + length w ≤ i → get_or (patch at w xs) i 0 ≡ get_or xs i 0
  after i high =
      rest i (omega (arith, high)) ∙ get_or-append_right w (drop (at + length w) xs) (length w) (i - at) 0 refl (omega (arith, high))
      ∙ get_or-drop (at + length w) xs (i - at - length w) 0 ∙ ap (λ j. get_or xs j 0) (omega (arith, high))

  patch_outside : SameOutside at (length w) xs (patch at w xs)
  patch_outside = record { size = size; bytes = λ i outside. ⊎_elim (before i) (after i) outside }

  pub patched : Writes at w xs (patch at w xs)
  patched = record {
    outside = patch_outside;
    inside = ap (λ l. take (length w) l) (drop_at (take at xs) (w ++ drop (at + length w) xs) at front) ∙ take_at w (drop (at + length w) xs) (length w) refl;
  }

clear : (r : Range) (i : ℕ) → (i < r.start) ⊎ (r.end ≤ i) → (nat_le r.start i && nat_lt i r.end) ≡ false
clear r i (inl low) = grind (arith, nat_tests)
clear r i (inr high) = grind (arith, nat_tests)

uncovered : (rs : List Range) (r : Range) (i : ℕ) → is_covered rs i ≡ false → (i < r.start) ⊎ (r.end ≤ i) → is_covered (rs ++ r ∷ []) i ≡ false
uncovered [] r i none it = or_from _ _ (clear r i it) refl
uncovered (x ∷ rs) r i none it = let parts = or_parts _ _ none in or_from _ _ parts.0 (uncovered rs r i parts.1 it)

-- a range that isn't synced may hold any bytes
module _ (at n : ℕ) (old new : List ℕ) (ranges : List Range) (r : Range) (within : at + n ≤ length old) (starts : r.start ≡ at) (ends : r.end ≡ at + n)
    (writes : SameOutside at n old new) where
  back : List ℕ → List ℕ
  back c = patch at (bytes_at at n old) c

  long : length (bytes_at at n old) ≡ n
  long = length-take-le n (drop at old) (omega (arith, length-drop at old, within))

  module _ (c : List ℕ) (is : IsImage new (ranges ++ r ∷ []) c) where
    inside : at + length (bytes_at at n old) ≤ length c
    inside = omega (arith, is.size, writes.size, within, long)

    elsewhere : (i : ℕ) → is_covered ranges i ≡ false → (i < at) ⊎ (at + n ≤ i) → get_or (patch at (bytes_at at n old) c) i 0 ≡ get_or old i 0
    elsewhere i none apart =
        let apart_r : (i < r.start) ⊎ (r.end ≤ i) = ⊎_elim (λ low. inl (omega (arith, starts, low))) (λ high. inr (omega (arith, ends, high))) apart in
        ⊎_elim (λ low. before at (bytes_at at n old) c inside i low) (λ high. after at (bytes_at at n old) c inside i (omega (arith, long, high))) apart
        ∙ is.outside i (uncovered ranges r i none apart_r) ∙ writes.bytes i apart

    here : (i : ℕ) → at ≤ i → i < at + n → get_or (patch at (bytes_at at n old) c) i 0 ≡ get_or old i 0
    here i high low =
        within_it at (bytes_at at n old) c inside i high (omega (arith, long, low))
        ∙ sym (one_of at n (i - at) i old (bytes_at at n old) (omega (arith, high)) refl (omega (arith, high, low)))

    everywhere : (i : ℕ) → is_covered ranges i ≡ false → get_or (patch at (bytes_at at n old) c) i 0 ≡ get_or old i 0
    everywhere i none = ⊎_elim (λ low. elsewhere i none (inl low)) (λ high. ⊎_elim (λ below. here i high below) (λ past. elsewhere i none (inr past)) (cases_lt i (at + n))) (cases_lt i at)

    differs : SameOutside at n (patch at (bytes_at at n old) c) c
    differs = record {
      size = sym (size at (bytes_at at n old) c inside);
      bytes = λ i apart. sym (⊎_elim (λ low. before at (bytes_at at n old) c inside i low) (λ high. after at (bytes_at at n old) c inside i (omega (arith, long, high))) apart);
    }

  pub tears : Tears at n (IsImage old ranges) (IsImage new (ranges ++ r ∷ []))
  tears c is = (
    patch at (bytes_at at n old) c,
    record { size = size at (bytes_at at n old) c (inside c is) ∙ is.size ∙ writes.size; outside = everywhere c is },
    differs c is,
  )

-- with no range left, a crash leaves what is there
pub no_range : (bytes : List ℕ) (c : List ℕ) → IsImage bytes [] c → c ≡ bytes
no_range bytes c is = ext_get_or 0 c bytes is.size (λ i in_it. is.outside i refl)

-- nothing more may be left
pub tears_nothing : (at n : ℕ) (held : List ℕ) (ranges now : List Range) → now ≡ ranges → Tears at n (IsImage held ranges) (IsImage held now)
tears_nothing at n held ranges now same c is = (c, subst (λ r. IsImage held r c) same is, record { size = refl; bytes = λ i apart. refl })

pub pushed : (at n : ℕ) (held new : List ℕ) (ranges now : List Range) (r : Range) → now ≡ ranges ++ r ∷ [] → at + n ≤ length held → r.start ≡ at → r.end ≡ at + n
    → SameOutside at n held new → Tears at n (IsImage held ranges) (IsImage new now)
pushed at n held new ranges now r is within starts ends writes =
    subst (λ rs. Tears at n (IsImage held ranges) (IsImage new rs)) (sym is) (tears at n held new ranges r within starts ends writes)

-- the same of what was there before
pub carried : (at n : ℕ) (b b1 : List ℕ) (r r1 : List Range) (Q : List ℕ → Type 0) → b1 ≡ b → r1 ≡ r → Tears at n (IsImage b1 r1) Q → Tears at n (IsImage b r) Q
carried at n b b1 r r1 Q bytes ranges is = subst (λ x. Tears at n (IsImage x r) Q) bytes (subst (λ x. Tears at n (IsImage b1 x) Q) ranges is)

pub tears_kept : (at n : ℕ) (held now : List ℕ) (ranges open_now : List Range) → now ≡ held → open_now ≡ ranges → Tears at n (IsImage held ranges) (IsImage now open_now)
tears_kept at n held now ranges open_now kept open_kept = subst (λ b. Tears at n (IsImage held ranges) (IsImage b open_now)) (sym kept) (tears_nothing at n held ranges open_now open_kept)

-- what a crash may leave stays
pub images_kept : (held now : List ℕ) (ranges open_now : List Range) → now ≡ held → open_now ≡ ranges → (c : List ℕ) → IsImage now open_now c → IsImage held ranges c
images_kept held now ranges open_now kept open_kept c is = subst (λ b. IsImage b ranges c) kept (subst (λ r. IsImage now r c) open_kept is)
