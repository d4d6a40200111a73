-- What the headers say after the spare slot's has changed.
use Rattle.std.proofs.Common.{◌≡◌, ◌≤◌, ◌==◌, ℕ, Bool, true, false, Some, refl, ap, arith, if◌then◌else◌}
use Rattle.std.proofs.lemmas.Bool.{or_parts, or_from}
use Rattle.std.proofs.lemmas.Bool.Decides.{nat_tests}
use Rattle.slot_store.specs.declared.headers.Slot.TheVariants.{First, Second}
use Rattle.slot_store.specs.declared.headers.Header.{Header}
use Rattle.slot_store.specs.declared.headers.Headers.{Headers}
use Rattle.slot_store.specs.Layout.{next_generation, current, is_out_of_range, are_foreign, spare, spare_beside, new_generation, generation_after, with_header}

abbrev head : Bool → ℕ → ℕ → Header
head a g l = record { is_open = a; generation = g; length = l }

abbrev heads : Bool → ℕ → ℕ → Bool → ℕ → ℕ → Headers
heads a g l b h m = record { first = head a g l; second = head b h m }

-- two open slots, of which the second is current or isn't
both_closed : (e : Bool) (g l h m y z : ℕ) → e ≡ (h == next_generation g) → are_foreign (heads true g l true h m) ≡ false
    → (are_foreign (with_header (heads true g l true h m) (spare_beside (if e then Some Second else Some First)) (head false y z)) ≡ false)
    × (current (with_header (heads true g l true h m) (spare_beside (if e then Some Second else Some First)) (head false y z)) ≡ (if e then Some Second else Some First))
both_closed true g l h m y z is sound =
    let parts = or_parts _ _ (or_parts _ _ sound).0 in
    (or_from _ _ parts.1 refl, refl)
both_closed false g l h m y z is sound =
    let parts = or_parts _ _ (or_parts _ _ sound).0 in
    (or_from _ _ (or_from _ _ parts.0 refl) refl, refl)

closed_at : (a : Bool) (g l : ℕ) (b : Bool) (h m y z : ℕ) → are_foreign (heads a g l b h m) ≡ false
    → (are_foreign (with_header (heads a g l b h m) (spare (heads a g l b h m)) (head false y z)) ≡ false)
    × (current (with_header (heads a g l b h m) (spare (heads a g l b h m)) (head false y z)) ≡ current (heads a g l b h m))
closed_at false g l false h m y z sound = (refl, refl)
closed_at false g l true h m y z sound = (sound, refl)
closed_at true g l false h m y z sound = (sound, refl)
closed_at true g l true h m y z sound = both_closed (h == next_generation g) g l h m y z refl sound

-- a closed spare slot leaves the current one current
pub closed : (h : Headers) (x : Header) → are_foreign h ≡ false → x.is_open ≡ false
    → (are_foreign (with_header h (spare h) x) ≡ false) × (current (with_header h (spare h) x) ≡ current h)
closed h x sound shut =
    rw shut (closed_at h.first.is_open h.first.generation h.first.length h.second.is_open h.second.generation h.second.length x.generation x.length sound)

one_first : (y z : ℕ) → y ≤ 2 → z ≤ 65536 → is_out_of_range (head true y z) ≡ false
one_first y z small short = grind (arith, nat_tests)

generation_small : (g l : ℕ) → is_out_of_range (head true g l) ≡ false → g ≤ 2
generation_small g l fits = grind (arith, nat_tests)

next_small : (g : ℕ) → next_generation g ≤ 2
next_small g = grind (arith, nat_tests)

next_differs : (g : ℕ) → g ≤ 2 → (g == next_generation g) ≡ false
next_differs g small = grind (arith, nat_tests)

next_differs_too : (g : ℕ) → g ≤ 2 → (next_generation g == g) ≡ false
next_differs_too g small = grind (arith, nat_tests)

not_before : (g : ℕ) → g ≤ 2 → (g == next_generation (next_generation g)) ≡ false
not_before g small = grind (arith, nat_tests)

same_is : (g : ℕ) → (g == g) ≡ true
same_is g = grind (arith, nat_tests)

-- the first slot is written after the second
first_after : (h m z : ℕ) → is_out_of_range (head true h m) ≡ false → z ≤ 65536
    → (are_foreign (heads true (next_generation h) z true h m) ≡ false) × (current (heads true (next_generation h) z true h m) ≡ Some First)
first_after h m z fits short =
    let small = generation_small h m fits in (
      or_from _ _ (or_from _ _ (one_first (next_generation h) z (next_small h) short) fits) (next_differs_too h small),
      ap (λ e. if e then Some Second else Some First) (not_before h small),
    )

second_after : (g l z : ℕ) → is_out_of_range (head true g l) ≡ false → z ≤ 65536
    → (are_foreign (heads true g l true (next_generation g) z) ≡ false) × (current (heads true g l true (next_generation g) z) ≡ Some Second)
second_after g l z fits short =
    let small = generation_small g l fits in (
      or_from _ _ (or_from _ _ fits (one_first (next_generation g) z (next_small g) short)) (next_differs g small),
      ap (λ e. if e then Some Second else Some First) (same_is (next_generation g)),
    )

both_opened : (e : Bool) (g l h m z : ℕ) → are_foreign (heads true g l true h m) ≡ false → z ≤ 65536
    → let now = if e then Some Second else Some First in
    let after = with_header (heads true g l true h m) (spare_beside now) (head true (generation_after (heads true g l true h m) now) z) in
    (are_foreign after ≡ false) × (current after ≡ Some (spare_beside now))
both_opened true g l h m z sound short = first_after h m z (or_parts _ _ (or_parts _ _ sound).0).1 short
both_opened false g l h m z sound short = second_after g l z (or_parts _ _ (or_parts _ _ sound).0).0 short

opened_at : (a : Bool) (g l : ℕ) (b : Bool) (h m z : ℕ) → are_foreign (heads a g l b h m) ≡ false → z ≤ 65536
    → let after = with_header (heads a g l b h m) (spare (heads a g l b h m)) (head true (new_generation (heads a g l b h m)) z) in
    (are_foreign after ≡ false) × (current after ≡ Some (spare (heads a g l b h m)))
opened_at false g l false h m z sound short = (or_from _ _ (or_from _ _ (one_first 0 z (omega arith) short) refl) refl, refl)
opened_at false g l true h m z sound short = first_after h m z (or_parts _ _ sound).0 short
opened_at true g l false h m z sound short = second_after g l z (or_parts _ _ (or_parts _ _ sound).0).0 short
opened_at true g l true h m z sound short = both_opened (h == next_generation g) g l h m z sound short

-- an open spare slot of the new generation is the current one
pub opened : (h : Headers) (x : Header) → are_foreign h ≡ false → x.is_open ≡ true → x.generation ≡ new_generation h → x.length ≤ 65536
    → (are_foreign (with_header h (spare h) x) ≡ false) × (current (with_header h (spare h) x) ≡ Some (spare h))
opened h x sound is_open newer short =
    rw (is_open, newer) (opened_at h.first.is_open h.first.generation h.first.length h.second.is_open h.second.generation h.second.length x.length sound short)
