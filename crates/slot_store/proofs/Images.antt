-- What a write leaves of the bytes in the two slots.
use Rattle.std.proofs.Common.{◌≡◌, ◌⊎◌, ◌<◌, ◌≤◌, ◌+◌, ◌-◌, ◌==◌, inl, inr, ⊎_elim, ℕ, true, false, List, take, drop, length, get_or, min, Some, None, refl, sym, ◌∙◌, ap, arith}
use Rattle.std.specs.Int.{w64, from_le_bytes}
use Rattle.std.specs.declared.option.Option.{Option}
use Rattle.std.proofs.lemmas.Bool.{cases_Bool, eqb-true}
use Rattle.std.proofs.lemmas.Bool.Decides.{nat_tests}
use Rattle.std.proofs.lemmas.List.{ext_get_or, get_or-take, get_or-drop, length-take, length-drop, drop-drop, drop-take, take-take}
use Rattle.slot_store.specs.declared.headers.Slot.{Slot}
use Rattle.slot_store.specs.declared.headers.Slot.TheVariants.{First, Second}
use Rattle.slot_store.specs.declared.headers.Header.{Header}
use Rattle.slot_store.specs.Disks.{bytes_at, SameOutside}
use Rattle.slot_store.specs.Layout.{start_of, header_at, headers_of, stored_at, stored_in, current, contents, are_foreign, is_foreign, spare, spare_beside, new_generation, with_header}
use Rattle.slot_store.proofs.Decisions.{closed, opened}

-- a range whose bytes are the same
pub same_range : (at n : ℕ) (c d : List ℕ) → length d ≡ length c → ((i : ℕ) → at ≤ i → i < at + n → get_or d i 0 ≡ get_or c i 0) → bytes_at at n d ≡ bytes_at at n c
same_range at n c d long same = ext_get_or 0 _ _ sizes each
  where
    sizes : length (bytes_at at n d) ≡ length (bytes_at at n c)
    sizes = omega (arith, length-take n (drop at d), length-take n (drop at c), length-drop at d, length-drop at c, long)

    each : (i : ℕ) → i < length (bytes_at at n d) → get_or (bytes_at at n d) i 0 ≡ get_or (bytes_at at n c) i 0
    each i in_it =
        let below : i < n = omega (arith, length-take n (drop at d), in_it) in
        get_or-take n (drop at d) i 0 below ∙ get_or-drop at d i 0 ∙ same (at + i) (omega arith) (omega arith)
        ∙ sym (get_or-take n (drop at c) i 0 below ∙ get_or-drop at c i 0)

-- a range apart from the one that was written
pub apart : (at n from m : ℕ) (c d : List ℕ) → SameOutside at n c d → (from + m ≤ at) ⊎ (at + n ≤ from) → bytes_at from m d ≡ bytes_at from m c
apart at n from m c d same where_it_is = same_range from m c d same.size (λ i low high. same.bytes i (
    ⊎_elim (λ before. inl (omega arith)) (λ after. inr (omega arith)) where_it_is))

-- a part of bytes that are known
pub part_of : (at n k m p : ℕ) (c w : List ℕ) → p ≡ at + k → bytes_at at n c ≡ w → k + m ≤ n → bytes_at p m c ≡ take m (drop k w)
part_of at n k m p c w where_it_is is within =
    let rest : n ≡ k + (n - k) = omega arith in
    ap (λ j. take m (drop j c)) where_it_is
    ∙ sym (ap (λ l. take m (drop k l)) (sym is) ∙ ap (λ j. take m (drop k (take j (drop at c)))) rest
    ∙ ap (λ l. take m l) (drop-take k (n - k) (drop at c)) ∙ take-take m (n - k) (drop k (drop at c)) (omega arith)
    ∙ ap (λ l. take m l) (drop-drop k at c))

-- one of them
pub one_of : (at n k p : ℕ) (c w : List ℕ) → p ≡ at + k → bytes_at at n c ≡ w → k < n → get_or c p 0 ≡ get_or w k 0
one_of at n k p c w where_it_is is within =
    ap (λ j. get_or c j 0) where_it_is
    ∙ sym (ap (λ l. get_or l k 0) (sym is) ∙ get_or-take n (drop at c) k 0 within ∙ get_or-drop at c k 0)

pub widen : (at n from m : ℕ) (c d : List ℕ) → SameOutside at n c d → from ≤ at → at + n ≤ from + m → SameOutside from m c d
widen at n from m c d same low high = record {
  size = same.size;
  bytes = λ i outside. same.bytes i (⊎_elim (λ before. inl (omega arith)) (λ after. inr (omega arith)) outside);
}

pub same_again : (at n : ℕ) (c d e : List ℕ) → SameOutside at n c d → SameOutside at n d e → SameOutside at n c e
same_again at n c d e first second = record {
  size = second.size ∙ first.size;
  bytes = λ i outside. second.bytes i outside ∙ first.bytes i outside;
}

pub unchanged : (at n : ℕ) (c : List ℕ) → SameOutside at n c c
unchanged at n c = record { size = refl; bytes = λ i outside. refl }

-- a slot apart from the range that was written
other_header : (at n from : ℕ) (c d : List ℕ) → SameOutside at n c d → (from + 65546 ≤ at) ⊎ (at + n ≤ from) → header_at from d ≡ header_at from c
other_header at n from c d same where_it_is =
    let is : (k : ℕ) → k < 65546 → (from + k < at) ⊎ (at + n ≤ from + k) = λ k small. ⊎_elim (λ before. inl (omega arith)) (λ after. inr (omega arith)) where_it_is in
    let flag : get_or d from 0 ≡ get_or c from 0 = same.bytes from (⊎_elim (λ before. inl (omega arith)) (λ after. inr (omega arith)) where_it_is) in
    let generation : get_or d (from + 1) 0 ≡ get_or c (from + 1) 0 = same.bytes (from + 1) (is 1 (omega arith)) in
    let size : bytes_at (from + 2) 8 d ≡ bytes_at (from + 2) 8 c =
    apart at n (from + 2) 8 c d same (⊎_elim (λ before. inl (omega arith)) (λ after. inr (omega arith)) where_it_is) in
    λ i. record { is_open = flag i == 165; generation = generation i; length = from_le_bytes w64 (size i) }

other_bytes : (at n from : ℕ) (c d : List ℕ) → SameOutside at n c d → (from + 65546 ≤ at) ⊎ (at + n ≤ from) → stored_at from d ≡ stored_at from c
other_bytes at n from c d same where_it_is =
    let m = min (header_at from c).length 65536 in
    ap (λ (x : Header). bytes_at (from + 10) (min x.length 65536) d) (other_header at n from c d same where_it_is)
    ∙ apart at n (from + 10) m c d same (⊎_elim (λ before. inl (omega arith)) (λ after. inr (omega arith)) where_it_is)

-- the headers, where one slot alone was written
pub headers_kept : (t : Slot) (s c : List ℕ) → SameOutside (start_of t) 65546 s c → headers_of c ≡ with_header (headers_of s) t (header_at (start_of t) c)
headers_kept First s c same = ap (λ (x : Header). record { first = header_at 0 c; second = x }) (other_header 0 65546 65546 s c same (inr (omega arith)))
headers_kept Second s c same = ap (λ (x : Header). record { first = x; second = header_at 65546 c }) (other_header 65546 65546 0 s c same (inl (omega arith)))

-- what the current slot stores, where the spare one alone was written
stored_kept : (now : Option Slot) (s c : List ℕ) → SameOutside (start_of (spare_beside now)) 65546 s c → stored_in now c ≡ stored_in now s
stored_kept None s c same = refl
stored_kept (Some First) s c same = other_bytes 65546 65546 0 s c same (inl (omega arith))
stored_kept (Some Second) s c same = other_bytes 0 65546 65546 s c same (inr (omega arith))

-- the image differs from s in the spare slot alone, whose flag is closed
pub keeps_contents : (s c : List ℕ) → is_foreign s ≡ false → SameOutside (start_of (spare (headers_of s))) 65546 s c
    → (header_at (start_of (spare (headers_of s))) c).is_open ≡ false → (is_foreign c ≡ false) × (contents c ≡ contents s)
keeps_contents s c own same shut =
    let t = spare (headers_of s) in
    let x = header_at (start_of t) c in
    let kept = headers_kept t s c same in
    let says = closed (headers_of s) x own shut in (
      ap are_foreign kept ∙ says.0,
      ap (λ h. stored_in (current h) c) kept ∙ ap (λ o. stored_in o c) says.1 ∙ stored_kept (current (headers_of s)) s c same,
    )

-- the image differs from s in the spare slot alone, which is open and of the new generation
pub has_new_contents : (s c : List ℕ) → is_foreign s ≡ false → SameOutside (start_of (spare (headers_of s))) 65546 s c
    → (header_at (start_of (spare (headers_of s))) c).is_open ≡ true
    → (header_at (start_of (spare (headers_of s))) c).generation ≡ new_generation (headers_of s)
    → (header_at (start_of (spare (headers_of s))) c).length ≤ 65536
    → (is_foreign c ≡ false) × (contents c ≡ stored_at (start_of (spare (headers_of s))) c)
has_new_contents s c own same is_open newer short =
    let t = spare (headers_of s) in
    let x = header_at (start_of t) c in
    let kept = headers_kept t s c same in
    let says = opened (headers_of s) x own is_open newer short in
    (ap are_foreign kept ∙ says.0, ap (λ h. stored_in (current h) c) kept ∙ ap (λ o. stored_in o c) says.1)

-- an open flag over an open one changes nothing
pub still_open : (at : ℕ) (s c : List ℕ) → SameOutside at 1 s c → (header_at at s).is_open ≡ true → (header_at at c).is_open ≡ true → c ≡ s
still_open at s c same was is = ext_get_or 0 c s same.size (λ i in_it. one i)
  where
    flags : get_or c at 0 ≡ get_or s at 0
    flags = eqb-true (get_or c at 0) 165 is ∙ sym (eqb-true (get_or s at 0) 165 was)

    one : (i : ℕ) → get_or c i 0 ≡ get_or s i 0
    one i = elim (cases_Bool (i == at)) [
      | inl here ↦ let e = eqb-true i at here in ap (λ j. get_or c j 0) e ∙ flags ∙ sym (ap (λ j. get_or s j 0) e)
      | inr there ↦ same.bytes i (apart_from there)
    ]
      where
        apart_from : (i == at) ≡ false → (i < at) ⊎ (at + 1 ≤ i)
        apart_from there = grind (arith, nat_tests)
