-- If `look` returns anything but `More` for some bytes, it returns the same for them with more bytes after them.
use Rattle.std.proofs.Common.{◌≡◌, ℕ, zero, suc, ◌+◌, ◌-◌, ◌*◌, ◌<◌, ◌≤◌, ◌==◌, ◌&&◌, ◌⊎◌, Bool, true, false, not, nat_lt, List, [], ◌∷◌, ◌++◌, length, take, drop, slice_index, slice_range, Option, Some, None, if◌then◌else◌, refl, sym, ap, ◌∙◌, inl, inr, ⊎_elim, arith, length-append, length-drop}
use Rattle.std.proofs.lemmas.List.{get_or_append_left, take-append-le, drop-append-le}
use Rattle.std.proofs.lemmas.Bool.{ltb-false, le-ltb}
use Rattle.std.proofs.lemmas.Bool.Decides.{nat_tests}
use mathlib.Core.Logic.{dite}
use native.Mathlib.Decide.{ℕ_discrete}
use Rattle.x25_check.specs.Check.{check}
use Rattle.x25_check.specs.Extras.{extra_of}
use Rattle.mav_frame.specs.Numbers.{number_at}
use Rattle.mav_frame.specs.Looks.{is_old_at, header_size, id_at, check_offset, block_size_at, frame_size_at, block_at, packet_at, look_known, look_id, look_header, look_as, look_of}
use Rattle.mav_frame.specs.declared.looks.Look.{Look}
use Rattle.mav_frame.specs.declared.looks.Look.TheVariants.{Frame as Found, NotHere, More}
use Rattle.mav_frame.specs.declared.looks.Why.TheVariants.{NotStx, UnknownFlag, BadCheck}
use Rattle.mav_frame.proofs.EncodedFound.{skip, pick}

not_eq : (a : ℕ) → (a ≡ 0 → ⊥) → (a == 0) ≡ false
not_eq a h = grind (arith, nat_tests)

and_left : (l : ℕ) (t : Bool) → (nat_lt 0 l && t) ≡ true → 0 < l
and_left l t h = grind (arith, nat_tests)

-- the test's outcome, and what follows
pub tested : {A : Type 0} (t : Bool) (x y z : A) → (if t then x else y) ≡ z → ((t ≡ true) × (x ≡ z)) ⊎ ((t ≡ false) × (y ≡ z))
tested true x y z e = inl (refl, e)
tested false x y z e = inr (refl, e)

pub true_lt : (a b : ℕ) → nat_lt a b ≡ true → a < b
true_lt a b h = grind (arith, nat_tests)

pub lt_true : (a b : ℕ) → a < b → nat_lt a b ≡ true
lt_true a b h = grind (arith, nat_tests)

same_byte : (b more : List ℕ) (i : ℕ) → i < length b → slice_index (b ++ more) i ≡ slice_index b i
same_byte b more i h = get_or_append_left b more 0 i h

same_number : (k i : ℕ) (b more : List ℕ) → i + k ≤ length b → number_at k i (b ++ more) ≡ number_at k i b
same_number zero i b more h = refl
same_number (suc k) i b more h = let x = same_byte b more i (omega arith) in let y = same_number k (i + 1) b more (omega arith) in λ j. x j + 256 * y j

same_range : (b more : List ℕ) (i j : ℕ) → i ≤ j → j ≤ length b → slice_range (b ++ more) i j ≡ slice_range b i j
same_range b more i j l h =
    ap (take (j - i)) (drop-append-le i b more (omega arith)) ∙ take-append-le (j - i) (drop i b) more (omega (arith, length-drop i b))

module _ (b more : List ℕ) where
  abbrev c : List ℕ
  c = b ++ more

  longer : length b ≤ length c
  longer = omega (arith, length-append b more)

  byte_1 : (v : Bool) → header_size v ≤ length b → slice_index c 1 ≡ slice_index b 1
  byte_1 true long = same_byte b more 1 (omega arith)
  byte_1 false long = same_byte b more 1 (omega arith)

  id_is : (v : Bool) → header_size v ≤ length b → id_at v c ≡ id_at v b
  id_is true long = same_number 1 5 b more long
  id_is false long = same_number 3 7 b more long

  offset_is : (v : Bool) → header_size v ≤ length b → check_offset v c ≡ check_offset v b
  offset_is v long i = header_size v + byte_1 v long i

  block_size_is : (v : Bool) → header_size v ≤ length b → block_size_at v c ≡ block_size_at v b
  block_size_is true long = refl
  block_size_is false long = ap (λ (f : ℕ). if f == 0 then 0 else 13) (same_byte b more 2 (omega arith))

  size_is : (v : Bool) → header_size v ≤ length b → frame_size_at v c ≡ frame_size_at v b
  size_is v long i = offset_is v long i + 2 + block_size_is v long i

  module _ (v : Bool) (long : header_size v ≤ length b) (whole : frame_size_at v b ≤ length b) where
    check_is : number_at 2 (check_offset v c) c ≡ number_at 2 (check_offset v b) b
    check_is = ap (λ (k : ℕ). number_at 2 k c) (offset_is v long) ∙ same_number 2 (check_offset v b) b more (omega arith)

    range_is : (i : ℕ) → i ≤ header_size v → slice_range c i (check_offset v c) ≡ slice_range b i (check_offset v b)
    range_is i l = ap (slice_range c i) (offset_is v long) ∙ same_range b more i (check_offset v b) (omega arith) (omega arith)

  block_is : (long : 10 ≤ length b) → frame_size_at false b ≤ length b → (if slice_index c 2 == 0 then None else block_at (check_offset false c + 2) c) ≡ (if slice_index b 2 == 0 then None else block_at (check_offset false b + 2) b)
  block_is long whole =
      let byte_2 : slice_index c 2 ≡ slice_index b 2 = same_byte b more 2 (omega arith) in
      let place_is = offset_is false long in
      (λ i. if byte_2 i == 0 then None else block_at (place_is i + 2) c) ∙ dite (ℕ_discrete (slice_index b 2) 0)
      (λ z. ap (λ (k : ℕ). if k == 0 then None else block_at (check_offset false b + 2) c) z ∙ sym (ap (λ (k : ℕ). if k == 0 then None else block_at (check_offset false b + 2) b) z))
      (λ n.
      let at : ℕ = check_offset false b + 2 in
      let w : at + 13 ≤ length b = (let f : (slice_index b 2 == 0) ≡ false = not_eq (slice_index b 2) n in let g : at + (if slice_index b 2 == 0 then 0 else 13) ≡ at + 13 = ap (λ (t : Bool). at + (if t then 0 else 13)) f in omega arith) in
      let link : slice_index c at ≡ slice_index b at = same_byte b more at (omega arith) in
      let stamp : number_at 6 (at + 1) c ≡ number_at 6 (at + 1) b = same_number 6 (at + 1) b more (omega arith) in
      let sig : slice_range c (at + 7) (at + 13) ≡ slice_range b (at + 7) (at + 13) = same_range b more (at + 7) (at + 13) (omega arith) w in
      λ i. if slice_index b 2 == 0 then None else Some record { link = link i; stamp = stamp i; sig = sig i })

  packet_is : (v : Bool) (long : header_size v ≤ length b) → frame_size_at v b ≤ length b → packet_at v c ≡ packet_at v b
  packet_is true long whole =
      let a2 = same_byte b more 2 (omega arith) in
      let a3 = same_byte b more 3 (omega arith) in
      let a4 = same_byte b more 4 (omega arith) in
      let id = id_is true long in
      let pay = range_is true long whole 6 (omega arith) in
      let check = check_is true long whole in
      λ i. record { old = true; compat = 0; seq = a2 i; from = record { sys = a3 i; comp = a4 i }; id = id i; payload = pay i; check = check i; block = None }
  packet_is false long whole =
      let a3 = same_byte b more 3 (omega arith) in
      let a4 = same_byte b more 4 (omega arith) in
      let a5 = same_byte b more 5 (omega arith) in
      let a6 = same_byte b more 6 (omega arith) in
      let id = id_is false long in
      let pay = range_is false long whole 10 (omega arith) in
      let check = check_is false long whole in
      let block = block_is long whole in
      λ i. record { old = false; compat = a3 i; seq = a4 i; from = record { sys = a5 i; comp = a6 i }; id = id i; payload = pay i; check = check i; block = block i }

  module _ (v : Bool) (long : header_size v ≤ length b) where
    known_same : (whole : frame_size_at v b ≤ length b) (extra : ℕ) → look_known v extra c ≡ look_known v extra b
    known_same whole extra =
        let cov = range_is v long whole 1 (header_some v) in
        let checks = check_is v long whole in
        let packet = packet_is v long whole in
        let s = size_is v long in
        let lt : nat_lt (length c) (frame_size_at v c) ≡ false = le-ltb _ _ (let l = longer in omega arith) in
        let lt' : nat_lt (length b) (frame_size_at v b) ≡ false = le-ltb _ _ whole in
        skip _ _ _ lt ∙ ((λ i. if checks i == check (cov i ++ extra ∷ []) then Found (packet i) (s i) else NotHere BadCheck) ∙ sym (skip _ _ _ lt'))
      where
        header_some : (w : Bool) → 1 ≤ header_size w
        header_some true = omega arith
        header_some false = omega arith

    known_stays : (extra : ℕ) (r : Look) → ((k : ℕ) → r ≡ More k → ⊥) → look_known v extra b ≡ r → look_known v extra c ≡ r
    known_stays extra r settled e = ⊎_elim
        (λ (t : (nat_lt (length b) (frame_size_at v b) ≡ true) × (More (frame_size_at v b - length b) ≡ r)). absurd (settled _ (sym t.1)))
        (λ (t : (nat_lt (length b) (frame_size_at v b) ≡ false) × ((if number_at 2 (check_offset v b) b == check (slice_range b 1 (check_offset v b) ++ extra ∷ []) then Found (packet_at v b) (frame_size_at v b) else NotHere BadCheck) ≡ r)).
        known_same (ltb-false _ _ t.0) extra ∙ e)
        (tested (nat_lt (length b) (frame_size_at v b)) _ _ r e)

    id_stays : (o : Option ℕ) (r : Look) → ((k : ℕ) → r ≡ More k → ⊥) → look_id v o b ≡ r → look_id v o c ≡ r
    id_stays None r settled e = e
    id_stays (Some extra) r settled e = known_stays extra r settled e

  module _ (extras : List (ℕ × ℕ)) where
    header_stays : (v : Bool) (r : Look) → ((k : ℕ) → r ≡ More k → ⊥) → look_header extras v b ≡ r → look_header extras v c ≡ r
    header_stays v r settled e = ⊎_elim
        (λ (t : (nat_lt (length b) (header_size v) ≡ true) × (More (header_size v - length b) ≡ r)). absurd (settled _ (sym t.1)))
        (λ (t : (nat_lt (length b) (header_size v) ≡ false) × (look_id v (extra_of (id_at v b) extras) b ≡ r)).
        let long : header_size v ≤ length b = ltb-false _ _ t.0 in
        let l = longer in
        skip _ _ _ (le-ltb (length c) (header_size v) (omega arith)) ∙ (ap (λ (i : ℕ). look_id v (extra_of i extras) c) (id_is v long) ∙ id_stays v long (extra_of (id_at v b) extras) r settled t.1))
        (tested (nat_lt (length b) (header_size v)) _ _ r e)

    abbrev tail_flag : List ℕ → Look
    tail_flag x = if nat_lt 1 (slice_index x 2) then NotHere UnknownFlag else look_header extras false x

    abbrev tail3 : List ℕ → Look
    tail3 x = if nat_lt (length x) 3 then More (3 - length x) else tail_flag x

    stays_flag : (r : Look) → ((k : ℕ) → r ≡ More k → ⊥) → 3 ≤ length b → tail_flag b ≡ r → tail_flag c ≡ r
    stays_flag r settled three e =
        let byte : slice_index c 2 ≡ slice_index b 2 = same_byte b more 2 three in ⊎_elim
        (λ (t : (nat_lt 1 (slice_index b 2) ≡ true) × (NotHere UnknownFlag ≡ r)). pick _ _ _ (ap (λ (k : ℕ). nat_lt 1 k) byte ∙ t.0) ∙ t.1)
        (λ (t : (nat_lt 1 (slice_index b 2) ≡ false) × (look_header extras false b ≡ r)). skip _ _ _ (ap (λ (k : ℕ). nat_lt 1 k) byte ∙ t.0) ∙ header_stays false r settled t.1)
        (tested (nat_lt 1 (slice_index b 2)) _ _ r e)

    as_stays : (v : Bool) (r : Look) → ((k : ℕ) → r ≡ More k → ⊥) → look_as extras v b ≡ r → look_as extras v c ≡ r
    as_stays true r settled e = header_stays true r settled e
    as_stays false r settled e = ⊎_elim
        (λ (t : ((nat_lt 0 (length b) && not (slice_index b 0 == 0xFD)) ≡ true) × (NotHere NotStx ≡ r)).
        let some : 0 < length b = and_left (length b) _ t.0 in
        pick _ _ _ (first_same some ∙ t.0) ∙ t.1)
        (λ (t : ((nat_lt 0 (length b) && not (slice_index b 0 == 0xFD)) ≡ false) × (tail3 b ≡ r)). ⊎_elim
        (λ (u : (nat_lt (length b) 3 ≡ true) × (More (3 - length b) ≡ r)). absurd (settled _ (sym u.1)))
        (λ (u : (nat_lt (length b) 3 ≡ false) × (tail_flag b ≡ r)).
        let three : 3 ≤ length b = ltb-false _ _ u.0 in
        let l = longer in
        skip _ _ _ (first_same (omega arith) ∙ t.0) ∙ (skip _ _ _ (le-ltb (length c) 3 (omega arith)) ∙ stays_flag r settled three u.1))
        (tested (nat_lt (length b) 3) _ _ r t.1))
        (tested (nat_lt 0 (length b) && not (slice_index b 0 == 0xFD)) _ _ r e)
      where
        first_same : 0 < length b → (nat_lt 0 (length c) && not (slice_index c 0 == 0xFD)) ≡ (nat_lt 0 (length b) && not (slice_index b 0 == 0xFD))
        first_same some =
            let l = longer in
            let byte : slice_index c 0 ≡ slice_index b 0 = same_byte b more 0 some in
            let both_lt : nat_lt 0 (length c) ≡ nat_lt 0 (length b) = lt_true 0 (length c) (omega arith) ∙ sym (lt_true 0 (length b) some) in
            λ i. both_lt i && not (byte i == 0xFD)

-- the first byte decides of which version a frame is
version_stays : (old : Bool) (x : ℕ) (b more : List ℕ) → is_old_at old ((x ∷ b) ++ more) ≡ is_old_at old (x ∷ b)
version_stays old x b more = refl

pub stays : (extras : List (ℕ × ℕ)) (old : Bool) (b more : List ℕ) (r : Look) → ((k : ℕ) → r ≡ More k → ⊥) → look_of extras old b ≡ r → look_of extras old (b ++ more) ≡ r
stays extras old [] more r settled e = absurd (settled 3 (sym e ∙ nothing old))
  where
    nothing : (o : Bool) → look_of extras o [] ≡ More 3
    nothing true = refl
    nothing false = refl
stays extras old (x ∷ b) more r settled e = as_stays (x ∷ b) more extras (is_old_at old (x ∷ b)) r settled e
