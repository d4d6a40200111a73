-- The reasons of the parse, in words, are those of the table of `look`.
use Rattle.std.proofs.Common.{◌≡◌, ◌≢◌, ℕ, ◌-◌, ◌<◌, ◌≤◌, ◌==◌, ◌&&◌, Bool, true, false, not, nat_lt, List, length, slice_index, Option, Some, None, if◌then◌else◌, refl, ap, ◌∙◌, subst, ⊎_elim, ◌⊎◌, inl, inr, arith}
use Rattle.std.specs.Prelude.{IsSome}
use Rattle.std.proofs.lemmas.Bool.{ltb-false, le-ltb, cases_lt}
use Rattle.std.proofs.lemmas.Bool.Decides.{nat_tests}
use Rattle.x25_check.specs.Extras.{extra_of}
use Rattle.mav_frame.specs.Numbers.{number_at}
use Rattle.mav_frame.specs.Packet.{Packet}
use Rattle.mav_frame.specs.Encoding.{stx_of}
use Rattle.mav_frame.specs.Looks.{is_old_at, header_size, id_at, check_offset, frame_size_at, checksum_at, packet_at, look_known, look_id, look_header, look_as, look_of}
use Rattle.mav_frame.specs.Parse.{IsIncompleteAs, IsIncomplete, StartsFrame, SkipReasonAs, SkipReason}
use Rattle.mav_frame.specs.declared.looks.Look.{Look}
use Rattle.mav_frame.specs.declared.looks.Look.TheVariants.{Frame as Found, NotHere, More}
use Rattle.mav_frame.specs.declared.looks.Why.{Why}
use Rattle.mav_frame.specs.declared.looks.Why.TheVariants.{NotStx, UnknownFlag, UnknownId, BadCheck, Short}
use Rattle.mav_frame.proofs.EncodedFound.{skip, pick}
use Rattle.mav_frame.proofs.MoreBytes.{tested, true_lt, lt_true}

-- ---- the first test

first_false : (l byte : ℕ) → (0 < l → byte ≡ 0xFD) → (nat_lt 0 l && not (byte == 0xFD)) ≡ false
first_false l byte h = elim (cases_lt 0 l) [
  | inl some ↦ let e : byte ≡ 0xFD = h some in grind (arith, nat_tests)
  | inr none ↦ grind (arith, nat_tests)
]

first_true : (l byte : ℕ) → 0 < l → byte ≢ 0xFD → (nat_lt 0 l && not (byte == 0xFD)) ≡ true
first_true l byte some other = grind (arith, nat_tests)

pub of_first_false : (l byte : ℕ) → (nat_lt 0 l && not (byte == 0xFD)) ≡ false → 0 < l → byte ≡ 0xFD
of_first_false l byte h some = grind (arith, nat_tests)

of_first_true : (l byte : ℕ) → (nat_lt 0 l && not (byte == 0xFD)) ≡ true → (0 < l) × (byte ≢ 0xFD)
of_first_true l byte h =
    let some : 0 < l = grind (arith, nat_tests) in
    (some, λ e. let same : (byte == 0xFD) ≡ true = grind (arith, nat_tests) in grind (arith, nat_tests))

equal_false : (a b : ℕ) → a ≢ b → (a == b) ≡ false
equal_false a b h = grind (arith, nat_tests)

equal_of : (a b : ℕ) → (a == b) ≡ true → a ≡ b
equal_of a b h = grind (arith, nat_tests)

of_equal_false : (a b : ℕ) → (a == b) ≡ false → a ≢ b
of_equal_false a b h e = let same : (a == b) ≡ true = grind (arith, nat_tests) in cc

some_of : (o : Option ℕ) → IsSome o → (n : ℕ) × (o ≡ Some n)
some_of None h = absurd (let t : false ≡ true = h in cc)
some_of (Some n) h = (n, refl)

found_more : (p : Packet) (n k : ℕ) → Found p n ≡ More k → ⊥
found_more p n k e = cc

not_more : (w : Why) (k : ℕ) → NotHere w ≡ More k → ⊥
not_more w k e = cc

more_not : (w : Why) (k : ℕ) → More k ≡ NotHere w → ⊥
more_not w k e = cc

found_not : (p : Packet) (n : ℕ) (w : Why) → Found p n ≡ NotHere w → ⊥
found_not p n w e = cc

same_why : (v w : Why) → ◌≡◌ {A = Look} (NotHere v) (NotHere w) → v ≡ w
same_why v w e = cc

-- after STX of one version and its flags
module _ (extras : List (ℕ × ℕ)) (v : Bool) (b : List ℕ) where
  abbrev held : ℕ
  held = length b

  abbrev after_header : Look
  after_header = look_id v (extra_of (id_at v b) extras) b

  abbrev checked : ℕ → Look
  checked extra = if number_at 2 (check_offset v b) b == checksum_at v extra b then Found (packet_at v b) (frame_size_at v b) else NotHere BadCheck

  -- ---- from words to the table

  to_header : header_size v ≤ held → look_header extras v b ≡ after_header
  to_header long = skip _ _ _ (le-ltb held (header_size v) long)

  to_known : header_size v ≤ held → (extra : ℕ) → extra_of (id_at v b) extras ≡ Some extra → look_header extras v b ≡ look_known v extra b
  to_known long extra known = to_header long ∙ ap (λ (o : Option ℕ). look_id v o b) known

  header_lacks : IsIncompleteAs extras v b → (k : ℕ) × (look_header extras v b ≡ More k)
  header_lacks h = elim (cases_lt held (header_size v)) [
    | inl short ↦ (header_size v - held, pick _ _ _ (lt_true held (header_size v) short))
    | inr long ↦
        let known = some_of (extra_of (id_at v b) extras) (h.known long) in
        (frame_size_at v b - held, to_known long known.0 known.1 ∙ pick _ _ _ (lt_true held (frame_size_at v b) (h.short long)))
  ]

  -- ---- from the table to words

  more_checked : (extra k : ℕ) → checked extra ≡ More k → ⊥
  more_checked extra k e = ⊎_elim
      (λ (t : ((number_at 2 (check_offset v b) b == checksum_at v extra b) ≡ true) × (Found (packet_at v b) (frame_size_at v b) ≡ More k)). found_more _ _ k t.1)
      (λ (t : ((number_at 2 (check_offset v b) b == checksum_at v extra b) ≡ false) × (NotHere BadCheck ≡ More k)). not_more _ k t.1)
      (tested (number_at 2 (check_offset v b) b == checksum_at v extra b) _ _ (More k) e)

  more_id : (o : Option ℕ) (k : ℕ) → look_id v o b ≡ More k → IsSome o × (held < frame_size_at v b)
  more_id None k e = absurd (not_more UnknownId k e)
  more_id (Some extra) k e = ⊎_elim
      (λ (t : (nat_lt held (frame_size_at v b) ≡ true) × (More (frame_size_at v b - held) ≡ More k)). (refl, true_lt _ _ t.0))
      (λ (t : (nat_lt held (frame_size_at v b) ≡ false) × (checked extra ≡ More k)). absurd (more_checked extra k t.1))
      (tested (nat_lt held (frame_size_at v b)) _ _ (More k) e)

  more_header : (0 < held → slice_index b 0 ≡ stx_of v) → (v ≡ false → 3 ≤ held → slice_index b 2 ≤ 1) → (k : ℕ) → look_header extras v b ≡ More k → IsIncompleteAs extras v b
  more_header stx flag k e = ⊎_elim
      (λ (t : (nat_lt held (header_size v) ≡ true) × (More (header_size v - held) ≡ More k)).
      let short : held < header_size v = true_lt _ _ t.0 in
      record { stx = stx; flag = flag; known = λ long. absurd (omega arith); short = λ long. absurd (omega arith) })
      (λ (t : (nat_lt held (header_size v) ≡ false) × (after_header ≡ More k)).
      let rest = more_id (extra_of (id_at v b) extras) k t.1 in
      record { stx = stx; flag = flag; known = λ _. rest.0; short = λ _. rest.1 })
      (tested (nat_lt held (header_size v)) _ _ (More k) e)

  -- what holds of one reason holds of an equal one
  as_reason : (x w : Why) → SkipReasonAs extras v b x → ◌≡◌ {A = Look} (NotHere x) (NotHere w) → SkipReasonAs extras v b w
  as_reason x w h e = subst (λ (y : Why). SkipReasonAs extras v b y) (same_why x w e) h

  reason_known : StartsFrame v b → header_size v ≤ held → (extra : ℕ) → extra_of (id_at v b) extras ≡ Some extra → (w : Why) → look_known v extra b ≡ NotHere w → SkipReasonAs extras v b w
  reason_known starts long extra known w e = ⊎_elim
      (λ (t : (nat_lt held (frame_size_at v b) ≡ true) × (More (frame_size_at v b - held) ≡ NotHere w)). absurd (more_not w _ t.1))
      (λ (t : (nat_lt held (frame_size_at v b) ≡ false) × (checked extra ≡ NotHere w)). ⊎_elim
      (λ (u : ((number_at 2 (check_offset v b) b == checksum_at v extra b) ≡ true) × (Found (packet_at v b) (frame_size_at v b) ≡ NotHere w)). absurd (found_not _ _ w u.1))
      (λ (u : ((number_at 2 (check_offset v b) b == checksum_at v extra b) ≡ false) × (NotHere BadCheck ≡ NotHere w)).
      as_reason BadCheck w (record { starts = starts; extra = extra; long = long; known = known; whole = ltb-false _ _ t.0; wrong = of_equal_false _ _ u.0 }) u.1)
      (tested (number_at 2 (check_offset v b) b == checksum_at v extra b) _ _ (NotHere w) t.1))
      (tested (nat_lt held (frame_size_at v b)) _ _ (NotHere w) e)

  reason_id : StartsFrame v b → header_size v ≤ held → (o : Option ℕ) → extra_of (id_at v b) extras ≡ o → (w : Why) → look_id v o b ≡ NotHere w → SkipReasonAs extras v b w
  reason_id starts long None none w e = as_reason UnknownId w (starts, long, none) e
  reason_id starts long (Some extra) known w e = reason_known starts long extra known w e

  reason_header : StartsFrame v b → (w : Why) → look_header extras v b ≡ NotHere w → SkipReasonAs extras v b w
  reason_header starts w e = ⊎_elim
      (λ (t : (nat_lt held (header_size v) ≡ true) × (More (header_size v - held) ≡ NotHere w)). absurd (more_not w _ t.1))
      (λ (t : (nat_lt held (header_size v) ≡ false) × (after_header ≡ NotHere w)).
      reason_id starts (ltb-false _ _ t.0) (extra_of (id_at v b) extras) refl w t.1)
      (tested (nat_lt held (header_size v)) _ _ (NotHere w) e)

  -- a reason at or after the header is one of the table
  listed_header : (why : Why) → why ≢ NotStx → why ≢ UnknownFlag → SkipReasonAs extras v b why → (look_header extras v b ≡ NotHere why) ⊎ (IsIncompleteAs extras v b × (why ≡ Short))
  listed_header NotStx a f h = absurd (a refl)
  listed_header UnknownFlag a f h = absurd (f refl)
  listed_header UnknownId a f h = inl (to_header h.1 ∙ ap (λ (o : Option ℕ). look_id v o b) h.2)
  listed_header BadCheck a f h = inl (to_known h.long h.extra h.known ∙ (skip _ _ _ (le-ltb held (frame_size_at v b) h.whole) ∙ skip _ _ _ (equal_false _ _ h.wrong)))
  listed_header Short a f h = inr (h, refl)

no_truth : true ≡ false → ⊥
no_truth e = cc

-- the tests of MAVLink 2 before the header
module _ (extras : List (ℕ × ℕ)) (b : List ℕ) where
  abbrev after_three : Look
  after_three = if nat_lt 1 (slice_index b 2) then NotHere UnknownFlag else look_header extras false b

  abbrev after_stx : Look
  after_stx = if nat_lt (length b) 3 then More (3 - length b) else after_three

  to_stx : (0 < length b → slice_index b 0 ≡ 0xFD) → look_as extras false b ≡ after_stx
  to_stx stx = skip _ _ _ (first_false (length b) (slice_index b 0) stx)

  to_three : slice_index b 0 ≡ 0xFD → 3 ≤ length b → look_as extras false b ≡ after_three
  to_three stx three = to_stx (λ _. stx) ∙ skip _ _ _ (le-ltb (length b) 3 three)

  to_flags : slice_index b 0 ≡ 0xFD → 3 ≤ length b → slice_index b 2 ≤ 1 → look_as extras false b ≡ look_header extras false b
  to_flags stx three flag = to_three stx three ∙ skip _ _ _ (le-ltb 1 (slice_index b 2) flag)

  new_lacks : IsIncompleteAs extras false b → (k : ℕ) × (look_as extras false b ≡ More k)
  new_lacks h = elim (cases_lt (length b) 3) [
    | inl short ↦ (3 - length b, to_stx h.stx ∙ pick _ _ _ (lt_true (length b) 3 short))
    | inr three ↦ let k = header_lacks extras false b h in (k.0, to_flags (h.stx (omega arith)) three (h.flag refl three) ∙ k.1)
  ]

  new_header : (why : Why) → why ≢ NotStx → why ≢ UnknownFlag → StartsFrame false b → 3 ≤ length b → SkipReasonAs extras false b why → (look_as extras false b ≡ NotHere why) ⊎ (IsIncompleteAs extras false b × (why ≡ Short))
  new_header why a f starts three h = ⊎_elim
      (λ (e : look_header extras false b ≡ NotHere why). inl (to_flags starts.stx three (starts.flag refl) ∙ e))
      (λ (t : IsIncompleteAs extras false b × (why ≡ Short)). inr t)
      (listed_header extras false b why a f h)

  new_listed : (why : Why) → SkipReasonAs extras false b why → (look_as extras false b ≡ NotHere why) ⊎ (IsIncompleteAs extras false b × (why ≡ Short))
  new_listed NotStx h = inl (pick _ _ _ (first_true (length b) (slice_index b 0) h.0 h.1))
  new_listed UnknownFlag h = inl (to_three h.1 h.2 ∙ pick _ _ _ (lt_true 1 (slice_index b 2) h.3))
  new_listed UnknownId h = new_header UnknownId (λ e. let t : UnknownId ≡ NotStx = e in cc) (λ e. let t : UnknownId ≡ UnknownFlag = e in cc) h.0 (let l = h.1 in omega arith) h
  new_listed BadCheck h = new_header BadCheck (λ e. let t : BadCheck ≡ NotStx = e in cc) (λ e. let t : BadCheck ≡ UnknownFlag = e in cc) h.starts (let l = h.long in omega arith) h
  new_listed Short h = inr (h, refl)

  more_stx : (0 < length b → slice_index b 0 ≡ 0xFD) → (k : ℕ) → after_stx ≡ More k → IsIncompleteAs extras false b
  more_stx stx k e = ⊎_elim
      (λ (t : (nat_lt (length b) 3 ≡ true) × (More (3 - length b) ≡ More k)).
      let short : length b < 3 = true_lt _ _ t.0 in
      record { stx = stx; flag = λ _ three. absurd (omega arith); known = λ long. absurd (omega arith); short = λ long. absurd (omega arith) })
      (λ (t : (nat_lt (length b) 3 ≡ false) × (after_three ≡ More k)). ⊎_elim
      (λ (u : (nat_lt 1 (slice_index b 2) ≡ true) × (NotHere UnknownFlag ≡ More k)). absurd (not_more _ k u.1))
      (λ (u : (nat_lt 1 (slice_index b 2) ≡ false) × (look_header extras false b ≡ More k)). more_header extras false b stx (λ _ _. ltb-false _ _ u.0) k u.1)
      (tested (nat_lt 1 (slice_index b 2)) _ _ (More k) t.1))
      (tested (nat_lt (length b) 3) _ _ (More k) e)

  new_incomplete : (k : ℕ) → look_as extras false b ≡ More k → IsIncompleteAs extras false b
  new_incomplete k e = ⊎_elim
      (λ (t : ((nat_lt 0 (length b) && not (slice_index b 0 == 0xFD)) ≡ true) × (NotHere NotStx ≡ More k)). absurd (not_more _ k t.1))
      (λ (t : ((nat_lt 0 (length b) && not (slice_index b 0 == 0xFD)) ≡ false) × (after_stx ≡ More k)). more_stx (of_first_false (length b) (slice_index b 0) t.0) k t.1)
      (tested (nat_lt 0 (length b) && not (slice_index b 0 == 0xFD)) _ _ (More k) e)

  reason_stx : (0 < length b → slice_index b 0 ≡ 0xFD) → (w : Why) → after_stx ≡ NotHere w → SkipReasonAs extras false b w
  reason_stx stx w e = ⊎_elim
      (λ (t : (nat_lt (length b) 3 ≡ true) × (More (3 - length b) ≡ NotHere w)). absurd (more_not w _ t.1))
      (λ (t : (nat_lt (length b) 3 ≡ false) × (after_three ≡ NotHere w)).
      let three : 3 ≤ length b = ltb-false _ _ t.0 in
      let first : slice_index b 0 ≡ 0xFD = stx (omega arith) in ⊎_elim
      (λ (u : (nat_lt 1 (slice_index b 2) ≡ true) × (NotHere UnknownFlag ≡ NotHere w)). as_reason extras false b UnknownFlag w (refl, first, three, true_lt _ _ u.0) u.1)
      (λ (u : (nat_lt 1 (slice_index b 2) ≡ false) × (look_header extras false b ≡ NotHere w)).
      reason_header extras false b (record { stx = first; flag = λ _. ltb-false _ _ u.0 }) w u.1)
      (tested (nat_lt 1 (slice_index b 2)) _ _ (NotHere w) t.1))
      (tested (nat_lt (length b) 3) _ _ (NotHere w) e)

  new_reason : (w : Why) → look_as extras false b ≡ NotHere w → SkipReasonAs extras false b w
  new_reason w e = ⊎_elim
      (λ (t : ((nat_lt 0 (length b) && not (slice_index b 0 == 0xFD)) ≡ true) × (NotHere NotStx ≡ NotHere w)). as_reason extras false b NotStx w (of_first_true (length b) (slice_index b 0) t.0) t.1)
      (λ (t : ((nat_lt 0 (length b) && not (slice_index b 0 == 0xFD)) ≡ false) × (after_stx ≡ NotHere w)). reason_stx (of_first_false (length b) (slice_index b 0) t.0) w t.1)
      (tested (nat_lt 0 (length b) && not (slice_index b 0 == 0xFD)) _ _ (NotHere w) e)

-- ---- of the version whose STX comes first

old_stx : (old : Bool) (b : List ℕ) → is_old_at old b ≡ true → slice_index b 0 ≡ 0xFE
old_stx true b e = equal_of (slice_index b 0) 0xFE e
old_stx false b e = absurd (let t : false ≡ true = e in cc)

lacks_as : (v : Bool) (extras : List (ℕ × ℕ)) (b : List ℕ) → IsIncompleteAs extras v b → (k : ℕ) × (look_as extras v b ≡ More k)
lacks_as true extras b h = header_lacks extras true b h
lacks_as false extras b h = new_lacks extras b h

pub lacks : (extras : List (ℕ × ℕ)) (old : Bool) (b : List ℕ) → IsIncomplete extras old b → (k : ℕ) × (look_of extras old b ≡ More k)
lacks extras old b h = lacks_as (is_old_at old b) extras b h

listed_as : (v : Bool) (extras : List (ℕ × ℕ)) (b : List ℕ) → (v ≡ true → slice_index b 0 ≡ 0xFE) → (why : Why) → SkipReasonAs extras v b why → (look_as extras v b ≡ NotHere why) ⊎ (IsIncompleteAs extras v b × (why ≡ Short))
listed_as true extras b stx NotStx h = absurd (h.1 (stx refl))
listed_as true extras b stx UnknownFlag h = absurd (no_truth h.0)
listed_as true extras b stx UnknownId h = listed_header extras true b UnknownId (λ e. let t : UnknownId ≡ NotStx = e in cc) (λ e. let t : UnknownId ≡ UnknownFlag = e in cc) h
listed_as true extras b stx BadCheck h = listed_header extras true b BadCheck (λ e. let t : BadCheck ≡ NotStx = e in cc) (λ e. let t : BadCheck ≡ UnknownFlag = e in cc) h
listed_as true extras b stx Short h = inr (h, refl)
listed_as false extras b stx why h = new_listed extras b why h

pub listed : (extras : List (ℕ × ℕ)) (old : Bool) (b : List ℕ) (why : Why) → SkipReason extras old b why → (look_of extras old b ≡ NotHere why) ⊎ (IsIncomplete extras old b × (why ≡ Short))
listed extras old b why h = listed_as (is_old_at old b) extras b (old_stx old b) why h

incomplete_as : (v : Bool) (extras : List (ℕ × ℕ)) (b : List ℕ) → (v ≡ true → slice_index b 0 ≡ 0xFE) → (k : ℕ) → look_as extras v b ≡ More k → IsIncompleteAs extras v b
incomplete_as true extras b stx k e = more_header extras true b (λ _. stx refl) (λ bad. absurd (no_truth bad)) k e
incomplete_as false extras b stx k e = new_incomplete extras b k e

pub incomplete : (extras : List (ℕ × ℕ)) (old : Bool) (b : List ℕ) (k : ℕ) → look_of extras old b ≡ More k → IsIncomplete extras old b
incomplete extras old b k e = incomplete_as (is_old_at old b) extras b (old_stx old b) k e

reason_as : (v : Bool) (extras : List (ℕ × ℕ)) (b : List ℕ) → (v ≡ true → slice_index b 0 ≡ 0xFE) → (w : Why) → look_as extras v b ≡ NotHere w → SkipReasonAs extras v b w
reason_as true extras b stx w e = reason_header extras true b (record { stx = stx refl; flag = λ bad. absurd (no_truth bad) }) w e
reason_as false extras b stx w e = new_reason extras b w e

pub reason : (extras : List (ℕ × ℕ)) (old : Bool) (b : List ℕ) (w : Why) → look_of extras old b ≡ NotHere w → SkipReason extras old b w
reason extras old b w e = reason_as (is_old_at old b) extras b (old_stx old b) w e
