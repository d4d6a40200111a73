-- What is read as a frame encodes it.
use Rattle.std.proofs.Common.{◌≡◌, ℕ, zero, suc, ◌+◌, ◌-◌, ◌*◌, ◌/◌, ◌%◌, ◌^◌, ◌<◌, ◌≤◌, ◌==◌, ◌&&◌, Bool, true, false, not, nat_lt, List, [], ◌∷◌, ◌++◌, length, All, take, drop, get_or, slice_index, slice_range, Option, Some, None, IfSome, if◌then◌else◌, refl, sym, ap, ◌∙◌, subst, arith, length-take, length-drop, take-add, drop-cons, append_assoc}
use Rattle.std.proofs.lemmas.Bool.{ltb-false}
use Rattle.std.proofs.lemmas.List.{drop-take, drop-drop, get_or_default}
use Rattle.std.proofs.lemmas.List.Elements.{All-take, All-drop}
use Rattle.std.proofs.lemmas.Bool.Decides.{nat_tests}
use mathlib.Core.Logic.{dite}
use native.Mathlib.Decide.{ℕ_discrete}
use Rattle.x25_check.specs.Check.{check}
use Rattle.x25_check.specs.Extras.{extra_of}
use Rattle.mav_frame.specs.Numbers.{little_endian, number_at}
use Rattle.mav_frame.specs.Packet.{Packet, FitsFrame, FitsBlock}
use Rattle.mav_frame.specs.Encoding.{stx_of, incompat_flags, block_bytes, header, checked_bytes, encoding, IsSealed, Encodes}
use Rattle.mav_frame.specs.Looks.{is_old_at, header_size, id_at, check_offset, frame_size_at, block_at, packet_at, look_known, look_id, look_header, look_as, look_of, IfFrame}
use Rattle.mav_frame.specs.declared.looks.Look.{Look}
use Rattle.mav_frame.specs.declared.looks.Look.TheVariants.{Frame as Found, NotHere, More}
use Rattle.mav_frame.specs.declared.looks.Why.{Why}
use Rattle.mav_frame.specs.declared.looks.Why.TheVariants.{NotStx, UnknownFlag, UnknownId, BadCheck}

abbrev pub IsBytes : List ℕ → Type 0
IsBytes b = (i : ℕ) → get_or b i 0 < 256

-- the bytes from an index on
abbrev listed : ℕ → ℕ → List ℕ → List ℕ
listed zero i b = []
listed (suc k) i b = slice_index b i ∷ listed k (i + 1) b

taken : (k i : ℕ) (b : List ℕ) → i + k ≤ length b → take k (drop i b) ≡ listed k i b
taken zero i b h = refl
taken (suc k) i b h =
    let c : drop i b ≡ get_or b i 0 ∷ drop (suc i) b = drop-cons b i 0 (omega arith) in
    ap (take (suc k)) c ∙ (λ j. get_or b i 0 ∷ (ap (λ (m : ℕ). take k (drop m b)) (let e : suc i ≡ i + 1 = omega arith in e) ∙ taken k (i + 1) b (omega arith)) j)

numbered : (k i : ℕ) (b : List ℕ) → IsBytes b → little_endian k (number_at k i b) ≡ listed k i b
numbered zero i b h = refl
numbered (suc k) i b h =
    let x : ℕ = get_or b i 0 in
    let n : ℕ = number_at k (i + 1) b in
    let small : x < 256 = h i in
    let low : (x + 256 * n) % 256 ≡ x = omega arith in
    let high : (x + 256 * n) / 256 ≡ n = omega arith in
    λ j. low j ∷ (ap (little_endian k) high ∙ numbered k (i + 1) b h) j

past : {A : Type 0} (t : Bool) (x y z : A) → (x ≡ z → ⊥) → (if t then x else y) ≡ z → (t ≡ false) × (y ≡ z)
past true x y z never e = absurd (never e)
past false x y z never e = (refl, e)

module _ (p : Packet) (n : ℕ) where
  known_id : (v : Bool) (o : Option ℕ) (b : List ℕ) → look_id v o b ≡ Found p n → (extra : ℕ) × (o ≡ Some extra) × (look_known v extra b ≡ Found p n)
  known_id v None b e = absurd (let t : NotHere UnknownId ≡ Found p n = e in cc)
  known_id v (Some extra) b e = (extra, refl, e)

  checked : (t : Bool) (q : Packet) (m : ℕ) → (if t then Found q m else NotHere BadCheck) ≡ Found p n → (t ≡ true) × (q ≡ p) × (m ≡ n)
  checked true q m e = let t : Found q m ≡ Found p n = e in let same : q ≡ p = cc in let size : m ≡ n = cc in (refl, same, size)
  checked false q m e = absurd (let t : NotHere BadCheck ≡ Found p n = e in cc)

eq_of : (a b : ℕ) → (a == b) ≡ true → a ≡ b
eq_of a b h = grind (arith, nat_tests)

first_of : (l a : ℕ) → 0 < l → (nat_lt 0 l && not (a == 0xFD)) ≡ false → a ≡ 0xFD
first_of l a h e = grind (arith, nat_tests)

not_found : (w : Why) (p : Packet) (n : ℕ) → NotHere w ≡ Found p n → ⊥
not_found w p n e = cc

more_found : (k : ℕ) (p : Packet) (n : ℕ) → More k ≡ Found p n → ⊥
more_found k p n e = cc

-- the facts that follow from a look at a header which finds a frame
pub record Facts (extras : List (ℕ × ℕ)) (v : Bool) (b : List ℕ) : Type 0 where
  pub long : header_size v ≤ length b
  pub extra : ℕ
  pub known : extra_of (id_at v b) extras ≡ Some extra
  pub whole : frame_size_at v b ≤ length b
  pub right : number_at 2 (check_offset v b) b ≡ check (slice_range b 1 (check_offset v b) ++ extra ∷ [])

facts : (extras : List (ℕ × ℕ)) (v : Bool) (b : List ℕ) (p : Packet) (n : ℕ) → look_header extras v b ≡ Found p n → Facts extras v b × (packet_at v b ≡ p) × (frame_size_at v b ≡ n)
facts extras v b p n e =
    let a3 = past _ (More (header_size v - length b)) _ (Found p n) (more_found (header_size v - length b) p n) e in
    let a4 = known_id p n v (extra_of (id_at v b) extras) b a3.1 in
    let a5 = past _ (More (frame_size_at v b - length b)) _ (Found p n) (more_found (frame_size_at v b - length b) p n) a4.2 in
    let a6 = checked p n _ (packet_at v b) (frame_size_at v b) a5.1 in (
      record {
        long = ltb-false _ _ a3.0;
        extra = a4.0;
        known = a4.1;
        whole = ltb-false _ _ a5.0;
        right = eq_of _ _ a6.0;
      },
      a6.1,
      a6.2,
    )

-- the bytes start with STX of the version and no unknown flag
pub record Starts (v : Bool) (b : List ℕ) : Type 0 where
  pub stx : slice_index b 0 ≡ stx_of v
  pub flag : v ≡ false → slice_index b 2 ≤ 1

new_start : (extras : List (ℕ × ℕ)) (b : List ℕ) (p : Packet) (n : ℕ) → look_as extras false b ≡ Found p n → Starts false b × (look_header extras false b ≡ Found p n)
new_start extras b p n e =
    let a0 = past _ (NotHere NotStx) _ (Found p n) (not_found NotStx p n) e in
    let a1 = past _ (More (3 - length b)) _ (Found p n) (more_found (3 - length b) p n) a0.1 in
    let a2 = past _ (NotHere UnknownFlag) _ (Found p n) (not_found UnknownFlag p n) a1.1 in
    let three : 3 ≤ length b = ltb-false _ _ a1.0 in
    (record { stx = first_of (length b) (slice_index b 0) (omega arith) a0.0; flag = λ _. ltb-false _ _ a2.0 }, a2.1)

both : (x y : Bool) → (x && y) ≡ true → (x ≡ true) × (y ≡ true)
both true y e = (refl, e)
both false y e = absurd (let bad : false ≡ true = e in cc)

starts : (extras : List (ℕ × ℕ)) (old v : Bool) (b : List ℕ) (p : Packet) (n : ℕ) → is_old_at old b ≡ v → look_as extras v b ≡ Found p n → Starts v b × (v ≡ true → old ≡ true) × (look_header extras v b ≡ Found p n)
starts extras old true b p n is e =
    let t = both old _ is in
    (record { stx = eq_of _ _ t.1; flag = λ bad. absurd (let no_such : true ≡ false = bad in cc) }, (λ _. t.0), e)
starts extras old false b p n is e =
    let t = new_start extras b p n e in
    (t.0, (λ bad. absurd (let no_such : false ≡ true = bad in cc)), t.1)

module _ (v : Bool) (b : List ℕ) (h : IsBytes b) where
  abbrev len : ℕ
  len = slice_index b 1

  abbrev offset : ℕ
  offset = check_offset v b

  all_bytes : All (λ x. x < 256) b
  all_bytes k d l = subst (λ (z : ℕ). z < 256) (get_or_default b k 0 d l) (h k)

  -- the payload after a header of that many bytes
  payload_long : offset ≤ length b → length (slice_range b (header_size v) offset) ≡ len
  payload_long e = omega (arith, length-take (offset - header_size v) (drop (header_size v) b), length-drop (header_size v) b)

  payload_bytes : All (λ x. x < 256) (slice_range b (header_size v) offset)
  payload_bytes = All-take (λ x. x < 256) _ _ (All-drop (λ x. x < 256) (header_size v) b all_bytes)

  start_and_payload : (start : List ℕ) → take (header_size v) b ≡ start → take offset b ≡ start ++ slice_range b (header_size v) offset
  start_and_payload start e =
      take-add (header_size v) len b ∙ (λ i. e i ++ take (let n : len ≡ offset - header_size v = omega arith in n i) (drop (header_size v) b))

  check_small : number_at 2 offset b < 2 ^ 16
  check_small = let x = h offset in let y = h (offset + 1) in omega arith

  check_is : offset + 2 ≤ length b → take 2 (drop offset b) ≡ little_endian 2 (number_at 2 offset b)
  check_is ends = taken 2 offset b ends ∙ sym (numbered 2 offset b h)

  -- what the checksum of the bytes runs over
  covered_is : (header : List ℕ) → (first : ℕ) → take offset b ≡ first ∷ (header ++ slice_range b (header_size v) offset) → 1 ≤ offset → slice_range b 1 offset ≡ header ++ slice_range b (header_size v) offset
  covered_is header first e some =
      let n : offset ≡ 1 + (offset - 1) = omega arith in
      sym (drop-take 1 (offset - 1) b) ∙ ap (drop 1) (ap (λ (k : ℕ). take k b) (sym n) ∙ e)

-- a frame of MAVLink 1
module _ (extras : List (ℕ × ℕ)) (b : List ℕ) (h : IsBytes b) (f : Facts extras true b) (s : Starts true b) where
  abbrev old_packet : Packet
  old_packet = packet_at true b

  old_ends : 6 + slice_index b 1 + 2 ≤ length b
  old_ends = let w = f.whole in omega arith

  old_payload : length old_packet.payload ≡ slice_index b 1
  old_payload = let e = old_ends in payload_long true b h (omega arith)

  old_start : take 6 b ≡ 0xFE ∷ header old_packet
  old_start =
      let t : take 6 b ≡ listed 6 0 b = taken 6 0 b f.long in
      let id : little_endian 1 (number_at 1 5 b) ≡ listed 1 5 b = numbered 1 5 b h in
      let first = s.stx in
      t ∙ (λ i. first i ∷ sym old_payload i ∷ slice_index b 2 ∷ slice_index b 3 ∷ slice_index b 4 ∷ sym id i)

  old_front : take (check_offset true b) b ≡ 0xFE ∷ checked_bytes old_packet
  old_front = start_and_payload true b h (0xFE ∷ header old_packet) old_start

  old_encoded : take (frame_size_at true b) b ≡ encoding old_packet
  old_encoded =
      let e = old_ends in
      ap (λ (k : ℕ). take k b) (let n : frame_size_at true b ≡ check_offset true b + 2 = omega arith in n)
      ∙ (take-add (check_offset true b) 2 b ∙ ((λ j. old_front j ++ check_is true b h (omega arith) j) ∙ append_nothing))
    where
      append_nothing : (0xFE ∷ checked_bytes old_packet) ++ little_endian 2 old_packet.check ≡ encoding old_packet
      append_nothing = simp append_assoc

  old_sealed : (old : Bool) → old ≡ true → IsSealed extras old old_packet
  old_sealed old is = record {
    extra = f.extra;
    known = f.known;
    right = f.right ∙ ap (λ (l : List ℕ). check (l ++ f.extra ∷ [])) (covered_is true b h (header old_packet) 0xFE old_front (omega arith));
    version = λ _. is;
  }

  old_fits : FitsFrame old_packet
  old_fits = record {
    compat = omega arith;
    seq = h 2;
    sys = h 3;
    comp = h 4;
    id = (let x = h 5 in omega arith);
    length = (let e = old_payload in let x = h 1 in omega arith);
    payload = payload_bytes true b h;
    check = check_small true b h;
    block = tt;
    old = λ _. record { id = (let x = h 5 in omega arith); compat = refl; block = refl };
  }

-- a frame of MAVLink 2
module _ (extras : List (ℕ × ℕ)) (b : List ℕ) (h : IsBytes b) (f : Facts extras false b) (s : Starts false b) where
  abbrev p : Packet
  p = packet_at false b

  abbrev place : ℕ
  place = 10 + slice_index b 1

  flag : slice_index b 2 ≤ 1
  flag = s.flag refl

  ends : place + 2 ≤ length b
  ends = let w = f.whole in omega arith

  new_payload : length p.payload ≡ slice_index b 1
  new_payload = let e = ends in payload_long false b h (omega arith)

  flag_is : incompat_flags p.block ≡ slice_index b 2
  flag_is = dite (ℕ_discrete (slice_index b 2) 0)
      (λ z. ap (λ (k : ℕ). incompat_flags (if k == 0 then None else block_at (place + 2) b)) z ∙ sym z)
      (λ n. let l = flag in let o : slice_index b 2 ≡ 1 = omega arith in ap (λ (k : ℕ). incompat_flags (if k == 0 then None else block_at (place + 2) b)) o ∙ sym o)

  new_start_is : take 10 b ≡ 0xFD ∷ header p
  new_start_is =
      let t : take 10 b ≡ listed 10 0 b = taken 10 0 b f.long in
      let id : little_endian 3 (number_at 3 7 b) ≡ listed 3 7 b = numbered 3 7 b h in
      let first = s.stx in
      t ∙ (λ i. first i ∷ sym new_payload i ∷ sym flag_is i ∷ slice_index b 3 ∷ slice_index b 4 ∷ slice_index b 5 ∷ slice_index b 6 ∷ sym id i)

  new_front : take place b ≡ 0xFD ∷ checked_bytes p
  new_front = start_and_payload false b h (0xFD ∷ header p) new_start_is

  block_is : take (if slice_index b 2 == 0 then 0 else 13) (drop (place + 2) b) ≡ block_bytes p.block
  block_is = dite (ℕ_discrete (slice_index b 2) 0)
      (λ z. subst P (sym z) refl)
      (λ n.
      let l = flag in let o : slice_index b 2 ≡ 1 = omega arith in
      let w : place + 2 + (if 1 == 0 then 0 else 13) ≤ length b = subst (λ (k : ℕ). place + 2 + (if k == 0 then 0 else 13) ≤ length b) o f.whole in
      let at : ℕ = place + 2 in
      let head : take 7 (drop at b) ≡ slice_index b at ∷ little_endian 6 (number_at 6 (at + 1) b) = taken 7 at b (omega arith) ∙ (λ i. slice_index b at ∷ sym (numbered 6 (at + 1) b h) i) in
      let sig : take 6 (drop 7 (drop at b)) ≡ slice_range b (at + 7) (at + 13) = ap (take 6) (drop-drop 7 at b) ∙ ap (λ (k : ℕ). take k (drop (at + 7) b)) (let e : 6 ≡ at + 13 - (at + 7) = omega arith in e) in
      let t : P 1 = take-add 7 6 (drop at b) ∙ (λ i. head i ++ sig i) in
      subst P (sym o) t)
    where
      P : ℕ → Type 0
      P k = take (if k == 0 then 0 else 13) (drop (place + 2) b) ≡ block_bytes (if k == 0 then None else block_at (place + 2) b)

  new_encoded : take (frame_size_at false b) b ≡ encoding p
  new_encoded =
      take-add (place + 2) (if slice_index b 2 == 0 then 0 else 13) b
      ∙ (λ i. (take-add place 2 b ∙ (λ j. new_front j ++ check_is false b h ends j)) i ++ block_is i)

  new_sealed : (old : Bool) → IsSealed extras old p
  new_sealed old = record {
    extra = f.extra;
    known = f.known;
    right = f.right ∙ ap (λ (l : List ℕ). check (l ++ f.extra ∷ [])) (covered_is false b h (header p) 0xFD new_front (omega arith));
    version = λ bad. absurd (let no_such : false ≡ true = bad in cc);
  }

  block_fits : IfSome p.block FitsBlock
  block_fits = dite (ℕ_discrete (slice_index b 2) 0)
      (λ z. subst P (sym z) tt)
      (λ n.
      let l = flag in let o : slice_index b 2 ≡ 1 = omega arith in
      let w : place + 2 + (if 1 == 0 then 0 else 13) ≤ length b = subst (λ (k : ℕ). place + 2 + (if k == 0 then 0 else 13) ≤ length b) o f.whole in
      let at : ℕ = place + 2 in
      let t : P 1 = record {
        link = h at;
        stamp = (let x1 = h (at + 1) in let x2 = h (at + 1 + 1) in let x3 = h (at + 1 + 1 + 1) in let x4 = h (at + 1 + 1 + 1 + 1) in let x5 = h (at + 1 + 1 + 1 + 1 + 1) in let x6 = h (at + 1 + 1 + 1 + 1 + 1 + 1) in omega arith);
        length = omega (arith, length-take (at + 13 - (at + 7)) (drop (at + 7) b), length-drop (at + 7) b);
        bytes = All-take (λ x. x < 256) _ _ (All-drop (λ x. x < 256) (at + 7) b (all_bytes false b h));
      } in
      subst P (sym o) t)
    where
      P : ℕ → Type 0
      P k = IfSome (if k == 0 then None else block_at (place + 2) b) FitsBlock

  new_fits : FitsFrame p
  new_fits = record {
    compat = h 3;
    seq = h 4;
    sys = h 5;
    comp = h 6;
    id = (let x = h 7 in let y = h 8 in let z = h 9 in omega arith);
    length = (let e = new_payload in let x = h 1 in omega arith);
    payload = payload_bytes false b h;
    check = check_small false b h;
    block = block_fits;
    old = λ bad. absurd (let no_such : false ≡ true = bad in cc);
  }

-- a look finds a frame only if its bytes encode it
once_as : (v : Bool) (extras : List (ℕ × ℕ)) (old : Bool) (b : List ℕ) → IsBytes b → Facts extras v b → Starts v b → (v ≡ true → old ≡ true) → (frame_size_at v b ≤ length b) × Encodes extras old (packet_at v b) (take (frame_size_at v b) b) × FitsFrame (packet_at v b)
once_as true extras old b h f s is = (f.whole, record { sealed = old_sealed extras b h f s old (is refl); bytes = old_encoded extras b h f s }, old_fits extras b h f s)
once_as false extras old b h f s is = (f.whole, record { sealed = new_sealed extras b h f s old; bytes = new_encoded extras b h f s }, new_fits extras b h f s)

pub once : (extras : List (ℕ × ℕ)) (old : Bool) (b : List ℕ) (p : Packet) (n : ℕ) → IsBytes b → look_of extras old b ≡ Found p n → (n ≤ length b) × Encodes extras old p (take n b) × FitsFrame p
once extras old b p n h e =
    let v : Bool = is_old_at old b in
    let s = starts extras old v b p n refl e in
    let f = facts extras v b p n s.2 in
    let Q : Packet × ℕ → Type 0 = λ z. (z.1 ≤ length b) × Encodes extras old z.0 (take z.1 b) × FitsFrame z.0 in
    subst Q (λ i. (f.1 i, f.2 i)) (once_as v extras old b h f.0 s.0 s.1)

-- the frame that is found, and its length, are those of the bytes
pub found_is : (extras : List (ℕ × ℕ)) (old : Bool) (b : List ℕ) (p : Packet) (n : ℕ) → look_of extras old b ≡ Found p n → (packet_at (is_old_at old b) b ≡ p) × (frame_size_at (is_old_at old b) b ≡ n)
found_is extras old b p n e =
    let v : Bool = is_old_at old b in
    let s = starts extras old v b p n refl e in
    let f = facts extras v b p n s.2 in (f.1, f.2)

pub once_look : (extras : List (ℕ × ℕ)) (old : Bool) (b : List ℕ) (r : Look) → IsBytes b → r ≡ look_of extras old b → IfFrame r (λ p n. (n ≤ length b) × Encodes extras old p (take n b) × FitsFrame p)
once_look extras old b (Found p n) h e = once extras old b p n h (sym e)
once_look extras old b (NotHere w) h e = tt
once_look extras old b (More k) h e = tt
