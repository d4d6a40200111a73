-- What encodes a frame is read as that frame, whatever follows.
use Rattle.std.proofs.Common.{◌≡◌, ℕ, ◌+◌, ◌-◌, ◌*◌, ◌/◌, ◌%◌, ◌≤◌, ◌==◌, ◌&&◌, Bool, true, false, nat_lt, List, [], ◌∷◌, ◌++◌, length, take, drop, get_or, slice_index, slice_range, Option, Some, None, IfSome, if◌then◌else◌, refl, sym, ap, ◌∙◌, arith, length-append, append_assoc}
use Rattle.std.proofs.lemmas.List.{get_or-append-add}
use Rattle.std.proofs.Math.Seq.{drop-append-add}
use Rattle.std.proofs.lemmas.Bool.{le-ltb}
use Rattle.std.proofs.lemmas.Bool.Decides.{nat_tests}
use Rattle.std.proofs.Math.Seq.{take-append_seam}
use Rattle.x25_check.specs.Check.{check}
use Rattle.x25_check.specs.Extras.{extra_of}
use Rattle.mav_frame.specs.Numbers.{little_endian, number_at}
use Rattle.mav_frame.specs.Packet.{SignatureBlock, Packet, FitsFrame, FitsBlock, FitsOld}
use Rattle.mav_frame.specs.Encoding.{stx_of, incompat_flags, block_bytes, header_of, encoding, IsSealed}
use Rattle.mav_frame.specs.Looks.{header_size, id_at, check_offset, frame_size_at, block_at, packet_at, look_id, look_header, look_as, look_of}
use Rattle.mav_frame.specs.declared.looks.Look.TheVariants.{Frame as Found}

pub skip : {A : Type 0} (t : Bool) (x y : A) → t ≡ false → (if t then x else y) ≡ y
skip true x y e = absurd (let bad : true ≡ false = e in cc)
skip false x y e = refl

pub pick : {A : Type 0} (t : Bool) (x y : A) → t ≡ true → (if t then x else y) ≡ x
pick true x y e = refl
pick false x y e = absurd (let bad : false ≡ true = e in cc)

pub and_false : (x : Bool) → (x && false) ≡ false
and_false true = refl
and_false false = refl

eq_is : (a b : ℕ) → a ≡ b → (a == b) ≡ true
eq_is a b h = grind (arith, nat_tests)

flags_le : (o : Option SignatureBlock) → incompat_flags o ≤ 1
flags_le None = omega arith
flags_le (Some s) = omega arith

abbrev block_size : Option SignatureBlock → ℕ
block_size o = if incompat_flags o == 0 then 0 else 13

length_block : (o : Option SignatureBlock) → IfSome o FitsBlock → length (block_bytes o) ≡ block_size o
length_block None f = refl
length_block (Some s) f = let l = f.length in omega arith

-- a block after some bytes is read as that block
block_again : (H : List ℕ) (n : ℕ) (s : SignatureBlock) (rest : List ℕ) → FitsBlock s → n ≡ length H → block_at n (H ++ (block_bytes (Some s) ++ rest)) ≡ Some s
block_again H n s rest f is =
    let T : List ℕ = block_bytes (Some s) ++ rest in
    let at : (j k : ℕ) → j ≡ n + k → slice_index (H ++ T) j ≡ slice_index T k = λ j k e. ap (λ (m : ℕ). get_or (H ++ T) m 0) (let e' : j ≡ length H + k = omega arith in e') ∙ get_or-append-add H T k 0 in
    let link : slice_index (H ++ T) n ≡ s.link = at n 0 (omega arith) in
    let s1 = at (n + 1) 1 (omega arith) in
    let s2 = at (n + 1 + 1) 2 (omega arith) in
    let s3 = at (n + 1 + 1 + 1) 3 (omega arith) in
    let s4 = at (n + 1 + 1 + 1 + 1) 4 (omega arith) in
    let s5 = at (n + 1 + 1 + 1 + 1 + 1) 5 (omega arith) in
    let s6 = at (n + 1 + 1 + 1 + 1 + 1 + 1) 6 (omega arith) in
    let small = f.stamp in
    let stamp : number_at 6 (n + 1) (H ++ T) ≡ s.stamp = omega arith in
    let len = f.length in
    let back : drop (n + 7) (H ++ T) ≡ s.sig ++ rest = ap (λ (m : ℕ). drop m (H ++ T)) (let e : n + 7 ≡ length H + 7 = omega arith in e) ∙ drop-append-add H T 7 in
    let sig : slice_range (H ++ T) (n + 7) (n + 13) ≡ s.sig = ap (take (n + 13 - (n + 7))) back ∙ (ap (λ (m : ℕ). take m (s.sig ++ rest)) (let e : n + 13 - (n + 7) ≡ length s.sig = omega arith in e) ∙ take-append_seam s.sig rest) in
    λ i. Some record { link = link i; stamp = stamp i; sig = sig i }

block_read : (H b : List ℕ) (n : ℕ) (o : Option SignatureBlock) (rest : List ℕ) → IfSome o FitsBlock → n ≡ length H → b ≡ H ++ (block_bytes o ++ rest) → (if incompat_flags o == 0 then None else block_at n b) ≡ o
block_read H b n None rest f is e = refl
block_read H b n (Some s) rest f is e = ap (block_at n) e ∙ block_again H n s rest f is

-- a frame's bytes and what follows, as a header, a payload and the rest
module _ (v : Bool) (p : Packet) (rest : List ℕ) (f : FitsFrame p) where
  abbrev start : List ℕ
  start = stx_of v ∷ header_of v p

  abbrev tail : List ℕ
  tail = little_endian 2 p.check ++ (block_bytes p.block ++ rest)

  abbrev b : List ℕ
  b = start ++ (p.payload ++ tail)

  start_size : length start ≡ header_size v
  start_size = sizes v
    where
      sizes : (w : Bool) → length (stx_of w ∷ header_of w p) ≡ header_size w
      sizes true = refl
      sizes false = refl

  offset_is : check_offset v b ≡ length start + length p.payload
  offset_is = let s = start_size in let e = second v in omega arith
    where
      second : (w : Bool) → slice_index ((stx_of w ∷ header_of w p) ++ (p.payload ++ tail)) 1 ≡ length p.payload
      second true = refl
      second false = refl

  after_payload : (k : ℕ) → slice_index b (length start + length p.payload + k) ≡ slice_index tail k
  after_payload k = let e : length start + length p.payload + k ≡ length start + (length p.payload + k) = omega arith in
      ap (λ (n : ℕ). get_or b n 0) e ∙ (get_or-append-add start (p.payload ++ tail) (length p.payload + k) 0 ∙ get_or-append-add p.payload tail k 0)

  check_is : number_at 2 (check_offset v b) b ≡ p.check
  check_is =
      let n : ℕ = length start + length p.payload in
      let i0 : slice_index b n ≡ p.check % 256 = ap (λ (m : ℕ). get_or b m 0) (let e : n ≡ n + 0 = omega arith in e) ∙ after_payload 0 in
      let i1 : slice_index b (n + 1) ≡ p.check / 256 % 256 = after_payload 1 in
      let small = f.check in
      let t : slice_index b n + 256 * (slice_index b (n + 1) + 256 * 0) ≡ p.check = omega arith in
      ap (λ (m : ℕ). number_at 2 m b) offset_is ∙ t

  payload_is : slice_range b (header_size v) (check_offset v b) ≡ p.payload
  payload_is =
      let s = start_size in let o = offset_is in
      let n : check_offset v b - header_size v ≡ length p.payload = omega arith in
      let d : drop (header_size v) b ≡ p.payload ++ tail = ap (λ (m : ℕ). drop m b) (let e : header_size v ≡ length start + 0 = omega arith in e) ∙ drop-append-add start (p.payload ++ tail) 0 in
      (λ i. take (n i) (d i)) ∙ take-append_seam p.payload tail

  covered_is : slice_range b 1 (check_offset v b) ≡ header_of v p ++ p.payload
  covered_is =
      let o = offset_is in let l = length-append (header_of v p) p.payload in
      let e : drop 1 b ≡ (header_of v p ++ p.payload) ++ tail = sym (append_assoc (header_of v p) p.payload tail) in
      let n : check_offset v b - 1 ≡ length (header_of v p ++ p.payload) = omega arith in
      (λ i. take (n i) (e i)) ∙ take-append_seam (header_of v p ++ p.payload) tail

  abbrev before : List ℕ
  before = start ++ (p.payload ++ little_endian 2 p.check)

  before_is : b ≡ before ++ (block_bytes p.block ++ rest)
  before_is = sym (append_assoc start (p.payload ++ little_endian 2 p.check) (block_bytes p.block ++ rest) ∙ ap (λ (l : List ℕ). start ++ l) (append_assoc p.payload (little_endian 2 p.check) (block_bytes p.block ++ rest)))

  abbrev encoded : List ℕ
  encoded = stx_of v ∷ (header_of v p ++ p.payload) ++ little_endian 2 p.check ++ block_bytes p.block

  encoded_is : encoded ++ rest ≡ b
  encoded_is = simp append_assoc

  encoded_size : length encoded ≡ header_size v + length p.payload + 2 + block_size p.block
  encoded_size =
      let s = start_size in
      let l = length-append (header_of v p ++ p.payload ++ little_endian 2 p.check) (block_bytes p.block) in
      let m = length-append (header_of v p ++ p.payload) (little_endian 2 p.check) in
      let n = length-append (header_of v p) p.payload in
      let k = length_block p.block f.block in omega arith

  long : length b ≡ length encoded + length rest
  long = ap length (sym encoded_is) ∙ length-append encoded rest

-- after the header, what is encoded is found, if its id, the length and the frame are read back
module _ (v : Bool) (p : Packet) (rest : List ℕ) (f : FitsFrame p) (extras : List (ℕ × ℕ)) (extra : ℕ) where
  pub header_found :
      extra_of p.id extras ≡ Some extra
      → p.check ≡ check ((header_of v p ++ p.payload) ++ extra ∷ [])
      → id_at v (b v p rest f) ≡ p.id
      → frame_size_at v (b v p rest f) ≡ length (encoded v p rest f)
      → packet_at v (b v p rest f) ≡ p
      → look_header extras v (b v p rest f) ≡ Found p (length (encoded v p rest f))
  header_found known right id size packet =
      let c : List ℕ = b v p rest f in
      let l = long v p rest f in let e = encoded_size v p rest f in
      let same : number_at 2 (check_offset v c) c ≡ check (slice_range c 1 (check_offset v c) ++ extra ∷ []) = check_is v p rest f ∙ (right ∙ ap (λ (m : List ℕ). check (m ++ extra ∷ [])) (sym (covered_is v p rest f))) in
      skip _ _ _ (le-ltb (length c) (header_size v) (omega arith))
      ∙ (ap (λ (o : Option ℕ). look_id v o c) (ap (λ (i : ℕ). extra_of i extras) id ∙ known)
      ∙ (skip _ _ _ (le-ltb (length c) (frame_size_at v c) (omega arith))
      ∙ (pick _ _ _ (eq_is _ _ same)
      ∙ (λ i. Found (packet i) (size i)))))

-- a frame of MAVLink 2
module _ (p : Packet) (rest : List ℕ) (f : FitsFrame p) where
  new_size : frame_size_at false (b false p rest f) ≡ length (encoded false p rest f)
  new_size = let e = encoded_size false p rest f in
      let t : 10 + length p.payload + 2 + block_size p.block ≡ length (encoded false p rest f) = omega arith in t

  new_block : (if incompat_flags p.block == 0 then None else block_at (10 + length p.payload + 2) (b false p rest f)) ≡ p.block
  new_block =
      let m = length-append p.payload (little_endian 2 p.check) in
      let n : 10 + length p.payload + 2 ≡ length (before false p rest f) = omega arith in
      block_read (before false p rest f) (b false p rest f) (10 + length p.payload + 2) p.block rest f.block n (before_is false p rest f)

  new_packet : packet_at false (b false p rest f) ≡ record p { old = false }
  new_packet =
      let small = f.id in
      let id : id_at false (b false p rest f) ≡ p.id = omega arith in
      λ i. record { old = false; compat = p.compat; seq = p.seq; from = p.from; id = id i; payload = payload_is false p rest f i; check = check_is false p rest f i; block = new_block i }

-- a frame of MAVLink 1 has no flags and no signature block
module _ (p : Packet) (rest : List ℕ) (f : FitsFrame p) (o : FitsOld p) where
  old_size : frame_size_at true (b true p rest f) ≡ length (encoded true p rest f)
  old_size =
      let e = encoded_size true p rest f in
      let n : block_size p.block ≡ 0 = ap block_size o.block in
      let t : 6 + length p.payload + 2 + 0 ≡ length (encoded true p rest f) = omega arith in t

  old_packet : packet_at true (b true p rest f) ≡ record p { old = true }
  old_packet =
      let small = o.id in
      let id : id_at true (b true p rest f) ≡ p.id = omega arith in
      λ i. record { old = true; compat = sym o.compat i; seq = p.seq; from = p.from; id = id i; payload = payload_is true p rest f i; check = check_is true p rest f i; block = sym o.block i }

-- what encodes a frame of either version is found, if its version is read
found_as : (v : Bool) (extras : List (ℕ × ℕ)) (old : Bool) (p : Packet) (rest : List ℕ) → FitsFrame (record p { old = v }) → IsSealed extras old (record p { old = v }) → look_of extras old (encoding (record p { old = v }) ++ rest) ≡ Found (record p { old = v }) (length (encoding (record p { old = v })))
found_as true extras old p rest f s =
    let q : Packet = record p { old = true } in
    let o : FitsOld q = f.old refl in
    let small = o.id in
    ap (λ (t : Bool). look_of extras t (encoding q ++ rest)) (s.version refl)
    ∙ (ap (look_header extras true) (encoded_is true q rest f)
    ∙ header_found true q rest f extras s.extra s.known s.right (omega arith) (old_size q rest f o) (old_packet q rest f o))
found_as false extras old p rest f s =
    let q : Packet = record p { old = false } in
    let c : List ℕ = b false q rest f in
    let small = f.id in
    let l = long false q rest f in let e = encoded_size false q rest f in
    ap (look_of extras old) (encoded_is false q rest f)
    ∙ (ap (λ (t : Bool). look_as extras t c) (and_false old)
    ∙ (skip _ _ _ (and_false (nat_lt 0 (length c)))
    ∙ (skip _ _ _ (le-ltb (length c) 3 (omega arith))
    ∙ (skip _ _ _ (le-ltb 1 (incompat_flags q.block) (flags_le q.block))
    ∙ header_found false q rest f extras s.extra s.known s.right (omega arith) (new_size q rest f) (new_packet q rest f)))))

-- what encodes a frame is found
pub found : (extras : List (ℕ × ℕ)) (old : Bool) (p : Packet) (b rest : List ℕ) → FitsFrame p → IsSealed extras old p → b ≡ encoding p ++ rest → look_of extras old b ≡ Found p (length (encoding p))
found extras old p b rest f s e = ap (look_of extras old) e ∙ found_as p.old extras old p rest f s

-- the frame is read back
pub read_again : (v : Bool) (p : Packet) (rest : List ℕ) → FitsFrame (record p { old = v }) → packet_at v (encoding (record p { old = v }) ++ rest) ≡ record p { old = v }
read_again true p rest f =
    let q : Packet = record p { old = true } in
    ap (packet_at true) (encoded_is true q rest f) ∙ old_packet q rest f (f.old refl)
read_again false p rest f =
    let q : Packet = record p { old = false } in
    ap (packet_at false) (encoded_is false q rest f) ∙ new_packet q rest f
