-- A signed frame's bytes with another signature.
use Rattle.std.proofs.Common.{◌≡◌, ℕ, Bool, true, false, ◌≤◌, ◌<◌, ◌-◌, ◌+◌, List, ◌∷◌, ◌++◌, length, take, All, Option, Some, None, IfSome, IsSome, sym, ap, ◌∙◌, subst, arith, refl, length-append, append_assoc}
use Rattle.std.proofs.lemmas.List.{length-take-le, take-take}
use Rattle.mav_frame.specs.Numbers.{little_endian}
use Rattle.mav_frame.specs.Packet.{Packet, SignatureBlock, FitsFrame}
use Rattle.mav_frame.specs.Encoding.{encoding}
use Rattle.mav_frame.specs.Raw.{IsFrame, packet_in, through_checksum}
use Rattle.mav_frame.proofs.SignedBytes.{signed_in}
use Rattle.mav_frame.proofs.RawFrames.{encodes_frame}

-- the frame with that signature
abbrev pub signed_by : Packet → SignatureBlock → List ℕ → Packet
signed_by p block sig = record p { block = Some record block { sig = sig } }

nothing : false ≡ true → ⊥
nothing e = cc

not_none : (block : SignatureBlock) → Some block ≡ None → ⊥
not_none block e = cc

fits_too : (p : Packet) (block : SignatureBlock) (sig : List ℕ) → FitsFrame (record p { block = Some block }) → length sig ≡ 6 → All (λ byte. byte < 256) sig → FitsFrame (signed_by p block sig)
fits_too p block sig f six bytes = record {
  compat = f.compat;
  seq = f.seq;
  sys = f.sys;
  comp = f.comp;
  id = f.id;
  length = f.length;
  payload = f.payload;
  check = f.check;
  block = record { link = f.block.link; stamp = f.block.stamp; length = six; bytes = bytes };
  old = λ is. absurd (not_none block (f.old is).block);
}

-- the signature is no part of what comes before the block
same_before : (v : Bool) (p : Packet) (x y : SignatureBlock) → through_checksum (record p { old = v; block = Some x }) ≡ through_checksum (record p { old = v; block = Some y })
same_before true p x y = refl
same_before false p x y = refl

encodes_too : (p : Packet) (block : SignatureBlock) (b sig : List ℕ) → b ≡ encoding (record p { block = Some block }) → FitsFrame (record p { block = Some block }) → take (length b - 6) b ++ sig ≡ encoding (signed_by p block sig)
encodes_too p block b sig e f =
    ap (λ (l : List ℕ). l ++ sig) (signed_in b (record p { block = Some block }) e f)
    ∙ append_assoc (through_checksum (record p { block = Some block })) (block.link ∷ little_endian 6 block.stamp) sig
    ∙ ap (λ (l : List ℕ). l ++ (block.link ∷ little_endian 6 block.stamp ++ sig)) (same_before p.old p block (record block { sig = sig }))

pub same_part : (n : ℕ) (l : List ℕ) → n ≤ length l → take (length (take n l) - 6) (take n l) ≡ take (n - 6) l
same_part n l h = ap (λ (k : ℕ). take (k - 6) (take n l)) (length-take-le n l h) ∙ take-take (n - 6) n l (omega (arith))

-- the bytes of a signed frame up to its signature, and another signature
resigned : (p : Packet) (o : Option SignatureBlock) (b sig : List ℕ) → b ≡ encoding (record p { block = o }) → FitsFrame (record p { block = o }) → length sig ≡ 6 → All (λ byte. byte < 256) sig → IsSome o → IsFrame (take (length b - 6) b ++ sig) × IfSome o (λ (block : SignatureBlock). packet_in (take (length b - 6) b ++ sig) ≡ signed_by p block sig)
resigned p None b sig e f six bytes is = absurd (nothing is)
resigned p (Some block) b sig e f six bytes is =
    encodes_frame (take (length b - 6) b ++ sig) (signed_by p block sig) (encodes_too p block b sig e f) (fits_too p block sig f six bytes)

at_end : (xs ys : List ℕ) → 6 ≤ length ys → 6 ≤ length (xs ++ ys)
at_end xs ys h = omega (arith, h, length-append xs ys)

tail_long : (a : List ℕ) (x : ℕ) (m sig : List ℕ) → length sig ≡ 6 → 6 ≤ length (a ++ (x ∷ m ++ sig))
tail_long a x m sig six = at_end a (x ∷ m ++ sig) (at_end (x ∷ m) sig (omega (arith, six)))

-- a signed frame has the bytes of a signature
long : (p : Packet) (o : Option SignatureBlock) (b : List ℕ) → b ≡ encoding (record p { block = o }) → FitsFrame (record p { block = o }) → IsSome o → 6 ≤ length b
long p None b e f is = absurd (nothing is)
long p (Some block) b e f is =
    subst (λ (l : List ℕ). 6 ≤ length l) (sym e) (tail_long (through_checksum (record p { block = Some block })) block.link (little_endian 6 block.stamp) block.sig f.block.length)

pub signed_long : (b : List ℕ) (p : Packet) → b ≡ encoding p → FitsFrame p → IsSome p.block → 6 ≤ length b
signed_long b p e f is = long p p.block b e f is

pub signed_again : (b sig : List ℕ) (p : Packet) → b ≡ encoding p → FitsFrame p → length sig ≡ 6 → All (λ byte. byte < 256) sig → IsSome p.block → IsFrame (take (length b - 6) b ++ sig) × IfSome p.block (λ (block : SignatureBlock). packet_in (take (length b - 6) b ++ sig) ≡ signed_by p block sig)
signed_again b sig p e f six bytes is = resigned p p.block b sig e f six bytes is

there : (size at : ℕ) (sig : List ℕ) → 6 ≤ size → length sig ≡ 6 → at ≡ size - 6 + length sig → size ≡ at
there size at sig h six e = omega (arith, h, six, e)

-- what `put` leaves of a signed frame's bytes at the start of a buffer, if it writes another signature there
pub put_signature : (size at : ℕ) (b out sig : List ℕ) (p : Packet) → size ≤ length b → IsFrame (take size b) → packet_in (take size b) ≡ p → length sig ≡ 6 → All (λ byte. byte < 256) sig → IsSome p.block → at ≡ size - 6 + length sig → take at out ≡ take (size - 6) b ++ sig → IsFrame (take size out) × IfSome p.block (λ (block : SignatureBlock). packet_in (take size out) ≡ signed_by p block sig)
put_signature size at b out sig p within frame is six bytes some ends goes =
    let held : List ℕ = take size b in
    let e : held ≡ encoding p = frame.bytes ∙ ap encoding is in
    let f : FitsFrame p = subst FitsFrame is frame.fits in
    let n : length held ≡ size = length-take-le size b within in
    let long : 6 ≤ size = subst (λ (k : ℕ). 6 ≤ k) n (signed_long held p e f some) in
    let same : take size out ≡ take (length held - 6) held ++ sig = ap (λ (k : ℕ). take k out) (there size at sig long six ends) ∙ goes ∙ ap (λ (l : List ℕ). l ++ sig) (sym (same_part size b within)) in
    subst (λ (l : List ℕ). IsFrame l × IfSome p.block (λ (block : SignatureBlock). packet_in l ≡ signed_by p block sig)) (sym same) (signed_again held sig p e f six bytes some)
