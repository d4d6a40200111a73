-- The parts of a signed frame's bytes: what is signed, and its signature.
use Rattle.std.proofs.Common.{◌≡◌, ℕ, ◌-◌, List, ◌∷◌, ◌++◌, length, take, drop, slice_range, Option, Some, None, IfSome, sym, ap, ◌∙◌, subst, arith, length-append, append_assoc}
use Rattle.std.proofs.Math.Seq.{take-append_seam, drop-append_seam, take-length}
use Rattle.mav_frame.specs.Numbers.{little_endian}
use Rattle.mav_frame.specs.Packet.{Packet, SignatureBlock, FitsBlock, FitsFrame}
use Rattle.mav_frame.specs.Encoding.{block_bytes, encoding}
use Rattle.mav_frame.specs.Raw.{through_checksum}

-- what comes before the last six bytes
before : (xs ys : List ℕ) → length ys ≡ 6 → take (length (xs ++ ys) - 6) (xs ++ ys) ≡ xs
before xs ys six =
    let l : length (xs ++ ys) - 6 ≡ length xs = omega (arith, six, length-append xs ys) in
    ap (λ (n : ℕ). take n (xs ++ ys)) l ∙ take-append_seam xs ys

-- and these
after : (xs ys : List ℕ) → length ys ≡ 6 → slice_range (xs ++ ys) (length (xs ++ ys) - 6) (length (xs ++ ys)) ≡ ys
after xs ys six =
    let start : length (xs ++ ys) - 6 ≡ length xs = omega (arith, six, length-append xs ys) in
    let size : length (xs ++ ys) - (length (xs ++ ys) - 6) ≡ length ys = omega (arith, six, length-append xs ys) in
    let left : drop (length (xs ++ ys) - 6) (xs ++ ys) ≡ ys = ap (λ (n : ℕ). drop n (xs ++ ys)) start ∙ drop-append_seam xs ys in
    ap (take (length (xs ++ ys) - (length (xs ++ ys) - 6))) left ∙ (ap (λ (n : ℕ). take n ys) size ∙ take-length ys)

-- what is signed
signed_part : (a : List ℕ) (o : Option SignatureBlock) → IfSome o FitsBlock → IfSome o (λ (block : SignatureBlock). take (length (a ++ block_bytes o) - 6) (a ++ block_bytes o) ≡ a ++ block.link ∷ little_endian 6 block.stamp)
signed_part a None f = tt
signed_part a (Some block) f =
    let signed : List ℕ = a ++ block.link ∷ little_endian 6 block.stamp in
    subst (λ (l : List ℕ). take (length l - 6) l ≡ signed) (append_assoc a (block.link ∷ little_endian 6 block.stamp) block.sig) (before signed block.sig f.length)

-- the signature
signature_part : (a : List ℕ) (o : Option SignatureBlock) → IfSome o FitsBlock → IfSome o (λ (block : SignatureBlock). slice_range (a ++ block_bytes o) (length (a ++ block_bytes o) - 6) (length (a ++ block_bytes o)) ≡ block.sig)
signature_part a None f = tt
signature_part a (Some block) f =
    let signed : List ℕ = a ++ block.link ∷ little_endian 6 block.stamp in
    subst (λ (l : List ℕ). slice_range l (length l - 6) (length l) ≡ block.sig) (append_assoc a (block.link ∷ little_endian 6 block.stamp) block.sig) (after signed block.sig f.length)

-- the same of the bytes of a frame
pub signed_in : (b : List ℕ) (p : Packet) → b ≡ encoding p → FitsFrame p → IfSome p.block (λ (block : SignatureBlock). take (length b - 6) b ≡ through_checksum p ++ block.link ∷ little_endian 6 block.stamp)
signed_in b p e f =
    subst (λ (l : List ℕ). IfSome p.block (λ (block : SignatureBlock). take (length l - 6) l ≡ through_checksum p ++ block.link ∷ little_endian 6 block.stamp)) (sym e) (signed_part (through_checksum p) p.block f.block)

pub signature_in : (b : List ℕ) (p : Packet) → b ≡ encoding p → FitsFrame p → IfSome p.block (λ (block : SignatureBlock). slice_range b (length b - 6) (length b) ≡ block.sig)
signature_in b p e f =
    subst (λ (l : List ℕ). IfSome p.block (λ (block : SignatureBlock). slice_range l (length l - 6) (length l) ≡ block.sig)) (sym e) (signature_part (through_checksum p) p.block f.block)
