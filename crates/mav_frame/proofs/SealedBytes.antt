-- A signed frame that is written part by part, with its checksum.
use Rattle.std.proofs.Common.{◌≡◌, ℕ, zero, suc, ◌-◌, ◌≤◌, List, [], ◌∷◌, ◌++◌, take, drop, slice_range, Some, ap, ◌∙◌, arith}
use Rattle.x25_check.specs.Check.{check}
use Rattle.mav_names.specs.declared.names.Name.{Name}
use Rattle.mav_frame.specs.Numbers.{little_endian}
use Rattle.mav_frame.specs.Packet.{Packet, SignatureBlock, FitsFrame}
use Rattle.mav_frame.specs.Encoding.{block_bytes, checked_bytes, checksum, encoding, sealed, unsealed}
use Rattle.mav_frame.specs.Raw.{IsFrame, packet_in}
use Rattle.mav_frame.proofs.RawFrames.{encodes_frame}

-- the bytes after the first of some, if these are known
after_first : (n x : ℕ) (xs bytes : List ℕ) → 1 ≤ n → take n bytes ≡ x ∷ xs → slice_range bytes 1 n ≡ xs
after_first zero x xs bytes some e = absurd (omega (arith, some))
after_first (suc n) x xs [] some e = cc
after_first (suc n) x xs (y ∷ bytes) some e =
    let less : suc n - 1 ≡ n = omega arith in
    ap (λ (k : ℕ). take k bytes) less ∙ ap (drop 1) e

-- what is written last, with the checksum of what was written before
pub sealed_bytes : (seq id extra value : ℕ) (from : Name) (payload : List ℕ) (block : SignatureBlock) (at size : ℕ) (bytes whole : List ℕ) → 1 ≤ at → take at bytes ≡ 0xFD ∷ checked_bytes (unsealed seq from id payload (Some block)) → value ≡ check (slice_range bytes 1 at ++ extra ∷ []) → take size whole ≡ (take at bytes ++ little_endian 2 value) ++ block_bytes (Some block) → FitsFrame (record (unsealed seq from id payload (Some block)) { check = value }) → IsFrame (take size whole) × (packet_in (take size whole) ≡ sealed extra (unsealed seq from id payload (Some block)))
sealed_bytes seq id extra value from payload block at size bytes whole some before is goes fits =
    let p : Packet = unsealed seq from id payload (Some block) in
    let same : value ≡ checksum p extra = is ∙ ap (λ (l : List ℕ). check (l ++ extra ∷ [])) (after_first at 0xFD (checked_bytes p) bytes some before) in
    let e : take size whole ≡ encoding (record p { check = value }) =
    goes ∙ ap (λ (l : List ℕ). (l ++ little_endian 2 value) ++ block_bytes (Some block)) before in
    let frame = encodes_frame (take size whole) (record p { check = value }) e fits in
    (frame.0, frame.1 ∙ ap (λ (n : ℕ). record p { check = n }) same)
