use Rattle.std.proofs.Common.{◌≡◌, ◌≤◌, ◌∷◌, ◌++◌, List, ℕ, take, Some, ap, ◌∙◌, arith}
use Rattle.mav_frame.specs.Encoding.{block_bytes, checked_bytes, sealed, unsealed}
use Rattle.mav_frame.specs.Raw.{IsFrame, packet_in}
use Rattle.mav_frame.proofs.SealedBytes.{sealed_bytes}
use Rattle.mav_frame.proofs.frame_bytes.FrameBytes.seal.Goals as goal

written : (c : goal.After-self-1) → IsFrame (take c.put_block-size.result c.put_block-size.new.out) × (packet_in (take c.put_block-size.result c.put_block-size.new.out) ≡ sealed c.args.extra (unsealed c.args.seq c.args.from c.args.id c.args.payload.now (Some c.args.block)))
written c =
    let payload = c.args.payload.now in
    let at = c.put-at-3.result in
    let checked = c.put-at-3.new.out in
    let before : take at checked ≡ 0xFD ∷ checked_bytes (unsealed c.args.seq c.args.from c.args.id payload (Some c.args.block)) =
    c.put-at-3.ensures.prefix ∙ ap (λ (l : List ℕ). l ++ payload) (c.put-at-2.ensures.prefix ∙ (ap (λ (l : List ℕ). l ++ c.new_header-header.result) c.put-at.ensures.prefix ∙ ap (λ (l : List ℕ). 0xFD ∷ l) c.new_header-header.ensures)) in
    let goes = c.put_block-size.ensures.prefix ∙ ap (λ (l : List ℕ). l ++ block_bytes (Some c.args.block)) (c.put-at-4.ensures.prefix ∙ ap (λ (l : List ℕ). take at checked ++ l) c.bytes_2.ensures) in
    let some : 1 ≤ at = omega (arith, c.put-at-3.ensures.end, c.put-at-2.ensures.end, c.put-at.ensures.end) in
    sealed_bytes c.args.seq c.args.id c.args.extra c.checksum-check.result c.args.from payload c.args.block at c.put_block-size.result checked c.put_block-size.new.out some before c.checksum-check.ensures goes c.signed_fits.ensures

pub invariant_of-self : goal.invariant_of-self
invariant_of-self c =
    (omega (arith, c.put_block-size.ensures.end, c.put-at-4.ensures.end, c.put-at-3.ensures.end, c.put-at-2.ensures.end, c.put-at.ensures.end, c.requires.payload, c.signed_fits.ensures.block.length), (written c).0)

pub returns : goal.returns
returns c = (written c).1
