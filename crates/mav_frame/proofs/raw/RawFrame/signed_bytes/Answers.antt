use Rattle.std.proofs.Common.{◌≡◌, ◌-◌, ◌∷◌, ◌++◌, length, take, IfSome, subst}
use Rattle.mav_frame.specs.Numbers.{little_endian}
use Rattle.mav_frame.specs.Packet.{Packet, SignatureBlock}
use Rattle.mav_frame.specs.Raw.{packet_in, through_checksum}
use Rattle.mav_frame.proofs.SignedBytes.{signed_in}
use Rattle.mav_frame.proofs.raw.RawFrame.signed_bytes.Goals as goal

pub returns : goal.returns
returns c =
    let b = c.self.inside.bytes.now in
    subst (λ (p : Packet). IfSome p.block (λ (block : SignatureBlock). take (length b - 6) b ≡ through_checksum p ++ block.link ∷ little_endian 6 block.stamp)) c.self.view_is (signed_in b (packet_in b) c.self.invariant.bytes c.self.invariant.fits)
