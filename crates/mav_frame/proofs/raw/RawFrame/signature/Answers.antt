use Rattle.std.proofs.Common.{◌≡◌, ◌-◌, length, slice_range, IfSome, subst}
use Rattle.mav_frame.specs.Packet.{Packet, SignatureBlock}
use Rattle.mav_frame.specs.Raw.{packet_in}
use Rattle.mav_frame.proofs.SignedBytes.{signature_in}
use Rattle.mav_frame.proofs.raw.RawFrame.signature.Goals as goal

pub returns : goal.returns
returns c =
    let b = c.self.inside.bytes.now in
    subst (λ (p : Packet). IfSome p.block (λ (block : SignatureBlock). slice_range b (length b - 6) (length b) ≡ block.sig)) c.self.view_is (signature_in b (packet_in b) c.self.invariant.bytes c.self.invariant.fits)
