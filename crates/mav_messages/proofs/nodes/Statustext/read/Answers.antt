use Rattle.std.proofs.Common.{refl}
use Rattle.mav_profile.specs.Profile.{statustext_definition}
use Rattle.mav_messages.proofs.Decoded.{represents}
use Rattle.mav_messages.proofs.nodes.Statustext.read.Goals as goal

pub returns : goal.returns
returns c =
    let payload = c.args.payload.now in
    represents statustext_definition payload _ c.fits-payload (rw (c.u8_at.ensures, c.bytes_at.ensures, c.u16_at.ensures, c.u8_at-2.ensures) refl)
