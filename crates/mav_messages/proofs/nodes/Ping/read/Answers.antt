use Rattle.std.proofs.Common.{refl}
use Rattle.mav_profile.specs.Profile.{ping_definition}
use Rattle.mav_messages.proofs.Decoded.{represents}
use Rattle.mav_messages.proofs.nodes.Ping.read.Goals as goal

pub returns : goal.returns
returns c =
    let payload = c.args.payload.now in
    represents ping_definition payload _ c.fits-payload (rw (c.u64_at.ensures, c.u32_at.ensures, c.u8_at.ensures, c.u8_at-2.ensures) refl)
