use Rattle.std.proofs.Common.{refl}
use Rattle.mav_profile.specs.Profile.{param_set_definition}
use Rattle.mav_messages.proofs.Decoded.{represents}
use Rattle.mav_messages.proofs.params.ParamSet.read.Goals as goal

pub returns : goal.returns
returns c =
    let payload = c.args.payload.now in
    represents param_set_definition payload _ c.fits-payload (rw (c.u32_at.ensures, c.u8_at.ensures, c.u8_at-2.ensures, c.bytes_at.ensures, c.u8_at-3.ensures) refl)
