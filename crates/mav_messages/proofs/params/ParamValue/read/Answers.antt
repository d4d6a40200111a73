use Rattle.std.proofs.Common.{refl}
use Rattle.mav_profile.specs.Profile.{param_value_definition}
use Rattle.mav_messages.proofs.Decoded.{represents}
use Rattle.mav_messages.proofs.params.ParamValue.read.Goals as goal

pub returns : goal.returns
returns c =
    let payload = c.args.payload.now in
    represents param_value_definition payload _ c.fits-payload (rw (c.u32_at.ensures, c.u16_at.ensures, c.u16_at-2.ensures, c.bytes_at.ensures, c.u8_at.ensures) refl)
