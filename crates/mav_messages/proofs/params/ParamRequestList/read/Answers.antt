use Rattle.std.proofs.Common.{refl}
use Rattle.mav_profile.specs.Profile.{param_request_list_definition}
use Rattle.mav_messages.proofs.Decoded.{represents}
use Rattle.mav_messages.proofs.params.ParamRequestList.read.Goals as goal

pub returns : goal.returns
returns c =
    let payload = c.args.payload.now in
    represents param_request_list_definition payload _ c.fits-payload (rw (c.u8_at.ensures, c.u8_at-2.ensures) refl)
