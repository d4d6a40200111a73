use Rattle.std.proofs.Common.{refl}
use Rattle.std.specs.Int.{w16}
use Rattle.mav_profile.specs.Profile.{param_request_read_definition}
use Rattle.mav_messages.proofs.Decoded.{represents, signed_word}
use Rattle.mav_messages.proofs.params.ParamRequestRead.read.Goals as goal

pub returns : goal.returns
returns c =
    let payload = c.args.payload.now in
    let word = signed_word payload c.fits-payload in
    represents param_request_read_definition payload _ c.fits-payload (rw (word w16 0 2 c.i16_at.result refl c.i16_at.ensures, c.u8_at.ensures, c.u8_at-2.ensures, c.bytes_at.ensures) refl)
