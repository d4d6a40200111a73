use Rattle.std.proofs.Common.{refl}
use Rattle.std.specs.Int.{w32}
use Rattle.mav_profile.specs.Profile.{command_ack_definition}
use Rattle.mav_messages.proofs.Decoded.{represents, signed_word}
use Rattle.mav_messages.proofs.commands.CommandAck.read.Goals as goal

pub returns : goal.returns
returns c =
    let payload = c.args.payload.now in
    let word = signed_word payload c.fits-payload in
    represents command_ack_definition payload _ c.fits-payload (rw (c.u16_at.ensures, c.u8_at.ensures, c.u8_at-2.ensures, word w32 4 4 c.i32_at.result refl c.i32_at.ensures, c.u8_at-3.ensures, c.u8_at-4.ensures) refl)
